-- Request 2026-09, 19: 'a word out of the layout, missing, or a point beyond the head'. The words of a sheet of n parts and m cables, by
-- position. Assumes nothing.
use Rattle.std.specs.Prelude.{ℕ, zero, suc, ◌+◌, ◌<◌, ◌≤◌, ◌≡◌, Bool, true, cond, not, ◌&&◌, ◌||◌, List, length, get_or, eqb, leb, Option, Some, None}
use Rattle.lists.specs.Search.{seek}
use Rattle.words.specs.Words.{kind_of, spare_of, first_of, second_of, line_of, sheet_head, part, sheet_cable, corner}

-- 'sheet head', with no spare bit
unfoldable pub is_head : ℕ → Bool
is_head w = eqb (kind_of w) sheet_head && eqb (spare_of w) 0

-- a word of a point that 'no point exceeds its head' allows: of its kind, with no spare bit, and neither x nor y beyond the head's
unfoldable pub is_point : ℕ → ℕ → ℕ → Bool
is_point kind head w =
    eqb (kind_of w) kind && eqb (spare_of w) 0 && leb (first_of w) (first_of head) && leb (second_of w) (second_of head)

-- 'cable: line number in bits 27 to 12'; any count of corners
unfoldable pub is_cable_at : ℕ → ℕ → Bool
is_cable_at line w = eqb (kind_of w) sheet_cable && eqb (line_of w) line

-- the word at this place is missing, or is not what stands there
unfoldable pub misplaced : (ℕ → Bool) → List ℕ → ℕ → Bool
misplaced fits sheet at = leb (length sheet) at || not (fits (get_or sheet at 0))

-- what is found first
abbrev pub or_found : Option ℕ → Option ℕ → Option ℕ
or_found (Some place) later = Some place
or_found None later = later

-- the first of k words from a place on that is no such point
unfoldable pub points_fault : ℕ → ℕ → List ℕ → ℕ → ℕ → Option ℕ
points_fault kind head sheet at k = seek (misplaced (is_point kind head) sheet) at k

-- the first from a place on that is out of place among the words of m cables, the first of them at this line, each with the corners that it
-- counts; 'reading stops behind the last cable's word and the corners that it counts'
unfoldable pub cables_fault : ℕ → List ℕ → ℕ → ℕ → ℕ → Option ℕ
cables_fault head sheet line zero at = None
cables_fault head sheet line (suc m) at =
    let k = second_of (get_or sheet at 0) in
    cond (misplaced (is_cable_at line) sheet at) (Some at)
    (or_found (points_fault corner head sheet (at + 1) k) (cables_fault head sheet (line + 1) m (at + (1 + k))))

-- 19, of a sheet of n parts and m cables: 'place the first such word'. One that is missing would stand behind the last.
unfoldable pub check19 : ℕ → ℕ → List ℕ → Option ℕ
check19 n m sheet =
    let head = get_or sheet 0 0 in
    cond (misplaced is_head sheet 0) (Some 0) (or_found (points_fault part head sheet 1 n) (cables_fault head sheet 0 m (1 + n)))

-- The same as a claim

-- the place of the word of the cable at a line
unfoldable pub cable_place : ℕ → List ℕ → ℕ → ℕ
cable_place n sheet zero = 1 + n
cable_place n sheet (suc i) = cable_place n sheet i + (1 + second_of (get_or sheet (cable_place n sheet i) 0))

-- 'its words follow the layout, no point exceeds its head'
pub record Follows (n m : ℕ) (sheet : List ℕ) : Type 0 where
  pub complete : cable_place n sheet m ≤ length sheet
  pub head : is_head (get_or sheet 0 0) ≡ true
  pub parts : (p : ℕ) → p < n → is_point part (get_or sheet 0 0) (get_or sheet (1 + p) 0) ≡ true
  pub cables : (i : ℕ) → i < m → is_cable_at i (get_or sheet (cable_place n sheet i) 0) ≡ true
  pub corners :
      (i k : ℕ) → i < m → k < second_of (get_or sheet (cable_place n sheet i) 0)
      → is_point corner (get_or sheet 0 0) (get_or sheet (cable_place n sheet i + (1 + k)) 0) ≡ true
