-- The tests of checks 1 to 8, from the facts that the code's branches leave. Assumes nothing.
use Rattle.std.specs.Prelude.{Some, None}
use Prim.Native.Nat.{ℕ, ◌+◌, ◌≤◌, ◌<◌}
use mathlib.Core.Path.{◌≡◌, refl, ◌∙◌}
use mathlib.Core.Bool.{Bool, true, false, cond, not, ◌||◌}
use native.Mathlib.Omega.{arith}
use borrow.Author.Tests.{eq-eqb, ne_eqb, lt-ltb, le-ltb, le-leb, lt-leb}
use mathlib.Core.List.{List}
use lib.ListN.{length, get_or}
use lib.Dec.{eqb, ltb, leb}
use Rattle.words.specs.Words.{kind_of, spare_of, first_of, second_of, parts_of, cables_of, list_head, ends, cable}
use Rattle.words.specs.Limits.{least_parts, most_parts, most_degree}
use Rattle.checks.specs.Checks.{at_when}
use Rattle.station.specs.Checks.{kind_at, misplaced, check3, check4, outside}

-- ---- check 2
pub misplaced_kind : (i w : ℕ) → (kind_of w ≡ kind_at i → ⊥) → true ≡ misplaced i w
unfolding misplaced
misplaced_kind i w h = rw (ne_eqb (kind_of w) (kind_at i) h)

pub misplaced_head : (i w : ℕ) → kind_of w ≡ kind_at i → kind_of w ≡ list_head → false ≡ misplaced i w
unfolding misplaced
misplaced_head i w h e =
    rw (eq-eqb (kind_of w) (kind_at i) h, ne_eqb (kind_of w) ends (λ z. omega arith), ne_eqb (kind_of w) cable (λ z. omega arith))

kind_at_ends : (i : ℕ) → (kind_at i ≡ list_head → ⊥) → (eqb (kind_at i) ends || eqb (kind_at i) cable) ≡ true
unfolding kind_at
kind_at_ends i h = go (eqb i 0) (eqb i 1) h
  where
    go : (a b : Bool) → (cond a list_head (cond b ends cable) ≡ list_head → ⊥)
        → (eqb (cond a list_head (cond b ends cable)) ends || eqb (cond a list_head (cond b ends cable)) cable) ≡ true
    go true b k = absurd (k refl)
    go false true k = refl
    go false false k = refl

pub misplaced_spare : (i w : ℕ) → kind_of w ≡ kind_at i → (kind_of w ≡ list_head → ⊥) → not (eqb (spare_of w) 0) ≡ misplaced i w
unfolding misplaced
misplaced_spare i w h n =
    let e : (eqb (kind_of w) ends || eqb (kind_of w) cable) ≡ true = rw h (kind_at_ends i (λ z. n (h ∙ z))) in
    rw (eq-eqb (kind_of w) (kind_at i) h, e)

-- ---- checks 3 and 4
module _ (list : List ℕ) where
  pub length_off : (length list ≡ cables_of (get_or list 0 0) + 2 → ⊥) → Some (cables_of (get_or list 0 0) + 2) ≡ check3 list
  unfolding check3 at_when
  length_off h = rw (ne_eqb (length list) (cables_of (get_or list 0 0) + 2) h)

  pub length_right : length list ≡ cables_of (get_or list 0 0) + 2 → None ≡ check3 list
  unfolding check3 at_when
  length_right h = rw (eq-eqb (length list) (cables_of (get_or list 0 0) + 2) h)

  pub parts_few : parts_of (get_or list 0 0) < least_parts → Some (parts_of (get_or list 0 0)) ≡ check4 list
  unfolding check4 at_when
  parts_few h = rw (lt-ltb (parts_of (get_or list 0 0)) least_parts h)

  pub parts_many : most_parts < parts_of (get_or list 0 0) → Some (parts_of (get_or list 0 0)) ≡ check4 list
  unfolding check4 at_when
  parts_many h = rw (le-ltb (parts_of (get_or list 0 0)) least_parts (omega arith), lt-ltb most_parts (parts_of (get_or list 0 0)) h)

  pub parts_right : least_parts ≤ parts_of (get_or list 0 0) → parts_of (get_or list 0 0) ≤ most_parts → None ≡ check4 list
  unfolding check4 at_when
  parts_right h k = rw (le-ltb (parts_of (get_or list 0 0)) least_parts h, le-ltb most_parts (parts_of (get_or list 0 0)) k)

-- ---- check 5
pub outside_first : (n w : ℕ) → n ≤ first_of w → true ≡ outside n w
unfolding outside
outside_first n w h = rw (le-leb n (first_of w) h)

pub outside_second : (n w : ℕ) → first_of w < n → leb n (second_of w) ≡ outside n w
unfolding outside
outside_second n w h = rw (lt-leb n (first_of w) h)

-- ---- check 8
pub degree_over : (x d : ℕ) → x ≡ d → most_degree < x → ltb most_degree d ≡ true
degree_over x d e h = lt-ltb most_degree d (omega arith)

pub degree_within : (x d : ℕ) → x ≡ d → x ≤ most_degree → ltb most_degree d ≡ false
degree_within x d e h = le-ltb most_degree d (omega arith)
