-- The tests and searches of 19, from the facts that the code's branches leave. Assumes nothing.
use Rattle.std.specs.Prelude.{Option, Some, None}
use Prim.Native.Nat.{ℕ, zero, suc, ◌+◌, ◌-◌, ◌<◌, ◌≤◌}
use native.Mathlib.Omega.{arith}
use mathlib.Core.Path.{◌≡◌, refl, sym, ◌∙◌}
use mathlib.Core.Bool.{Bool, true, false}
use mathlib.Core.List.{List}
use lib.ListN.{length, get_or}
use Rattle.words.specs.Words.{second_of, part, corner}
use Rattle.validation.proofs.Following.{misplaced_e, points_e}
use Rattle.validation.specs.Layout.{is_head, is_cable_at, misplaced, or_found, points_fault, cables_fault, check19}

module _ (fits : ℕ → Bool) (sheet : List ℕ) (at : ℕ) where
  -- a word that is in place is there
  pub placed_inside : misplaced fits sheet at ≡ false → at < length sheet
  placed_inside h = let r = misplaced_e fits sheet at h in r.0

  pub placed_after : misplaced fits sheet at ≡ false → at + 1 ≤ length sheet
  placed_after h = let r = placed_inside h in omega (arith, r)

-- what k words in place say of those behind them
pub points_inside :
    (kind head : ℕ) (sheet : List ℕ) (at k : ℕ) → at ≤ length sheet → points_fault kind head sheet at k ≡ None → at + k ≤ length sheet
points_inside kind head sheet at zero h e = omega (arith, h)
points_inside kind head sheet at (suc k) h e = let r = (points_e kind head sheet at (suc k) e k (omega arith)).0 in omega (arith, r)

-- the cables from a line on, as far as a place
pub record Reading (sheet : List ℕ) (first cables at line : ℕ) : Type 0 where
  pub inside : at ≤ length sheet
  pub few : line ≤ cables
  pub rest : cables_fault (get_or sheet 0 0) sheet line (cables - line) at ≡ cables_fault (get_or sheet 0 0) sheet 0 cables first

module _ (sheet : List ℕ) (first cables : ℕ) where
  module _ {at line : ℕ} (R : Reading sheet first cables at line) where
    abbrev fault : Option ℕ
    fault = cables_fault (get_or sheet 0 0) sheet 0 cables first

    -- the definition at this line
    turn : line < cables → cables_fault (get_or sheet 0 0) sheet line (suc (cables - (line + 1))) at ≡ fault
    turn h = let e : suc (cables - (line + 1)) ≡ cables - line = omega arith in rw e R.rest

    pub reading_cable : line < cables → misplaced (is_cable_at line) sheet at ≡ true → Some at ≡ fault
    unfolding cables_fault
    reading_cable h m = sym (rw m refl) ∙ turn h

    module _ (h : line < cables) (m : misplaced (is_cable_at line) sheet at ≡ false) {count : ℕ}
        (q : count ≡ second_of (get_or sheet at 0)) where
      abbrev corners : Option ℕ
      corners = points_fault corner (get_or sheet 0 0) sheet (at + 1) count

      behind : or_found corners (cables_fault (get_or sheet 0 0) sheet (line + 1) (cables - (line + 1)) (at + (1 + count))) ≡ fault
      unfolding cables_fault
      behind = rw q (sym (rw m refl) ∙ turn h)

      pub reading_corner : (place : ℕ) → corners ≡ Some place → Some place ≡ fault
      reading_corner place e = sym (rw e refl) ∙ behind

      pub reading_next : corners ≡ None → Reading sheet first cables (at + (1 + count)) (line + 1)
      reading_next e = record {
        inside =
            let l = placed_inside (is_cable_at line) sheet at m in
            let k = points_inside corner (get_or sheet 0 0) sheet (at + 1) count (omega (arith, l)) e in
            omega (arith, k);
        few = omega (arith, h);
        rest = sym (rw e refl) ∙ behind;
      }

    pub reading_end : cables ≤ line → None ≡ fault
    unfolding cables_fault
    reading_end h = let e : cables - line ≡ 0 = omega arith in sym (rw e refl) ∙ R.rest

-- The whole sheet

-- a search of as many words
pub parts_read :
    (sheet : List ℕ) {n k : ℕ} {f : Option ℕ} → n ≡ k → points_fault part (get_or sheet 0 0) sheet 1 k ≡ f
    → points_fault part (get_or sheet 0 0) sheet 1 n ≡ f
parts_read sheet e h = rw e h

module _ (n m : ℕ) (sheet : List ℕ) where
  pub layout_head : misplaced is_head sheet 0 ≡ true → Some 0 ≡ check19 n m sheet
  unfolding check19
  layout_head h = rw h

  module _ (h : misplaced is_head sheet 0 ≡ false) where
    parts_first :
        check19 n m sheet
        ≡ or_found (points_fault part (get_or sheet 0 0) sheet 1 n) (cables_fault (get_or sheet 0 0) sheet 0 m (1 + n))
    unfolding check19
    parts_first = rw h refl

    pub layout_part : (place : ℕ) → points_fault part (get_or sheet 0 0) sheet 1 n ≡ Some place → Some place ≡ check19 n m sheet
    layout_part place e = sym (parts_first ∙ rw e refl)

    pub layout_cables :
        points_fault part (get_or sheet 0 0) sheet 1 n ≡ None → cables_fault (get_or sheet 0 0) sheet 0 m (1 + n) ≡ check19 n m sheet
    layout_cables e = sym (parts_first ∙ rw e refl)
