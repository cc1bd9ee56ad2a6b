-- A line has a spot exactly if a walk along its corners comes to a run that has it. Assumes nothing.
use Prim.Native.Nat.{ℕ, zero, suc, ◌+◌, ◌-◌, ◌<◌, ◌≤◌}
use native.Mathlib.Omega.{arith}
use native.Mathlib.Numerals.{add-one}
use mathlib.Core.Path.{◌≡◌, refl, sym, ap, ap₂, ◌∙◌}
use mathlib.Core.Bool.{Bool, true, false, ◌||◌, or-false}
use mathlib.Core.List.{List, [], ◌∷◌, map}
use lib.ListN.{length, get_or, drop, drop_of_length-le}
use lib.Seq.{drop-cons}
use Rattle.lists.specs.Select.{any, up_from, range}
use Rattle.geometry.specs.Spots.{Spot}
use Rattle.geometry.specs.Lines.{point}
use Rattle.geometry.specs.Crossing.{between}
use Rattle.drawing.specs.Reading.{word_spot}
use Rattle.validation.specs.Alone.{on_line}
use Rattle.validation.specs.Facing.{line_over}

-- A run before those of a line

any_later : (p : ℕ → Bool) (i n : ℕ) → any p (up_from (i + 1) n) ≡ any (λ k. p (suc k)) (up_from i n)
unfolding any up_from
any_later p i zero = refl
any_later p i (suc n) = ap₂ (λ (a b : Bool). a || b) (ap p (add-one i)) (any_later p (i + 1) n)

on_more : (p c : Spot) (ds : List Spot) (s : Spot) → on_line (p ∷ c ∷ ds) s ≡ (between p c s || on_line (c ∷ ds) s)
unfolding on_line any range up_from point
on_more p c ds s =
    let e : suc (suc (length ds)) - 1 ≡ suc (length ds) = omega arith in
    let f : suc (length ds) - 1 ≡ length ds = omega arith in
    let has : ℕ → Bool = λ k. between (point (p ∷ c ∷ ds) k) (point (p ∷ c ∷ ds) (suc k)) s in
    rw (e, f) (ap (λ (b : Bool). between p c s || b) (any_later has 0 (length ds)))

on_none : (p s : Spot) → on_line (p ∷ []) s ≡ false
unfolding on_line any range up_from
on_none p s = refl

-- The walk in code, over the words of the corners: at word k, from this spot
pub record Passing (first last : Spot) (ws : List ℕ) (s p : Spot) (k : ℕ) : Type 0 where
  pub left : on_line (line_over p (map word_spot (drop k ws)) last) s ≡ on_line (line_over first (map word_spot ws) last) s

pub passing_start : {first last : Spot} {ws : List ℕ} {s : Spot} → Passing first last ws s first 0
passing_start = record { left = refl }

module _ {first last : Spot} {ws : List ℕ} {s p : Spot} {k : ℕ} (W : Passing first last ws s p k) where
  pub passing_end : length ws ≤ k → (r : Bool) → r ≡ between p last s → r ≡ on_line (line_over first (map word_spot ws) last) s
  passing_end h r e =
      let l = W.left in
      e ∙ sym (on_more p last [] s ∙ rw (on_none last s) (or-false (between p last s))) ∙ (rw (drop_of_length-le ws {i = k} h) at l)

  module _ (c : Spot) (e : c ≡ word_spot (get_or ws k 0)) (h : k < length ws) (r : Bool) (f : r ≡ between p c s) where
    run_due :
        (between p c s || on_line (line_over c (map word_spot (drop (k + 1) ws)) last) s) ≡ on_line (line_over first (map word_spot ws) last) s
    run_due =
        let l = W.left in
        rw (e, add-one) (sym (on_more p (word_spot (get_or ws k 0)) _ s) ∙ (rw (drop-cons ws k 0 h) at l))

    pub passing_here : r ≡ true → true ≡ on_line (line_over first (map word_spot ws) last) s
    passing_here g = let d : between p c s ≡ true = sym f ∙ g in rw d at run_due

    pub passing_on : r ≡ false → Passing first last ws s c (k + 1)
    passing_on g = let d : between p c s ≡ false = sym f ∙ g in record { left = rw d at run_due }
