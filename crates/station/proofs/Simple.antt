-- A list in which no cable is repeated describes a simple graph. Assumes nothing.
use Rattle.std.specs.Prelude.{None}
use Prim.Native.Nat.{ℕ, ◌+◌, ◌-◌, ◌<◌, ◌≤◌}
use native.Mathlib.Omega.{arith}
use native.Mathlib.Decide.{dec_lt}
use mathlib.Core.Path.{◌≡◌, sym, subst₂, ◌∙◌}
use mathlib.Core.Logic.{inl, inr}
use mathlib.Core.Bool.{true, false, ◌&&◌, false≢true}
use mathlib.Core.List.{List}
use lib.ListN.{length, get_or}
use lib.Dec.{eqb}
use borrow.Author.Tests.{eq-eqb}
use Rattle.lists.proofs.Bools.{or_right}
use Rattle.lists.proofs.Search.{not_found}
use Rattle.lists.proofs.Seek.{seek_nothing}
use Rattle.words.specs.Words.{first_of, second_of}
use Rattle.station.specs.Station.{Cable, no_cable, cable_of, station_of}
use Rattle.station.specs.Repeats.{same_parts, repeated, first_repeat, SamePair, Simple}
use Rattle.station.proofs.Cables.{line_word, cable_at_lem}

pair_flip : {c d : Cable} → SamePair c d → SamePair d c
pair_flip (inl e) = inl (sym e.0, sym e.1)
pair_flip (inr e) = inr (sym e.1, sym e.0)

same_parts_lem : (v w : ℕ) → SamePair (cable_of v) (cable_of w) → same_parts v w ≡ true
unfolding same_parts cable_of
same_parts_lem v w (inl e) = rw (eq-eqb (first_of v) (first_of w) e.0, eq-eqb (second_of v) (second_of w) e.1)
same_parts_lem v w (inr e) =
    or_right (eqb (first_of v) (first_of w) && eqb (second_of v) (second_of w)) (eqb (first_of v) (second_of w) && eqb (second_of v) (first_of w))
    (rw (eq-eqb (first_of v) (second_of w) e.0, eq-eqb (second_of v) (first_of w) e.1))

module _ (list : List ℕ) (none : first_repeat list ≡ None) where
  unrepeated : (i j : ℕ) → 2 ≤ i → i < j → j < length list → same_parts (get_or list i 0) (get_or list j 0) ≡ false
  unfolding first_repeat repeated
  unrepeated i j a b l =
      seek_nothing (λ x. same_parts (get_or list x 0) (get_or list j 0)) 2 (j - 2)
      (not_found _ (seek_nothing (repeated list) 2 (length list - 2) none j (omega arith) (omega arith)))
      i a (omega arith)

  pub simple : Simple (station_of list)
  simple i j h g e = go (dec_lt i j) (dec_lt j i)
    where
      again : (a b : ℕ) → a < b → b < length (station_of list).cables → SamePair (get_or (station_of list).cables a no_cable) (get_or (station_of list).cables b no_cable) → ⊥
      again a b l k s =
          false≢true
          (sym (unrepeated (2 + a) (2 + b) (omega arith) (omega arith) (line_word list b k))
          ∙ same_parts_lem (get_or list (2 + a) 0) (get_or list (2 + b) 0) (subst₂ SamePair (cable_at_lem list a) (cable_at_lem list b) s))

      go : Dec (i < j) → Dec (j < i) → i ≡ j
      go (yes l) k = absurd (again i j l g e)
      go (no l) (yes k) = absurd (again j i k h (pair_flip e))
      go (no l) (no k) = omega arith
