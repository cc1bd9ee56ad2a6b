-- Checks 17 and 18 of a row beside a list, step by step, and what a pass leaves of the row. Assumes nothing.
use Rattle.checks.specs.declared.Fault.{Fault}
use Rattle.std.specs.Prelude.{Some, None}
use Prim.Native.Nat.{ℕ}
use native.Mathlib.Omega.{arith}
use mathlib.Core.Path.{◌≡◌, refl, sym}
use mathlib.Core.Bool.{Bool, true, false, not, ◌&&◌}
use mathlib.Core.List.Memᴰ
use mathlib.Core.List.{List}
use lib.ListN.{length, get_or}
use lib.Dec.{eqb, ltb}
use borrow.Author.Tests.{eq-eqb, ne_eqb, eqb-true, ltb-false}
use Rattle.lists.proofs.Bools.{or_fails}
use Rattle.lists.proofs.Seek.{seek_nothing}
use Rattle.words.specs.Words.{sort_of, steps_of, joint_sort}
use Rattle.checks.specs.declared.Fault.TheVariants as faults
use Rattle.checks.specs.Checks.{first_refusal, or_else, Clear, at_when, passed, refused}
use Rattle.checks.proofs.FirstRefusal.{clear_each, clear_prefix, clear_rest, refused_before, rest_decides, at_when_nothing}
use Rattle.station.specs.Station.{station_of}
use Rattle.order.specs.Checks.{all_checks}
use Rattle.levels.specs.Sorts.{most_steps, misnumbered, check17, check17_count, check18, sort_checks}
use Rattle.levels.specs.Outcome.{level_checks}
use Rattle.levels.specs.Readings.{RowFits}

module _ (list row : List ℕ) where
  pub sorts_17 : (p : ℕ) → check17 row ≡ Some p → first_refusal (sort_checks row) list ≡ refused faults.MisformedSort p
  unfolding sort_checks first_refusal or_else
  sorts_17 p e = rw e

  module _ (formed : check17 row ≡ None) where
    pub sorts_count : (n : ℕ) → n ≡ (station_of list).parts → (length row ≡ n → ⊥) → first_refusal (sort_checks row) list ≡ refused faults.MisformedSort n
    unfolding sort_checks first_refusal or_else check17_count at_when
    sorts_count n e h = rw (formed, sym e, ne_eqb (length row) n h)

    module _ (words : length row ≡ (station_of list).parts) where
      pub sorts_18 : (p : ℕ) → check18 row ≡ Some p → first_refusal (sort_checks row) list ≡ refused faults.MisnumberedSort p
      unfolding sort_checks first_refusal or_else check17_count at_when
      sorts_18 p e = rw (formed, eq-eqb (length row) (station_of list).parts words, e)

      pub sorts_clear : check18 row ≡ None → first_refusal (sort_checks row) list ≡ passed
      unfolding sort_checks first_refusal or_else check17_count at_when
      sorts_clear e = rw (formed, eq-eqb (length row) (station_of list).parts words, e)

  -- behind checks 1 to 10
  pub levels_10 : (c : Fault) (p : ℕ) → first_refusal all_checks list ≡ refused c p → first_refusal (level_checks row) list ≡ refused c p
  unfolding level_checks
  levels_10 c p e = refused_before list all_checks (sort_checks row) c p e

  pub levels_rest : Clear all_checks list → first_refusal (level_checks row) list ≡ first_refusal (sort_checks row) list
  unfolding level_checks
  levels_rest h = rest_decides list all_checks (sort_checks row) h

  -- a pass
  pub passed_all : Clear (level_checks row) list → Clear all_checks list
  unfolding level_checks
  passed_all h = clear_prefix list all_checks (sort_checks row) h

  pub sorts_fit : Clear (sort_checks row) list → RowFits (station_of list).parts row
  unfolding sort_checks check17_count check18 misnumbered
  sorts_fit h =
      let n = (station_of list).parts in
      let few = clear_each list (sort_checks row) h (Memᴰ.tail (Memᴰ.head refl)) in
      let low = clear_each list (sort_checks row) h (Memᴰ.tail (Memᴰ.tail (Memᴰ.head refl))) in
      let words : length row ≡ n = eqb-true (length row) n (double (eqb (length row) n) (at_when_nothing (not (eqb (length row) n)) n few)) in
      record {
        words = words;
        steps = λ p g.
            let t = seek_nothing (λ (q : ℕ). misnumbered (get_or row q 0)) 0 (length row) low p (omega arith) (omega arith) in
            ltb-false most_steps (steps_of (get_or row p 0))
            (or_fails (ltb most_steps (steps_of (get_or row p 0))) (eqb (sort_of (get_or row p 0)) joint_sort && not (eqb (steps_of (get_or row p 0)) 0)) t).0;
      }
    where
      double : (b : Bool) → not b ≡ false → b ≡ true
      double true e = refl
      double false e = sym e

  pub passed_fits : Clear (level_checks row) list → RowFits (station_of list).parts row
  unfolding level_checks
  passed_fits h = sorts_fit (clear_rest list all_checks (sort_checks row) h)
