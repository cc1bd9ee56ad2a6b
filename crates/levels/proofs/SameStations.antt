-- Lists of one station (2026-13) get the same answer: routes rest on which parts are joined and on their order. Assumes nothing.
use Rattle.std.specs.Prelude.{Ok, Err}
use Prim.Native.Nat.{ℕ, ◌<◌}
use mathlib.Core.Path.{◌≡◌, refl, sym, ap, ap₂, ◌∙◌, subst}
use mathlib.Core.List.{List}
use lib.IntN.{ℤ}
use lib.ListN.{length}
use lib.Ieee.{Float}
use Rattle.lists.specs.Select.{tabulate}
use Rattle.lists.proofs.Agree.{tabulate_same}
use Rattle.checks.specs.Checks.{first_refusal, Clear, Verdict}
use Rattle.checks.specs.Outcome.{Outcome, fitted, if_passed}
use Rattle.station.specs.Station.{Station, station_of}
use Rattle.station.specs.Checks.{list_checks}
use Rattle.order.specs.Order.{order, rank_in}
use Rattle.order.specs.Checks.{all_checks}
use Rattle.order.proofs.Passed.{list_orderable}
use Rattle.canonical.specs.Canonical.{canonical}
use Rattle.canonical.specs.Multiplicity.{SameStation}
use Rattle.canonical.proofs.Canonical.{canonical_same}
use Rattle.canonical.proofs.Orders.{JoinsOf, joins_to, joins_from, same_verdict, same_order}
use Rattle.levels.specs.SignalPaths.{SignalPath, begin, climb, Extremes, levels_at}
use Rattle.levels.specs.Sorts.{check17_count, sort_checks}
use Rattle.levels.specs.Outcome.{in_floats, level_floats, level_checks, levels_outcome}
use Rattle.levels.proofs.LeastGreatest.{LevelTo, AreExtremes, extremes_one_way, levels_extremes}
use Rattle.checks.proofs.Outcome.{verdict_refused}
use Rattle.levels.proofs.RowChecks.{levels_10, levels_rest}

-- ---- routes
signal_same : {st su : Station} → JoinsOf st.cables su.cables → order st ≡ order su → st.source ≡ su.source → {p : ℕ} {parts : List ℕ} → SignalPath st p parts → SignalPath su p parts
signal_same J o s (begin e q) = begin (e ∙ s) q
signal_same J o s {p} (climb q before r c e) =
    climb q before (signal_same J o s r) (record { joined = J p q c.joined; higher = subst (λ (l : List ℕ). rank_in l q < rank_in l p) o c.higher }) e

extremes_same : {st su : Station} (S : SameStation st su) → order st ≡ order su → {row : List ℕ} {p : ℕ} {c : Extremes} → AreExtremes su row p c → AreExtremes st row p c
extremes_same {st} {su} S o {row} {p} R = record {
  between = λ parts r. R.between parts (signal_same (joins_to S) o S.source r);
  reached = record { least = at R.reached.least; greatest = at R.reached.greatest };
}
  where
    at : {z : ℤ} → LevelTo su row p z → LevelTo st row p z
    at t = (t.0, signal_same (joins_from S) (sym o) (sym S.source) t.1, t.2)

-- ---- answers
module _ (l k : List ℕ) (same : canonical l ≡ canonical k) where
  S : SameStation (station_of l) (station_of k)
  S = canonical_same l k same

  sorts_same : (row : List ℕ) → first_refusal (sort_checks row) l ≡ first_refusal (sort_checks row) k
  unfolding sort_checks first_refusal check17_count
  sorts_same row = rw S.parts refl

  module _ (C : Clear all_checks l) (D : Clear all_checks k) (row : List ℕ) where
    -- the levels at every part
    pub same_levels : (p : ℕ) → p < (station_of l).parts → levels_at (station_of l) row p ≡ levels_at (station_of k) row p
    same_levels p h =
        extremes_one_way (levels_extremes (station_of l) (list_orderable l C) row p h)
        (extremes_same S (same_order l k C D same) (levels_extremes (station_of k) (list_orderable k D) row p (subst (λ (n : ℕ). p < n) S.parts h)))

    same_floats : level_floats (station_of l) row ≡ level_floats (station_of k) row
    unfolding level_floats
    same_floats =
        ap in_floats
        (tabulate_same (station_of l).parts (levels_at (station_of l) row) (levels_at (station_of k) row) same_levels
        ∙ ap (λ (n : ℕ). tabulate n (levels_at (station_of k) row)) S.parts)

  -- two lists that settle alike get the same answer, whatever the second row and the output
  pub same_answer : Clear list_checks l → Clear list_checks k → (row : List ℕ) (room : ℕ) → levels_outcome l row room ≡ levels_outcome k row room
  unfolding levels_outcome
  same_answer C D row room = go (first_refusal all_checks l) refl
    where
      both : first_refusal all_checks l ≡ first_refusal all_checks k
      both = same_verdict l k C D same

      outcome : List Float → Outcome Float ℕ
      outcome floats = fitted floats (length floats) room

      go :
          (v : Verdict) → first_refusal all_checks l ≡ v
          → if_passed (first_refusal (level_checks row) l) (outcome (level_floats (station_of l) row)) ≡ if_passed (first_refusal (level_checks row) k) (outcome (level_floats (station_of k) row))
      go (Err r) e =
          verdict_refused (outcome (level_floats (station_of l) row)) (levels_10 l row r.fault r.place e)
          ∙ sym (verdict_refused (outcome (level_floats (station_of k) row)) (levels_10 k row r.fault r.place (sym both ∙ e)))
      go (Ok u) e =
          ap₂ (λ (v : Verdict) (floats : List Float). if_passed v (outcome floats))
          (levels_rest l row e ∙ sorts_same row ∙ sym (levels_rest k row (sym both ∙ e))) (same_floats e (sym both ∙ e) row)
