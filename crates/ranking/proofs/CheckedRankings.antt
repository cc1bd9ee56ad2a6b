-- The one call for checks 1 to 10, stage by stage: a refusal of each, and a pass of all. Assumes nothing.
use Rattle.std.specs.Prelude.{Option, Some, None, Result, Ok, Err, ⊤}
use Prim.Native.Nat.{ℕ}
use native.Mathlib.Omega.{arith}
use mathlib.Core.Path.{◌≡◌, sym, ap, ◌∙◌}
use mathlib.Core.List.{List}
use Rattle.std.specs.Result.{IsErrAnd}
use Rattle.checks.specs.declared.Fault.{Fault}
use Rattle.checks.specs.declared.Fault.TheVariants as faults
use Rattle.checks.specs.declared.Refusal.{Refusal}
use Rattle.checks.specs.Checks.{first_refusal, or_else, Clear, passed, refused}
use Rattle.checks.proofs.FirstRefusal.{same_place}
use Rattle.station.specs.Station.{station_of}
use Rattle.station.specs.Checks.{list_checks}
use Rattle.order.specs.Reach.{check9, check10}
use Rattle.order.specs.Checks.{all_checks}
use Rattle.order.proofs.AllChecks.{refused_8, refused_9, refused_10}
use Rattle.ranking.specs.declared.Ranking.{Ranking}
use Rattle.ranking.specs.Ranking.{Checked}

-- what one check alone says: it found the refusal's place, or nothing
found_place : {fault : Fault} {refusal : Refusal} {check : Option ℕ} (found : Option ℕ) → found ≡ check → Err refusal ≡ or_else fault found passed
    → (check ≡ Some refusal.place) × (refused {A = ⊤} fault refusal.place ≡ Err refusal)
unfolding or_else
found_place {fault} (Some p) e f = (sym e ∙ ap Some (same_place (sym f)), ap (λ (q : ℕ). refused fault q) (same_place f) ∙ sym f)
found_place None e f = let z : ◌≡◌ {A = ℕ} 0 1 = cc in absurd (omega arith)

pub found_none : (fault : Fault) (found : Option ℕ) {check : Option ℕ} → found ≡ check → Ok tt ≡ or_else fault found passed → check ≡ None
unfolding or_else
found_none fault (Some p) e f = let z : ◌≡◌ {A = ℕ} 0 1 = cc in absurd (omega arith)
found_none fault None e f = sym e

module _ (list : List ℕ) (answer : Result Ranking Refusal) {refusal : Refusal} (same : IsErrAnd answer (λ e. e ≡ refusal)) where
  handed_on : first_refusal all_checks list ≡ Err refusal → Checked list answer
  handed_on f = go answer same
    where
      go : (a : Result Ranking Refusal) → IsErrAnd a (λ e. e ≡ refusal) → Checked list a
      go (Ok r) h = absurd h
      go (Err e) h = f ∙ ap Err (sym h)

  pub checked_8 : Err refusal ≡ first_refusal list_checks list → Checked list answer
  checked_8 e = handed_on (refused_8 list refusal.fault refusal.place (sym e))

  module _ (clear : Clear list_checks list) where
    pub checked_9 : {found : Option ℕ} → found ≡ check9 (station_of list) → Err refusal ≡ or_else faults.UnreachedPart found passed → Checked list answer
    checked_9 {found} e f = let g = found_place found e f in handed_on (refused_9 list clear refusal.place g.0 ∙ g.1)

    pub checked_10 : {found : Option ℕ} → check9 (station_of list) ≡ None → found ≡ check10 (station_of list) → Err refusal ≡ or_else faults.SeparatingPart found passed → Checked list answer
    checked_10 {found} nine e f = let g = found_place found e f in handed_on (refused_10 list clear nine refusal.place g.0 ∙ g.1)
