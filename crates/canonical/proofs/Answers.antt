-- What makes an answer right: a refusal by checks 1 to 8, an output too short, a canonical list that is written; and which refusals there
-- are. Assumes nothing.
use Rattle.checks.specs.declared.Fault.{Fault}
use Rattle.std.specs.Prelude.{Ok, Err}
use Prim.Native.Nat.{ℕ, ◌+◌, ◌<◌, ◌≤◌}
use native.Mathlib.Omega.{arith}
use mathlib.Core.Path.{◌≡◌, refl, sym, ap, ◌∙◌}
use mathlib.Core.Logic.{◌⊎◌, inl, inr}
use mathlib.Core.Bool.{Bool, true, false, cond}
use mathlib.Core.List.{List, ◌++◌}
use lib.ListN.{length, get_or, drop}
use lib.Dec.{ltb}
use borrow.Author.Tests.{ltb-true}
use Rattle.words.specs.Words.{cables_of}
use Rattle.checks.specs.declared.Fault.TheVariants as faults
use Rattle.checks.specs.Checks.{first_refusal, Clear, Verdict, refused, number_of}
use Rattle.checks.specs.Outcome.{Outcome, written, sent_back, fitted, if_passed, row_after}
use Rattle.checks.proofs.Outcome.{verdict_refused, verdict_passed, fitted_short, fitted_whole}
use Rattle.station.specs.Checks.{list_checks}
use Rattle.station.proofs.Numbers.{Numbered, list_number}
use Rattle.station.proofs.Passed.{well_formed, wired, wired_words}
use Rattle.canonical.specs.Canonical.{canonical}
use Rattle.canonical.specs.Outcome.{canonical_outcome, answer_to, Canonicalizes}
use Rattle.canonical.proofs.Canonical.{length_canonical, length_due}

module _ (list before : List ℕ) where
  -- an answer with its outcome
  answered : {o : Outcome ℕ ℕ} → canonical_outcome list (length before) ≡ o → Canonicalizes list before (row_after o before) (answer_to o)
  answered e = record { answers = sym (ap answer_to e); output = sym (ap (λ (z : Outcome ℕ ℕ). row_after z before) e) }

  pub canonicalize_refused : (c : Fault) (p : ℕ) → first_refusal list_checks list ≡ refused c p → Canonicalizes list before before (refused c p)
  unfolding canonical_outcome
  canonicalize_refused c p e = answered (verdict_refused (fitted (canonical list) (length (canonical list)) (length before)) e)

  module _ (pass : Clear list_checks list) where
    pub as_long : length (canonical list) ≡ length list
    as_long = length_canonical list (wired_words list (wired list pass))

    pub canonicalize_short : length before < length list → Canonicalizes list before before (refused faults.OutputTooShort (length list))
    unfolding canonical_outcome
    canonicalize_short h =
        answered
        (verdict_passed (fitted (canonical list) (length (canonical list)) (length before)) pass
        ∙ fitted_short (canonical list) (length (canonical list)) (length before) (omega (arith, as_long))
        ∙ ap (sent_back faults.OutputTooShort) as_long)

    pub canonicalize_written : (row : List ℕ) → length list ≤ length before → row ≡ canonical list
        → Canonicalizes list before (row ++ drop (length list) before) (Ok (length list))
    unfolding canonical_outcome
    canonicalize_written row h e =
        rw (e, sym as_long)
        (answered
        (verdict_passed (fitted (canonical list) (length (canonical list)) (length before)) pass
        ∙ fitted_whole (canonical list) (length (canonical list)) (length before) (omega (arith, as_long))))

-- Refusals

-- 11, of a list that passes checks 1 to 8: 'An output below m + 2 words then gets 11, with m + 2 as its place'
pub record TooShort (list : List ℕ) (room check place : ℕ) : Type 0 where
  pub eleven : check ≡ 11
  pub passes : Clear list_checks list
  pub below : room < place
  pub due : place ≡ cables_of (get_or list 0 0) + 2

-- the number of a refusal is 1 to 6, 8 or 11
pub canonicalize_refusals : (list : List ℕ) (room : ℕ) {check : Fault} {place : ℕ} → canonical_outcome list room ≡ sent_back check place → Numbered 8 (number_of check) ⊎ TooShort list room (number_of check) place
unfolding canonical_outcome if_passed fitted
canonicalize_refusals list room {check} {place} e = go (first_refusal list_checks list) refl e
  where
    short : Clear list_checks list → (b : Bool) → ltb room (length (canonical list)) ≡ b
        → ◌≡◌ {A = Outcome ℕ ℕ} (cond b (sent_back faults.OutputTooShort (length (canonical list))) (written (canonical list) (length (canonical list)))) (sent_back check place)
        → Numbered 8 (number_of check) ⊎ TooShort list room (number_of check) place
    short pass true t f =
        let h : length (canonical list) ≡ place = cc in
        let g : faults.OutputTooShort ≡ check = cc in
        inr (record { eleven = ap number_of (sym g); passes = pass; below = omega (arith, ltb-true room (length (canonical list)) t); due = sym h ∙ length_due list pass })
    short pass false t f = let z : ◌≡◌ {A = ℕ} 0 1 = cc in absurd (omega arith)

    go : (v : Verdict) → first_refusal list_checks list ≡ v → if_passed v (fitted (canonical list) (length (canonical list)) room) ≡ sent_back check place
        → Numbered 8 (number_of check) ⊎ TooShort list room (number_of check) place
    go (Ok u) f g = short f (ltb room (length (canonical list))) refl g
    go (Err r) f g = let h : r.fault ≡ check = cc in inl (rw h at (list_number list f))

-- an output as long as the list is long enough
pub list_suffices : (list : List ℕ) (room place : ℕ) → length list ≤ room → canonical_outcome list room ≡ sent_back faults.OutputTooShort place → ⊥
list_suffices list room place h e = go (canonicalize_refusals list room e)
  where
    go : Numbered 8 11 ⊎ TooShort list room 11 place → ⊥
    go (inl n) = omega (arith, n.most)
    go (inr t) = omega (arith, t.below, t.due, (well_formed list t.passes).words)
