-- What a call answers and leaves in a row, by its verdict and by the room that there is. Assumes nothing.
use Rattle.checks.specs.declared.Fault.{Fault}
use Rattle.checks.specs.Checks.{Verdict, passed, refused}
use Rattle.std.specs.Prelude.{Ok, Err}
use Prim.Native.Nat.{ℕ, ◌≤◌, ◌<◌}
use native.Mathlib.Omega.{arith}
use mathlib.Core.Path.{◌≡◌, refl, sym, ap, ◌∙◌}
use mathlib.Core.Bool.{Bool, true, false, cond}
use mathlib.Core.List.{List}
use lib.ListN.{length, take, drop}
use lib.Seq.{take_at}
use lib.Dec.{ltb}
use borrow.Author.Tests.{lt-ltb, le-ltb, ltb-false}
use Rattle.lists.specs.Stores.{Stored}
use Rattle.lists.proofs.Stores.{stored_front}
use Rattle.checks.specs.declared.Fault.TheVariants as faults
use Rattle.checks.specs.Outcome.{Outcome, written, sent_back, fitted, if_passed, row_after}

-- what is written has at most so many elements
abbrev pub Within : {A B : Type 0} → ℕ → Outcome A B → Type 0
Within room (written row result) = length row ≤ room
Within room (sent_back check place) = Unit

-- refusals that are the same have the same fault and the same place
abbrev fault_of : {A B : Type 0} → Fault → Outcome A B → Fault
fault_of d (written row result) = d
fault_of d (sent_back fault place) = fault

abbrev place_of : {A B : Type 0} → ℕ → Outcome A B → ℕ
place_of d (written row result) = d
place_of d (sent_back fault place) = place

pub sent_fault : {A B : Type 0} {c k : Fault} {p q : ℕ} → ◌≡◌ {A = Outcome A B} (sent_back c p) (sent_back k q) → c ≡ k
sent_fault {c = c} e = ap (fault_of c) e

pub sent_place : {A B : Type 0} {c k : Fault} {p q : ℕ} → ◌≡◌ {A = Outcome A B} (sent_back c p) (sent_back k q) → p ≡ q
sent_place {p = p} e = ap (place_of p) e

module _ {A B : Type 0} where
  -- the verdict decides, or leaves it to what is written
  pub verdict_refused : {v : Verdict} (o : Outcome A B) {check : Fault} {place : ℕ} → v ≡ refused check place → if_passed v o ≡ sent_back check place
  unfolding if_passed
  verdict_refused o e = rw e

  pub verdict_passed : {v : Verdict} (o : Outcome A B) → v ≡ passed → if_passed v o ≡ o
  unfolding if_passed
  verdict_passed o e = rw e

  pub passed_within : (v : Verdict) (room : ℕ) (o : Outcome A B) → Within room o → Within room (if_passed v o)
  unfolding if_passed
  passed_within (Ok u) room o h = h
  passed_within (Err r) room o h = tt

  module _ (row : List A) (result : B) (room : ℕ) where
    pub fitted_short : room < length row → fitted row result room ≡ sent_back faults.OutputTooShort (length row)
    unfolding fitted
    fitted_short h = rw (lt-ltb room (length row) h)

    pub fitted_whole : length row ≤ room → fitted row result room ≡ written row result
    unfolding fitted
    fitted_whole h = rw (le-ltb room (length row) h)

    pub fitted_within : Within room (fitted row result room)
    unfolding fitted
    fitted_within = go (ltb room (length row)) refl
      where
        go : (b : Bool) → ltb room (length row) ≡ b → Within room (cond b (sent_back faults.OutputTooShort (length row)) (written row result))
        go true e = tt
        go false e = ltb-false room (length row) e

-- what is stored at the front of a row that has room for it is what the outcome leaves
pub record Left {A B : Type 0} (row : List A) (result : B) (before after : List A) (count : ℕ) : Type 0 where
  pub whole : after ≡ row_after (written row result) before
  pub count_is : count ≡ length row
  pub front : take count after ≡ row

pub left_stored :
    {A B : Type 0} {row before after : List A} (result : B) {count : ℕ} → length row ≤ length before → Stored before 0 row after count
    → Left row result before after count
left_stored {row = row} {before} result {count} h S =
    let size : count ≡ length row = omega (arith, S.place) in
    let all = stored_front S h in
    record { whole = all; count_is = size; front = ap (take count) all ∙ take_at row (drop (length row) before) count (sym size) }
