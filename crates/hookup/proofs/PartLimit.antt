-- Request 2026-11 beside document 01's limit of 256 parts: 'each list of up to 256 parts gives the sheet it gave', whatever the caller
-- gives and whatever the length of the output; every other list was refused by 1, 2 or 3 as it is now, or by 4. Assumes nothing.
use Prim.Native.Nat.{ℕ, ◌<◌, ◌≤◌}
use native.Mathlib.Omega.{arith}
use native.Mathlib.Decide.{dec_lt}
use mathlib.Core.Path.{◌≡◌, refl, sym, ap, ◌∙◌}
use mathlib.Core.Logic.{◌⊎◌, inl, inr, ⊎_elim}
use mathlib.Core.List.{List, ◌∷◌, ◌++◌}
use Rattle.lists.specs.Select.{filter}
use Rattle.words.specs.Limits.{most_parts}
use Rattle.checks.specs.declared.Fault.TheVariants as faults
use Rattle.checks.specs.Checks.{Check, first_refusal, Verdict}
use Rattle.checks.specs.Outcome.{sent_back, if_passed}
use Rattle.checks.proofs.FirstRefusal.{found_same, refused_or_same}
use Rattle.station.specs.Station.{station_of}
use Rattle.station.specs.Checks.{list_checks, check5, check6, check8}
use Rattle.station.specs.Code.{up_to}
use Rattle.station.specs.PartLimit.{former_parts, check4_within, list_checks_within}
use Rattle.station.proofs.PartLimit.{limit_is, found_within, found_above}
use Rattle.order.specs.Checks.{station_checks, all_checks}
use Rattle.hookup.specs.declared.Options.{Options}
use Rattle.hookup.specs.Checks.{option_checks, given_checks, drawing_checks, call_checks}
use Rattle.hookup.specs.Drawing.{drawing}
use Rattle.hookup.specs.Outcome.{sheet_in, outcome}
use Rattle.hookup.specs.PartLimit.{checks_within, outcome_within}

module _ (options : Options) where
  -- with 512 they are the checks of a call
  limit_512 : checks_within most_parts options ≡ call_checks options
  unfolding checks_within call_checks given_checks all_checks
  limit_512 = ap (λ (cs : List Check). (option_checks options ++ (cs ++ station_checks)) ++ drawing_checks options) limit_is

  abbrev four : ℕ → Check
  four most = record { fault = faults.WrongPartCount; finds = check4_within most }

  abbrev before4 : List Check
  before4 = option_checks options ++ up_to 3

  abbrev behind4 : List Check
  behind4 =
      record { fault = faults.PartOutside; finds = check5 } ∷ record { fault = faults.SelfLoop; finds = check6 } ∷ record { fault = faults.CrowdedPart; finds = check8 } ∷ station_checks ++ drawing_checks options

  around_4 : (most : ℕ) → checks_within most options ≡ before4 ++ four most ∷ behind4
  unfolding checks_within list_checks_within list_checks option_checks station_checks filter
  around_4 most = refl

  module _ (list : List ℕ) where
    verdict_decides :
        (a b room : ℕ) → first_refusal (checks_within a options) list ≡ first_refusal (checks_within b options) list
        → outcome_within a options list room ≡ outcome_within b options list room
    unfolding outcome_within
    verdict_decides a b room e = ap (λ (v : Verdict). if_passed v (sheet_in options (drawing (station_of list)) room)) e

    -- 512 is the limit of a call
    pub outcome_512 : (room : ℕ) → outcome_within most_parts options list room ≡ outcome options list room
    unfolding outcome outcome_within
    outcome_512 room =
        ap (λ (cs : List Check). if_passed (first_refusal cs list) (sheet_in options (drawing (station_of list)) room)) limit_512

    -- within two limits a list has one outcome
    pub same_within :
        (a b : ℕ) → (station_of list).parts ≤ a → (station_of list).parts ≤ b
        → (room : ℕ) → outcome_within a options list room ≡ outcome_within b options list room
    same_within a b h g room =
        verdict_decides a b room
        (ap (λ (cs : List Check). first_refusal cs list) (around_4 a)
        ∙ found_same list (four a) (four b) refl behind4 (found_within list a b h g) before4
        ∙ ap (λ (cs : List Check). first_refusal cs list) (sym (around_4 b)))

    -- 'each list of up to 256 parts gives the sheet it gave'
    pub keeps_outcome : (station_of list).parts ≤ former_parts → (room : ℕ) → outcome options list room ≡ outcome_within former_parts options list room
    keeps_outcome h room = sym (outcome_512 room) ∙ same_within most_parts former_parts (omega arith) h room

    -- of every list: with 256 it was refused by 4, for its n, or its outcome is the same
    pub four_or_same :
        (room : ℕ)
        → ((former_parts < (station_of list).parts) × (outcome_within former_parts options list room ≡ sent_back faults.WrongPartCount (station_of list).parts))
        ⊎ (outcome options list room ≡ outcome_within former_parts options list room)
    unfolding outcome_within if_passed
    four_or_same room = go (dec_lt former_parts (station_of list).parts)
      where
        to_verdict : first_refusal (checks_within former_parts options) list ≡ first_refusal (before4 ++ four former_parts ∷ behind4) list
        to_verdict = ap (λ (cs : List Check). first_refusal cs list) (around_4 former_parts)

        go : Dec (former_parts < (station_of list).parts)
            → ((former_parts < (station_of list).parts) × (outcome_within former_parts options list room ≡ sent_back faults.WrongPartCount (station_of list).parts))
            ⊎ (outcome options list room ≡ outcome_within former_parts options list room)
        go (no h) = inr (keeps_outcome (omega arith) room)
        go (yes h) =
            ⊎_elim
            (λ e. inl (h, ap (λ (v : Verdict). if_passed v (sheet_in options (drawing (station_of list)) room)) (to_verdict ∙ e)))
            (λ e.
            inr (
            sym (outcome_512 room)
            ∙ verdict_decides most_parts former_parts room (ap (λ (cs : List Check). first_refusal cs list) (around_4 most_parts) ∙ sym e ∙ sym to_verdict)
            ))
            (refused_or_same list (four former_parts) (four most_parts) refl behind4 (station_of list).parts (found_above list former_parts h) before4)
