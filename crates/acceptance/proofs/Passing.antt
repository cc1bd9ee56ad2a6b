-- A sheet of ours, held against its list, passes: where the list passes checks 1 to 10, and so after every successful call of draw. Assumes
-- nothing.
use Rattle.std.specs.Prelude.{Ok}
use Prim.Native.Nat.{ℕ}
use mathlib.Core.Path.{◌≡◌, refl}
use mathlib.Core.List.{List}
use lib.ListN.{take}
use Rattle.checks.specs.Checks.{Clear, passed}
use Rattle.order.specs.Checks.{all_checks}
use Rattle.hookup.specs.declared.Options.{Options}
use Rattle.hookup.specs.Demand.{Demand3}
use Rattle.hookup.specs.Answer.{Answer, Drew}
use Rattle.validation.specs.Outcome.{Accepted, sheet_verdict}
use Rattle.validation.proofs.Accepting.{validates}
use Rattle.acceptance.proofs.Own.{own_accepted, drawn_clear, drawn_accepted}

accepted_passed : (list sheet : List ℕ) → Clear all_checks list → Accepted list sheet → sheet_verdict list sheet ≡ passed
accepted_passed list sheet clear A = (validates list sheet (sheet_verdict list sheet) refl).accepted clear A

-- a sheet of which demand 3 holds
pub own_passed :
    (options : Options) (list sheet : List ℕ) → Clear all_checks list → Demand3 options list sheet → sheet_verdict list sheet ≡ passed
own_passed options list sheet clear D = accepted_passed list sheet clear (own_accepted options list sheet D)

module _ (options : Options) (list before after : List ℕ) (answer : Answer) (words crossings : ℕ)
    (D : Drew options list before after answer) (e : answer ≡ Ok (record { words = words; crossings = crossings })) where
  -- what a call of draw leaves
  pub drawn_passed : sheet_verdict list (take words after) ≡ passed
  drawn_passed =
      accepted_passed list (take words after) (drawn_clear options list before after answer words crossings D e)
      (drawn_accepted options list before after answer words crossings D e)
