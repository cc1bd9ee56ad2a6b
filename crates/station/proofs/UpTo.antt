-- The checks of a list up to a number: clear where all are, and each of them finds nothing. Assumes nothing.
use Rattle.std.specs.Prelude.{None}
use Prim.Native.Nat.{ℕ, ◌≤◌}
use mathlib.Core.Path.{◌≡◌}
use mathlib.Core.List.{List, Memᴰ}
use lib.Dec.{leb}
use borrow.Author.Tests.{le-leb}
use Rattle.lists.proofs.Select.{filter_e, filter_i}
use Rattle.checks.specs.Checks.{Check, Clear, number_of}
use Rattle.checks.proofs.FirstRefusal.{clear_each, each_clear}
use Rattle.station.specs.Checks.{list_checks}
use Rattle.station.specs.Code.{up_to}

module _ (list : List ℕ) where
  pub clear_up_to : (k : ℕ) → Clear list_checks list → Clear (up_to k) list
  clear_up_to k h = each_clear list (up_to k) (λ c m. clear_each list list_checks h (filter_e (λ d. leb (number_of d.fault) k) list_checks m).0)

  pub up_to_each : (k : ℕ) {c : Check} → Clear (up_to k) list → Memᴰ c list_checks → number_of c.fault ≤ k → c.finds list ≡ None
  up_to_each k {c} h m l = clear_each list (up_to k) h (filter_i (λ d. leb (number_of d.fault) k) list_checks m (le-leb (number_of c.fault) k l))
