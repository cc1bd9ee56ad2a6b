-- A list that passes checks 1 to 10: each check, the condition of the order theorem, and the order theorem for lists. Assumes nothing.
use Rattle.std.specs.Prelude.{None}
use Prim.Native.Nat.{ℕ, ◌-◌, ◌≤◌}
use mathlib.Core.Path.{◌≡◌, refl}
use mathlib.Core.List.Memᴰ
use mathlib.Core.List.{List}
use lib.ListN.{length}
use Rattle.words.specs.Limits.{most_cables}
use Rattle.station.specs.Station.{station_of}
use Rattle.checks.specs.Checks.{Clear}
use Rattle.station.specs.Checks.{list_checks}
use Rattle.station.specs.Code.{Wired}
use Rattle.station.specs.Repeats.{first_repeat}
use Rattle.checks.proofs.FirstRefusal.{clear_each, clear_prefix, clear_rest}
use Rattle.station.proofs.Passed.{wired, wired_words, cables_most}
use Rattle.station.proofs.Simple.{simple}
use Rattle.order.specs.Reach.{check9, check10}
use Rattle.order.specs.Checks.{station_checks, all_checks}
use Rattle.order.specs.Order.{order}
use Rattle.order.specs.StOrder.{StOrdering, Smallest}
use Rattle.order.specs.RankedGraphs.{Ranked}
use Rattle.order.specs.Graph.{EndsOnce}
use Rattle.order.specs.Orientation.{graph_of}
use Rattle.order.proofs.Checks.{check10_nothing}
use Rattle.order.proofs.Bipolar.{Orderable}
use Rattle.order.proofs.StOrder.{order_ordering, order_smallest}
use Rattle.order.proofs.Ranks.{order_ranked}
use Rattle.order.proofs.Orientation.{ranks_once}

-- each of checks 9 and 10 finds nothing
pub clear_9 : (list : List ℕ) → Clear all_checks list → check9 (station_of list) ≡ None
unfolding all_checks station_checks
clear_9 list h = clear_each list station_checks (clear_rest list list_checks station_checks h) (Memᴰ.head refl)

pub clear_10 : (list : List ℕ) → Clear all_checks list → check10 (station_of list) ≡ None
unfolding all_checks station_checks
clear_10 list h = clear_each list station_checks (clear_rest list list_checks station_checks h) (Memᴰ.tail (Memᴰ.head refl))

pub clear_8 : (list : List ℕ) → Clear all_checks list → Clear list_checks list
unfolding all_checks
clear_8 list h = clear_prefix list list_checks station_checks h

-- the list has its head and its ends
pub words_8 : (list : List ℕ) → Clear list_checks list → 2 ≤ length list
words_8 list h = wired_words list (wired list h)

pub words_10 : (list : List ℕ) → Clear all_checks list → 2 ≤ length list
words_10 list h = words_8 list (clear_8 list h)

module _ (list : List ℕ) (pass : Clear all_checks list) where
  pub list_wired : Wired (station_of list)
  list_wired = wired list (clear_8 list pass)

  pub list_orderable : Orderable (station_of list)
  list_orderable = record { wired = list_wired; bipolar = (check10_nothing (station_of list)).0 (clear_10 list pass) }

  -- 'the result is the st-ordering from s to t'
  pub list_ordering : StOrdering (station_of list) (order (station_of list))
  list_ordering = order_ordering (station_of list) list_orderable

  -- 'that is smallest when compared part by part'
  pub list_smallest : Smallest (station_of list) (order (station_of list))
  list_smallest = order_smallest (station_of list) list_orderable

  -- what the layout asks for
  pub list_ranked : Ranked (graph_of (station_of list))
  list_ranked = order_ranked (station_of list) list_orderable

  -- and, where no cable is repeated, what its limit of two corners rests on (2026-12)
  pub list_once : first_repeat list ≡ None → EndsOnce (graph_of (station_of list))
  list_once none =
      let once = ranks_once (station_of list) list_orderable (simple list none) in
      let n = (graph_of (station_of list)).parts in
      record { lowest = once 0 1; highest = once (n - 2) (n - 1) }

  pub lines_most : length (station_of list).cables ≤ most_cables
  lines_most = cables_most (station_of list) list_wired
