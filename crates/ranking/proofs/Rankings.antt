-- The arrays of a list's order are its ranking. Assumes nothing.
use Prim.Native.Nat.{ℕ}
use native.Mathlib.Omega.{arith}
use mathlib.Core.Path.{◌≡◌, ap, ◌∙◌, subst}
use mathlib.Core.List.{List}
use lib.ListN.{length, take}
use Rattle.words.specs.declared.Part.{Part}
use Rattle.words.specs.declared.Rank.{Rank}
use Rattle.station.specs.Station.{station_of}
use Rattle.checks.specs.Checks.{Clear}
use Rattle.order.specs.Order.{order}
use Rattle.order.specs.Checks.{all_checks}
use Rattle.ordering.specs.Numbers.{part_numbers, RanksOf}
use Rattle.ranking.specs.Ranking.{RankingOf}
use Rattle.order.proofs.Ranks.{rank_below}
use Rattle.order.proofs.Passed.{list_orderable, list_ordering}

-- of a list that passes checks 1 to 10, whose order has every part
pub ranking_done : (list : List ℕ) → Clear all_checks list → {n : ℕ} {rank : List Rank} {part : List Part} → n ≡ (station_of list).parts
    → take (station_of list).parts (part_numbers part) ≡ order (station_of list) → RanksOf (take n (part_numbers part)) rank
    → RankingOf (station_of list) (record { rank = rank; part = part })
ranking_done list pass {n} {rank} {part} e o ranks =
    record {
      part = o;
      rank = λ p h. B p (omega (arith, count, rank_below (station_of list) (list_orderable list pass) p h));
    }
  where
    B : RanksOf (order (station_of list)) rank
    B = subst (λ (l : List ℕ). RanksOf l rank) (ap (λ (k : ℕ). take k (part_numbers part)) e ∙ o) ranks

    count : length (order (station_of list)) ≡ (station_of list).parts
    count = (list_ordering list pass).all
