-- What a ranking of parts says: the parts by rank and the ranks by part. Assumes nothing.
use Rattle.std.specs.Prelude.{ℕ, ◌<◌, ◌≡◌, List, get_or, take, Result, Ok, Err}
use Rattle.checks.specs.declared.Refusal.{Refusal}
use Rattle.checks.specs.Checks.{first_refusal, Clear}
use Rattle.station.specs.Station.{Station, station_of}
use Rattle.order.specs.Checks.{all_checks}
use Rattle.ordering.specs.Numbers.{part_numbers, rank_numbers}
use Rattle.ranking.specs.declared.Ranking.{Ranking}
use Rattle.order.specs.Order.{order, rank_in}

-- 'rank by part, part by rank': of the order of a station
pub record RankingOf (st : Station) (r : Ranking) : Type 0 where
  pub part : take st.parts (part_numbers r.part) ≡ order st
  pub rank : (p : ℕ) → p < st.parts → get_or (rank_numbers r.rank) p 0 ≡ rank_in (order st) p

-- the numbers of n parts, by rank
abbrev pub names_in : ℕ → Ranking → List ℕ
names_in n r = take n (part_numbers r.part)

-- of n parts: rank by part and part by rank are each the inverse of the other
pub record Inverse (n : ℕ) (r : Ranking) : Type 0 where
  pub below : (p : ℕ) → p < n → get_or (rank_numbers r.rank) p 0 < n
  pub rank : (p : ℕ) → p < n → get_or (rank_numbers r.rank) p 0 ≡ rank_in (names_in n r) p
  pub part : (p : ℕ) → p < n → get_or (names_in n r) (rank_in (names_in n r) p) 0 ≡ p
  pub named : (k : ℕ) → k < n → get_or (names_in n r) k 0 < n
  pub place : (k : ℕ) → k < n → rank_in (names_in n r) (get_or (names_in n r) k 0) ≡ k

-- what the one call for checks 1 to 10 answers: the order where none of them applies, and else the first refusal
abbrev pub Checked : List ℕ → Result Ranking Refusal → Type 0
Checked list (Ok ranking) = Clear all_checks list × RankingOf (station_of list) ranking
Checked list (Err refusal) = first_refusal all_checks list ≡ Err refusal
