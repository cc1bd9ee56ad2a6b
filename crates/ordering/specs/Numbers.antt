-- Arrays of parts and of ranks, read as numbers. Assumes nothing.
use Rattle.std.specs.Prelude.{ℕ, ◌<◌, ◌≡◌, List, map, length, get_or}
use Rattle.words.specs.declared.Part.{Part}
use Rattle.words.specs.declared.Rank.{Rank}
use Rattle.order.specs.Order.{rank_in}

-- the part numbers by rank, and the rank numbers by part
unfoldable pub part_numbers : List Part → List ℕ
part_numbers parts = map (λ (p : Part). p.0) parts

unfoldable pub rank_numbers : List Rank → List ℕ
rank_numbers ranks = map (λ (k : Rank). k.0) ranks

-- the rank of each of the given parts
abbrev pub RanksOf : List ℕ → List Rank → Type 0
RanksOf parts ranks = (p : ℕ) → rank_in parts p < length parts → get_or (rank_numbers ranks) p 0 ≡ rank_in parts p
