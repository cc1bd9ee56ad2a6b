-- What the pass over the ranks reads and computes: the levels that the output holds, and those that arrive at a part. Assumes nothing.
use Rattle.std.specs.Prelude.{ℕ, ◌+◌, ◌*◌, ◌<◌, ◌≡◌, Bool, true, false, List, map, length, get_or, pos, Float}
use Rattle.std.specs.Float.{nan}
use Rattle.std.specs.List.{reduce}
use Rattle.lists.specs.Select.{filter}
use Rattle.std.specs.Option.{unwrap_or}
use Rattle.reachability.specs.declared.adjacency.Neighbours.{Neighbours}
use Rattle.reachability.specs.Tables.{neighbours_in}
use Rattle.levels.specs.declared.Levels.{Levels}
use Rattle.levels.specs.SignalPaths.{only}
use Rattle.levels.specs.Readings.{levels_of, together}

-- the two floats of part p
abbrev pub levels_in : List Float → ℕ → Levels
levels_in row p = record { least = get_or row (2 * p) nan; greatest = get_or row (2 * p + 1) nan }

-- the levels of the flagged neighbours of p, all together, and 'from 0' where no route arrives
unfoldable pub incoming : List Neighbours → List Bool → List Float → ℕ → Levels
incoming table flags row p = unwrap_or (reduce together (map (levels_in row) (filter (λ q. get_or flags q false) (neighbours_in table p)))) (levels_of (only (pos 0)))

-- the row has the floats of every flagged part
abbrev pub Readable : List Bool → List Float → Type 0
Readable flags row = (q : ℕ) → get_or flags q false ≡ true → 2 * q + 1 < length row
