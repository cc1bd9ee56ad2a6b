-- What the code keeps and tests when it chooses the next part: a separation witness beside each part, and the tests of a candidate. Assumes
-- nothing.
use Rattle.std.specs.Prelude.{ℕ, ◌<◌, ◌≡◌, Bool, false, not, ◌&&◌, length, get_or, eqb}
use mathlib.Core.List.{List, Memᴰ}
use Rattle.words.specs.Limits.{most_parts}
use Rattle.lists.specs.Select.{without}
use Rattle.station.specs.Station.{station_of}
use Rattle.order.specs.Reach.{Path}
use Rattle.order.specs.Order.{candidate, first_or}
use Rattle.reachability.specs.declared.adjacency.Neighbours.{Neighbours}
use Rattle.reachability.specs.Tables.{has_neighbour, set_of}

-- w separates q from t among the unranked parts: q is another part, and without w has no path to t
pub record Separates (list : List ℕ) (unranked : List Bool) (w q : ℕ) : Type 0 where
  pub other : q ≡ w → ⊥
  pub apart : Path (station_of list).cables (λ x. Memᴰ x (without w (set_of list unranked))) (station_of list).analyser q → ⊥

-- beside each part a witness, which it separates from t as long as both are unranked
pub record Witnesses (list : List ℕ) (unranked : List Bool) (witness : List ℕ) : Type 0 where
  pub places : length witness ≡ most_parts
  pub inside : (w : ℕ) → get_or witness w 0 < (station_of list).parts
  pub separated : (w : ℕ) → Memᴰ w (set_of list unranked) → Memᴰ (get_or witness w 0) (set_of list unranked)
      → Separates list unranked w (get_or witness w 0)

-- an unranked part w is known to separate its witness from t: both are unranked
unfoldable pub known_separator : List ℕ → List Bool → List ℕ → ℕ → Bool
known_separator list unranked witness w = get_or unranked (station_of list).analyser false && get_or unranked (get_or witness w 0) false

-- the tests of a candidate that need no walk; it 'is joined to a ranked part' where a neighbour is not unranked
unfoldable pub may_be_next : List ℕ → List Neighbours → List Bool → List ℕ → ℕ → Bool
may_be_next list table unranked witness w =
    get_or unranked w false && not (eqb w (station_of list).analyser)
    && not (known_separator list unranked witness w) && has_neighbour table unranked w false

-- part w is unranked and a candidate
unfoldable pub eligible : List ℕ → List Bool → ℕ → Bool
eligible list unranked w = get_or unranked w false && candidate (station_of list).cables (station_of list).analyser (set_of list unranked) w

-- the lowest candidate, or t
unfoldable pub chosen_part : List ℕ → List Bool → ℕ
chosen_part list unranked =
    first_or (station_of list).analyser (candidate (station_of list).cables (station_of list).analyser (set_of list unranked))
    (set_of list unranked)
