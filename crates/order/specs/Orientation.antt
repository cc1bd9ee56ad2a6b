-- The two parts of each cable by rank, and a station's cables in ranks. Assumes nothing.
use Rattle.std.specs.Prelude.{ℕ, min, max, cond, List, map, leb}
use Rattle.station.specs.Station.{Cable, Station}
use Rattle.order.specs.Order.{order, rank_in}
use Rattle.order.specs.Graph.{StGraph}

-- in an order of the parts: a cable's lower-ranked part, and its other part
unfoldable pub lower_part : List ℕ → Cable → ℕ
lower_part parts c = cond (leb (rank_in parts c.one) (rank_in parts c.other)) c.one c.other

unfoldable pub upper_part : List ℕ → Cable → ℕ
upper_part parts c = cond (leb (rank_in parts c.one) (rank_in parts c.other)) c.other c.one

-- and their ranks
unfoldable pub lower_rank : List ℕ → Cable → ℕ
lower_rank parts c = min (rank_in parts c.one) (rank_in parts c.other)

unfoldable pub upper_rank : List ℕ → Cable → ℕ
upper_rank parts c = max (rank_in parts c.one) (rank_in parts c.other)

-- the cables of a station whose parts stand in an order, in ranks
unfoldable pub ranked_by : List ℕ → Station → StGraph
ranked_by parts st = record {
  parts = st.parts;
  lowers = map (lower_rank parts) st.cables;
  uppers = map (upper_rank parts) st.cables;
}

-- the cables of a station in ranks
unfoldable pub graph_of : Station → StGraph
graph_of st = ranked_by (order st) st
