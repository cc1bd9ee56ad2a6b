-- Document 01, 'Columns and rows', with requests 2026-04 and 2026-12: the columns of parts and cables. A column is its place in the list of
-- columns, from the left; a column that is put in moves those right of it. Assumes nothing.
use Rattle.std.specs.Prelude.{ℕ, zero, suc, ◌+◌, ◌-◌, Bool, cond, ◌&&◌, List, [], ◌∷◌, ◌++◌, map, length, get_or, replicate, eqb, ltb}
use Rattle.lists.specs.Search.{seek, place_or}
use Rattle.lists.specs.Select.{tabulate, lastly, index_of, sort_by}
use Rattle.order.specs.Graph.{StGraph, size, lower, upper, lines_at}
use Rattle.layout.specs.Ports.{in_ports, out_ports, place_below, new_left, new_right, port_column}

-- The state between two ranks: the column of each cable by line (of those that were opened), of each part by rank, and the count of
-- columns.
pub record Columns : Type 0 where
  pub cables : List ℕ
  pub parts : List ℕ
  pub count : ℕ

-- Where column x is once a new columns stand directly left of column p and b directly right of it.
unfoldable pub moved : ℕ → ℕ → ℕ → ℕ → ℕ
moved p a b x = cond (ltb x p) x (cond (eqb x p) (x + a) (x + a + b))

module _ (G : StGraph) where
  -- s has four cables: all cables of s, rank 0, are outgoing
  abbrev pub source_has_four : Bool
  source_has_four = eqb (length (lines_at (size G) (lower G) 0)) 4

  -- t has four: all cables of t, the last rank, are incoming
  abbrev pub analyser_has_four : Bool
  analyser_has_four = eqb (length (lines_at (size G) (upper G) (G.parts - 1))) 4

  -- the lowest line among those from rank j to rank k, or the count of lines where there is none; 2026-12: 'where several could leave s
  -- downward or climb over t, the lowest line does'
  unfoldable pub line_between : ℕ → ℕ → ℕ
  line_between j k = place_or (size G) (seek (λ i. eqb (lower G i) j && eqb (upper G i) k) 0 (size G))

  -- 2026-04: 'Where s has four cables, the one to the second-ranked part leaves downward': the line at the bottom connection (source 000's
  -- term), or the count of lines where s has fewer.
  unfoldable pub bottom_line : ℕ
  bottom_line = cond source_has_four (line_between 0 1) (size G)

  -- 'Where t has four, the cable from the last-ranked part but one climbs over the top': the line at the top connection, or the count of
  -- lines where t has fewer.
  unfoldable pub top_line : ℕ
  top_line = cond analyser_has_four (line_between (G.parts - 2) (G.parts - 1)) (size G)

  -- the cables that go out of rank k, 'left to right by rising rank of the far end'; 2026-12: 'Among equal ranks of far ends the lower line
  -- comes first', since the lines are sorted as they rise, and the sort keeps the sequence of equals
  unfoldable pub by_rank : ℕ → List ℕ
  by_rank k = sort_by (upper G) (lines_at (size G) (lower G) k)

  -- the cables that come in at rank k, by rising column
  unfoldable pub by_column : List ℕ → ℕ → List ℕ
  by_column xs k = sort_by (λ i. get_or xs i 0) (lines_at (size G) (upper G) k)

  -- the outgoing cables of rank k: the bottom connection, which 'takes the far right column', is last; 'the other three go left, own, right
  -- by rising rank'
  unfoldable pub outgoing : ℕ → List ℕ
  outgoing k = lastly bottom_line (by_rank k)

  -- the incoming cables of rank k: the top connection, wherever its column is, is last; 'the other three .. come in left, below and right'
  unfoldable pub incoming : List ℕ → ℕ → List ℕ
  incoming xs k = lastly top_line (by_column xs k)

  -- the column that rank k takes: that of the incoming cable from below, or the only one there is at the start
  unfoldable pub taken : List ℕ → ℕ → ℕ
  taken xs k = let ins = incoming xs k in get_or (map (λ i. get_or xs i 0) ins) (place_below (in_ports (length ins))) 0

  -- the columns once rank k stands: 'Cables go to these columns left to right'
  unfoldable pub step : ℕ → Columns → Columns
  step k c =
      let outs = outgoing k in
      let ports = out_ports (length (lines_at (size G) (upper G) k)) (length outs) in
      let p = taken c.cables k in
      let a = new_left ports in
      let b = new_right ports in
      record {
        cables = tabulate (size G)
            (λ i. cond (eqb (lower G i) k) (get_or (map (port_column p a) ports) (index_of i outs) 0) (moved p a b (get_or c.cables i 0)));
        parts = map (moved p a b) c.parts ++ (p + a) ∷ [];
        count = c.count + a + b;
      }

  -- The columns once the first k ranks stand. At the start there is one column, which s takes: 's gets its own column'.
  unfoldable pub columns : ℕ → Columns
  columns zero = record { cables = replicate (size G) 0; parts = []; count = 1 }
  columns (suc k) = step k (columns k)
