-- Document 01, 'Columns and rows', with request 2026-04: the ports by which the cables of a part leave it and come in, a clause for each
-- drawing of figures 2 and 3 of source 000. Counts of cables that no drawing has leave some without a port; that none of these counts
-- occurs is a law (proofs/Drawings). Assumes nothing.
use Rattle.std.specs.Prelude.{ℕ, zero, suc, ◌+◌, ◌<◌, ◌≤◌, List, [], ◌∷◌}

-- Where a cable meets its part: in the part's row, from the left or from the right, or in the part's column, from below or from above.
pub data Port : Type 0 where
  left : Port
  below : Port
  right : Port
  above : Port

-- Figure 2: the ports of the cables of s, which all go out, from left to right, the bottom connection last, by their count. The one that
-- leaves upward has the part's own column.
abbrev pub source_ports : ℕ → List Port
-- 's gets its own column'
source_ports (suc zero) = above ∷ []
-- 'then a new one to its right (two or more cables)'
source_ports (suc (suc zero)) = above ∷ right ∷ []
-- 'one to its left (three or more)'
source_ports (suc (suc (suc zero))) = left ∷ above ∷ right ∷ []
-- 'and one right of all these (four)'; 2026-04: the one at the bottom connection 'leaves downward and takes the far right column; the other
-- three go left, own, right'
source_ports (suc (suc (suc (suc zero)))) = left ∷ above ∷ right ∷ below ∷ []
-- no drawing
source_ports zero = []
source_ports (suc (suc (suc (suc (suc outs))))) = []

-- Figure 3: the ports of the incoming cables of a part, by their columns from left to right, the top connection last. The part takes the
-- column of the one from below; 'The other incoming cables turn in the part's row and run level to it.'
abbrev pub in_ports : ℕ → List Port
-- 'Another part with 1 incoming cable takes that column'
in_ports (suc zero) = below ∷ []
-- 'with 2, the left one'
in_ports (suc (suc zero)) = below ∷ right ∷ []
-- 'with 3, the middle one'
in_ports (suc (suc (suc zero))) = left ∷ below ∷ right ∷ []
-- 2026-04: t stands 'in the middle column of the other three, which come in left, below and right', and the one at the top connection
-- 'climbs over the top'
in_ports (suc (suc (suc (suc zero)))) = left ∷ below ∷ right ∷ above ∷ []
-- s, and no drawing
in_ports zero = []
in_ports (suc (suc (suc (suc (suc ins))))) = []

-- Figure 3: the ports of the outgoing cables of a part, from left to right, by the counts of those that came in and that go out. Where none
-- came in, the part is s.
abbrev pub out_ports : ℕ → ℕ → List Port
out_ports zero outs = source_ports outs
-- one came in: 'one takes the part's own column. A second takes a new column directly right'; 'Three (1 came in) take new left, own, new
-- right.'
out_ports (suc zero) zero = []
out_ports (suc zero) (suc zero) = above ∷ []
out_ports (suc zero) (suc (suc zero)) = above ∷ right ∷ []
out_ports (suc zero) (suc (suc (suc zero))) = left ∷ above ∷ right ∷ []
-- two came in: 'one takes the part's own column. A second takes a new column .. directly left'
out_ports (suc (suc zero)) zero = []
out_ports (suc (suc zero)) (suc zero) = above ∷ []
out_ports (suc (suc zero)) (suc (suc zero)) = left ∷ above ∷ []
-- three came in: 'one takes the part's own column'
out_ports (suc (suc (suc zero))) zero = []
out_ports (suc (suc (suc zero))) (suc zero) = above ∷ []
-- four came in: t, from which none goes out
out_ports (suc (suc (suc (suc zero)))) zero = []
-- no drawing
out_ports (suc zero) (suc (suc (suc (suc outs)))) = []
out_ports (suc (suc zero)) (suc (suc (suc outs))) = []
out_ports (suc (suc (suc zero))) (suc (suc outs)) = []
out_ports (suc (suc (suc (suc zero)))) (suc outs) = []
out_ports (suc (suc (suc (suc (suc ins))))) outs = []

-- the place, from the left, of the cable from below
abbrev pub place_below : List Port → ℕ
place_below [] = 0
place_below (below ∷ ps) = 0
place_below (left ∷ ps) = suc (place_below ps)
place_below (right ∷ ps) = suc (place_below ps)
place_below (above ∷ ps) = suc (place_below ps)

-- how many new columns the ports of the outgoing cables have on the part's left: 'directly left'
abbrev pub new_left : List Port → ℕ
new_left [] = 0
new_left (left ∷ ps) = suc (new_left ps)
new_left (above ∷ ps) = new_left ps
new_left (right ∷ ps) = new_left ps
new_left (below ∷ ps) = new_left ps

-- and on its right: 'directly right', 'right of all these'
abbrev pub new_right : List Port → ℕ
new_right [] = 0
new_right (left ∷ ps) = new_right ps
new_right (above ∷ ps) = new_right ps
new_right (right ∷ ps) = suc (new_right ps)
new_right (below ∷ ps) = suc (new_right ps)

-- The column of an outgoing cable, by its port, where the part takes column p and has a new ones on its left.
abbrev pub port_column : ℕ → ℕ → Port → ℕ
port_column p a left = p
port_column p a above = p + a
port_column p a right = p + a + 1
port_column p a below = p + a + 2

-- figure 2 or 3 has a drawing with these counts of incoming and outgoing cables
pub record Depicted (ins outs : ℕ) : Type 0 where
  pub some : 0 < ins + outs
  pub four : ins + outs ≤ 4
