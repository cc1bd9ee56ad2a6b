-- What the contracts say of the columns between two ranks. Assumes nothing.
use Rattle.std.specs.Prelude.{ℕ, ◌<◌, ◌≤◌, ◌≡◌, List, map, length, get_or}
use Rattle.incidence.specs.declared.incident.Incident.{Incident}
use Rattle.ports.specs.declared.figures.Port as code-port
use Rattle.ports.specs.declared.figures.Placement.{Placement}
use Rattle.layout.specs.Ports.{port_column}
use Rattle.layout.specs.Columns.{moved}
use Rattle.ports.specs.Placements.{port_in}
use Rattle.incidence.specs.Incidents.{lines_in}

-- the columns next to where the part stands are within 16 bits
pub record PlacementFits (p : Placement) : Type 0 where
  pub column : p.column < 32768
  pub left : p.left ≤ 1
  pub right : p.right ≤ 2

-- where column x is once the rank stands
abbrev pub moved_by : Placement → ℕ → ℕ
moved_by p x = moved p.column p.left p.right x

-- the column of an outgoing cable, by its port
abbrev pub column_by : Placement → code-port.Port → ℕ
column_by p q = port_column p.column p.left (port_in q)

-- the columns of the outgoing cables, from left to right
abbrev pub port_columns : Placement → List ℕ
port_columns p = map (port_column p.column p.left) (map port_in p.ports.now)

-- there is a port for each of the outgoing cables, whose lines are below m
pub record Opens (m : ℕ) (outs : Incident) (p : Placement) : Type 0 where
  pub ports : length p.ports.now ≡ outs.count
  pub lines : length (lines_in outs) ≡ outs.count
  pub below : (j : ℕ) → j < outs.count → get_or (lines_in outs) j 0 < m
