-- What the contracts say of where a part stands and of the ports by which its cables leave it. Assumes nothing.
use Rattle.std.specs.Prelude.{ℕ, ◌≡◌, List, get_or, map}
use Rattle.layout.specs.Ports.{Port, left, below, right, above, place_below, new_left, new_right}
use Rattle.ports.specs.declared.figures.Port as code-port
use Rattle.ports.specs.declared.figures.Port.TheVariants.{Left, Above, Right, Below}
use Rattle.ports.specs.declared.figures.Placement.{Placement}

abbrev pub port_in : code-port.Port → Port
port_in Left = left
port_in Above = above
port_in Right = right
port_in Below = below

-- p is where a part stands that takes column x, with a new columns on its left and b on its right, and its outgoing cables at the ports
-- outs
pub record PlacementIs (x a b : ℕ) (outs : List Port) (p : Placement) : Type 0 where
  pub column : p.column ≡ x
  pub left : p.left ≡ a
  pub right : p.right ≡ b
  pub ports : map port_in p.ports.now ≡ outs

-- p is where a part stands whose incoming cables have the columns xs and the ports ins, and whose outgoing ones have the ports outs
abbrev pub Stands : List ℕ → List Port → List Port → Placement → Type 0
Stands xs ins outs p = PlacementIs (get_or xs (place_below ins) 0) (new_left outs) (new_right outs) outs p
