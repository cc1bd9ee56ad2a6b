-- What the two fields of a word hold. Assumes nothing.
use Rattle.std.specs.Prelude.{◌<◌}
use Rattle.geometry.specs.declared.Spot.{Spot}

-- the spot is one of the 4,096 columns and rows that a word has room for
pub record InColumns (p : Spot) : Type 0 where
  pub across : p.x < 4096
  pub up : p.y < 4096
