-- Document 01: spots. Assumes nothing.
use Rattle.std.specs.Prelude.{ℕ, Bool, ◌&&◌, eqb}
use Rattle.geometry.specs.declared.Spot as code-spot

-- 'A spot is a whole x with a whole y'
pub record Spot : Type 0 where
  pub x : ℕ
  pub y : ℕ

unfoldable pub same_spot : Spot → Spot → Bool
same_spot p q = eqb p.x q.x && eqb p.y q.y

abbrev pub spot_at : ℕ → ℕ → Spot
spot_at x y = record { x = x; y = y }

abbrev pub origin : Spot
origin = spot_at 0 0

-- the spot that a spot of the code is
abbrev pub spot_in : code-spot.Spot → Spot
spot_in p = spot_at p.x p.y
