-- Request 2026-10: the box around points, in the field's terms their bounding box. Assumes nothing.
use Rattle.std.specs.Prelude.{◌≡◌, ℕ, ◌≤◌, min, max}
use mathlib.Core.List.{List, Memᴰ, [], ◌∷◌}
use Rattle.geometry.specs.Spots.{Spot, origin}
use Rattle.bounds.specs.declared.Bounds.{Bounds}

-- 'from one of the cable's points alone'
abbrev pub alone : Spot → Bounds
alone s = record { left = s.x; bottom = s.y; right = s.x; top = s.y }

-- 'the box .. grows to include one more point'
unfoldable pub grown : Bounds → ℕ → ℕ → Bounds
grown b x y = record { left = min b.left x; bottom = min b.bottom y; right = max b.right x; top = max b.top y }

-- 'at a time'
unfoldable pub grown_by : Bounds → List Spot → Bounds
grown_by b [] = b
grown_by b (s ∷ ss) = grown_by (grown b s.x s.y) ss

-- the box that it ends as
unfoldable pub box_of : List Spot → Bounds
box_of [] = alone origin
box_of (s ∷ ss) = grown_by (alone s) ss

-- a point lies in the box
pub record Within (b : Bounds) (s : Spot) : Type 0 where
  pub left : b.left ≤ s.x
  pub bottom : b.bottom ≤ s.y
  pub right : s.x ≤ b.right
  pub top : s.y ≤ b.top

-- one box lies in another
pub record Inside (b c : Bounds) : Type 0 where
  pub left : c.left ≤ b.left
  pub bottom : c.bottom ≤ b.bottom
  pub right : b.right ≤ c.right
  pub top : b.top ≤ c.top

-- 'the smallest that holds all points': it holds each, a point touches each of its sides, and it lies in every box that holds them all
pub record Smallest (ps : List Spot) (b : Bounds) : Type 0 where
  pub holds : (s : Spot) → Memᴰ s ps → Within b s
  pub left : (s : Spot) × Memᴰ s ps × (s.x ≡ b.left)
  pub bottom : (s : Spot) × Memᴰ s ps × (s.y ≡ b.bottom)
  pub right : (s : Spot) × Memᴰ s ps × (s.x ≡ b.right)
  pub top : (s : Spot) × Memᴰ s ps × (s.y ≡ b.top)
  pub least : (c : Bounds) → ((s : Spot) → Memᴰ s ps → Within c s) → Inside b c
