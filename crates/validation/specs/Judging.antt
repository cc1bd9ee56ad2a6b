-- Request 2026-09: two lines judged over the spots of a sheet, by the ways in which they pass each. Assumes nothing.
use Rattle.std.specs.Prelude.{ℕ, suc, ◌≤◌, Bool, not, ◌&&◌, ◌||◌, List}
use Rattle.geometry.specs.Spots.{Spot, spot_at, same_spot}
use Rattle.validation.specs.Alone.{each}
use Rattle.validation.specs.Ways.{way_at, cross_wise, wrong_ways}

-- 'no point exceeds its head'
pub record Fits (width height : ℕ) (s : Spot) : Type 0 where
  pub across : s.x ≤ width
  pub up : s.y ≤ height

-- every spot of a sheet passes the test
unfoldable pub each_spot : ℕ → ℕ → (Spot → Bool) → Bool
each_spot width height p = each (λ y. each (λ x. p (spot_at x y)) (suc width)) (suc height)

-- the two lines cross at the spot
unfoldable pub cross_here : List Spot → List Spot → Spot → Bool
cross_here ps qs s = cross_wise (way_at ps s) (way_at qs s)

-- the two lines meet at the spot as they may
unfoldable pub allowed : List Spot → List Spot → Spot → Bool
allowed ps qs s = not (wrong_ways (way_at ps s) (way_at qs s))

-- where they cross at r, it is at s; where they cross at s, they do nowhere else
abbrev pub only_at : List Spot → List Spot → Spot → Spot → Bool
only_at ps qs s r = not (cross_here ps qs r) || same_spot s r

abbrev pub once_at : ℕ → ℕ → List Spot → List Spot → Spot → Bool
once_at width height ps qs s = not (cross_here ps qs s) || each_spot width height (only_at ps qs s)

-- 'at most one crossing', and a clash only as the ends of both
unfoldable pub together : ℕ → ℕ → List Spot → List Spot → Bool
together width height ps qs = each_spot width height (allowed ps qs) && each_spot width height (once_at width height ps qs)
