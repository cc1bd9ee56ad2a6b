-- Request 2026-09: how a line passes a spot, and which two ways clash there. Assumes nothing.
use Rattle.std.specs.Prelude.{ℕ, suc, ◌-◌, Bool, true, false, cond, not, ◌&&◌, ◌||◌, ◌≡◌, List, length}
use Rattle.lists.specs.Select.{any, range}
use Rattle.geometry.specs.Spots.{Spot, same_spot}
use Rattle.geometry.specs.Crossing.{between}
use Rattle.geometry.specs.Lines.{point, CommonPart}
use Rattle.validation.specs.Alone.{level_run, upright_run}

-- not at all; as one of its ends; as a corner; inside a level run; inside an upright run
pub data Way : Type 0 where
  off : Way
  end : Way
  corner : Way
  level : Way
  upright : Way

-- run k is level, or upright, and has the spot
abbrev pub level_has : List Spot → Spot → ℕ → Bool
level_has ps s k = level_run ps k && between (point ps k) (point ps (suc k)) s

abbrev pub upright_has : List Spot → Spot → ℕ → Bool
upright_has ps s k = upright_run ps k && between (point ps k) (point ps (suc k)) s

unfoldable pub on_level : List Spot → Spot → Bool
on_level ps s = any (level_has ps s) (range (length ps - 1))

unfoldable pub on_upright : List Spot → Spot → Bool
on_upright ps s = any (upright_has ps s) (range (length ps - 1))

-- the spot is the line's first point or its last
unfoldable pub at_end : List Spot → Spot → Bool
at_end ps s = same_spot s (point ps 0) || same_spot s (point ps (length ps - 1))

unfoldable pub way_at : List Spot → Spot → Way
way_at ps s = cond (at_end ps s) end (cond (any (same_spot s) ps) corner (cond (on_level ps s) level (cond (on_upright ps s) upright off)))

abbrev pub passing : Way → Bool
passing off = false
passing end = true
passing corner = true
passing level = true
passing upright = true

abbrev pub is_level : Way → Bool
is_level off = false
is_level end = false
is_level corner = false
is_level level = true
is_level upright = false

abbrev pub is_upright : Way → Bool
is_upright off = false
is_upright end = false
is_upright corner = false
is_upright level = false
is_upright upright = true

-- 'it lies on a level run of one and an upright run of the other and is no point of either cable'
unfoldable pub cross_wise : Way → Way → Bool
cross_wise w v = is_level w && is_upright v || is_upright w && is_level v

-- Both pass, and it is no crossing.
unfoldable pub clash : Way → Way → Bool
clash w v = passing w && passing v && not (cross_wise w v)

abbrev pub is_end : Way → Bool
is_end off = false
is_end end = true
is_end corner = false
is_end level = false
is_end upright = false

-- They clash, and not as the ends of both.
unfoldable pub wrong_ways : Way → Way → Bool
wrong_ways w v = clash w v && not (is_end w && is_end v)

-- Two lines, by the ways in which they pass each spot: one crossing at most, and a clash only at the spot of a part that both join.
pub record Passing (spot : ℕ → Spot) (a b : ℕ) (ps : List Spot) (c d : ℕ) (qs : List Spot) : Type 0 where
  pub once : (s r : Spot) → cross_wise (way_at ps s) (way_at qs s) ≡ true → cross_wise (way_at ps r) (way_at qs r) ≡ true → s ≡ r
  pub shared : (s : Spot) → clash (way_at ps s) (way_at qs s) ≡ true → CommonPart spot a b c d s
