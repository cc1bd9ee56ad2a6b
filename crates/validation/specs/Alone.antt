-- Request 2026-09: what demand 3 says of a cable by itself (`Lone` in geometry), computed over its runs. Assumes nothing.
use Rattle.std.specs.Prelude.{ℕ, suc, ◌-◌, min, max, Bool, not, ◌&&◌, ◌||◌, List, length, eqb, leb, ltb}
use Rattle.lists.specs.Select.{any, range}
use Rattle.geometry.specs.Spots.{Spot, same_spot}
use Rattle.geometry.specs.Lines.{point}
use Rattle.geometry.specs.Crossing.{between}

-- every number below n passes the test
unfoldable pub each : (ℕ → Bool) → ℕ → Bool
each p n = not (any (λ k. not (p k)) (range n))

unfoldable pub level_run : List Spot → ℕ → Bool
level_run ps k = eqb (point ps k).y (point ps (suc k)).y

unfoldable pub upright_run : List Spot → ℕ → Bool
upright_run ps k = eqb (point ps k).x (point ps (suc k)).x

-- run k is level or upright, and its two points differ: exactly one of the two
unfoldable pub proper_run : List Spot → ℕ → Bool
proper_run ps k = (level_run ps k || upright_run ps k) && not (level_run ps k && upright_run ps k)

-- run k + 1 is of the other kind than run k
unfoldable pub turns : List Spot → ℕ → Bool
turns ps k = not (level_run ps k && level_run ps (suc k)) && not (upright_run ps k && upright_run ps (suc k))

-- the numbers from a to b and those from c to d have one in common
unfoldable pub overlap : ℕ → ℕ → ℕ → ℕ → Bool
overlap a b c d = leb (min a b) (max c d) && leb (min c d) (max a b)

-- two runs, from p to q and from r to t, share a spot
unfoldable pub runs_share : Spot → Spot → Spot → Spot → Bool
runs_share p q r t = overlap p.x q.x r.x t.x && overlap p.y q.y r.y t.y

-- runs k and j of one line share a spot
abbrev pub touching : List Spot → ℕ → ℕ → Bool
touching ps k j = runs_share (point ps j) (point ps (suc j)) (point ps k) (point ps (suc k))

-- 'It touches itself where two of its runs share a spot', those that are no neighbours: j + 1 < k
unfoldable pub touches_itself : List Spot → Bool
touches_itself ps = any (λ k. any (touching ps k) (range (k - 1))) (range (length ps - 1))

-- the line has the spot on some run
unfoldable pub on_line : List Spot → Spot → Bool
on_line ps s = any (λ k. between (point ps k) (point ps (suc k)) s) (range (length ps - 1))

-- the cable joins its parts: their numbers, its first and its last point
unfoldable pub joins_parts : ℕ → (ℕ → Spot) → ℕ → ℕ → List Spot → Bool
joins_parts n spot a b ps =
    ltb a n && ltb b n && not (eqb a b) && leb 2 (length ps)
    && same_spot (point ps 0) (spot a) && same_spot (point ps (length ps - 1)) (spot b)

-- 'by alternating level and upright runs of nonzero length'
unfoldable pub alternates : List Spot → Bool
alternates ps = each (proper_run ps) (length ps - 1) && each (turns ps) (length ps - 2)

-- every part is one of the cable's own, or not on its line
unfoldable pub passes_others : ℕ → (ℕ → Spot) → ℕ → ℕ → List Spot → Bool
passes_others n spot a b ps = each (λ p. eqb p a || eqb p b || not (on_line ps (spot p))) n

unfoldable pub lone : ℕ → (ℕ → Spot) → ℕ → ℕ → List Spot → Bool
lone n spot a b ps = joins_parts n spot a b ps && alternates ps && not (touches_itself ps) && passes_others n spot a b ps
