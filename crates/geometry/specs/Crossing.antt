-- Document 01: whether two lines cross, computed. Assumes nothing.
use Rattle.std.specs.Prelude.{ℕ, suc, ◌-◌, min, max, Bool, not, ◌&&◌, ◌||◌, List, length, eqb, leb}
use Rattle.lists.specs.Select.{any, range}
use Rattle.geometry.specs.Spots.{Spot, same_spot}
use Rattle.geometry.specs.Lines.{point}

unfoldable pub between : Spot → Spot → Spot → Bool
between p q s =
    leb (min p.x q.x) s.x && leb s.x (max p.x q.x) && leb (min p.y q.y) s.y && leb s.y (max p.y q.y)

-- The one spot that a level run and an upright run can share is in the row of the first and the column of the second.
unfoldable pub meeting_spot : List Spot → ℕ → List Spot → ℕ → Spot
meeting_spot ps k qs l = record { x = (point qs l).x; y = (point ps k).y }

-- 'a crossing where it lies on a level run of one and an upright run of the other and is no point of either cable': run k of the one, l of
-- the other
unfoldable pub runs_cross : List Spot → ℕ → List Spot → ℕ → Bool
runs_cross ps k qs l =
    let s = meeting_spot ps k qs l in
    eqb (point ps k).y (point ps (suc k)).y && eqb (point qs l).x (point qs (suc l)).x
    && between (point ps k) (point ps (suc k)) s && between (point qs l) (point qs (suc l)) s
    && not (any (same_spot s) ps) && not (any (same_spot s) qs)

unfoldable pub crosses_over : List Spot → List Spot → Bool
crosses_over ps qs = any (λ k. any (λ l. runs_cross ps k qs l) (range (length qs - 1))) (range (length ps - 1))

-- 'their lines cross where they have one'
unfoldable pub lines_cross : List Spot → List Spot → Bool
lines_cross ps qs = crosses_over ps qs || crosses_over qs ps
