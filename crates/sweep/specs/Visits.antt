-- The spots of a line in one row, each met once: its points, and what lies between two neighbouring points. Assumes nothing.
use Rattle.std.specs.Prelude.{ℕ, zero, suc, ◌+◌, ◌-◌, min, max, Bool, true, false, cond, ◌&&◌, List, [], ◌∷◌, ◌++◌, eqb, ltb}
use Rattle.lists.specs.Select.{cons_if}
use Rattle.geometry.specs.Spots.{Spot}

-- a column of the row, and whether the spot there lies on a level run and on an upright run: both at a corner, neither at an end
pub record Visit : Type 0 where
  pub column : ℕ
  pub level : Bool
  pub upright : Bool

abbrev pub visit_at : ℕ → Bool → Bool → Visit
visit_at x level upright = record { column = x; level = level; upright = upright }

-- an end of the line, where it is in row y
unfoldable pub end_visits : ℕ → Spot → List Visit
end_visits y s = cons_if (eqb s.y y) (visit_at s.x false false) []

-- a corner, where it is in row y
unfoldable pub corner_visits : ℕ → Spot → List Visit
corner_visits y s = cons_if (eqb s.y y) (visit_at s.x true true) []

-- k columns of a level run from column x on
unfoldable pub level_visits : ℕ → ℕ → List Visit
level_visits x zero = []
level_visits x (suc k) = visit_at x true false ∷ level_visits (x + 1) k

-- the spots of row y strictly between two points, of a level or an upright run
unfoldable pub open_visits : ℕ → Spot → Spot → List Visit
open_visits y p q =
    cond (eqb p.y q.y)
    (cond (eqb p.y y) (level_visits (min p.x q.x + 1) (max p.x q.x - (min p.x q.x + 1))) [])
    (cons_if (ltb (min p.y q.y) y && ltb y (max p.y q.y)) (visit_at p.x false true) [])

-- the line from a point that has been visited over these corners to its last point
unfoldable pub visits_behind : ℕ → Spot → List Spot → Spot → List Visit
visits_behind y p [] last = open_visits y p last ++ end_visits y last
visits_behind y p (c ∷ cs) last = open_visits y p c ++ (corner_visits y c ++ visits_behind y c cs last)

-- the whole line
unfoldable pub line_visits : ℕ → Spot → List Spot → Spot → List Visit
line_visits y first corners last = end_visits y first ++ visits_behind y first corners last
