-- What the tables of a sweep find, said without them: over the visits of the lines in each row. Assumes nothing.
use Rattle.std.specs.Prelude.{ℕ, ◌<◌, ◌≤◌, ◌≡◌, Bool, true, false, ◌&&◌, ◌||◌, ◌⊎◌, length}
use mathlib.Core.List.{List, [], ◌∷◌, map, Memᴰ}
use Rattle.lists.specs.Select.{member}
use Rattle.geometry.specs.Spots.{Spot, spot_at}
use Rattle.drawing.specs.Drawing.{Route, Drawing, spot_of, route_at}
use Rattle.sweep.specs.Visits.{Visit}
use Rattle.sweep.specs.Sweep.{route_visits}

-- the visits of the line of cable i in row y, and their columns
abbrev pub visits_of : Drawing → ℕ → ℕ → List Visit
visits_of d y i = route_visits d y (route_at d i)

abbrev pub columns : List Visit → List ℕ
columns vs = map (λ (v : Visit). v.column) vs

-- a number stands again behind itself
unfoldable pub repeats : List ℕ → Bool
repeats [] = false
repeats (x ∷ xs) = member x xs || repeats xs

-- the spot of a part that the cable does not join, or of two parts
abbrev pub Strange : Drawing → Route → Spot → Type 0
Strange d r s =
    ((p : ℕ) × (p < length d.parts) × (spot_of d p ≡ s) × (p ≡ r.first → ⊥) × (p ≡ r.last → ⊥))
    ⊎ ((p : ℕ) × (q : ℕ) × (p < q) × (q < length d.parts) × (spot_of d p ≡ s) × (spot_of d q ≡ s))

-- in some row of the head the line visits a spot twice, or a part's that it may not
abbrev pub RowWrong : Drawing → ℕ → Type 0
RowWrong d i =
    (y : ℕ) × (y ≤ d.height)
    × ((repeats (columns (visits_of d y i)) ≡ true)
    ⊎ ((v : Visit) × Memᴰ v (visits_of d y i) × Strange d (route_at d i) (spot_at v.column y)))

-- two visits of one spot on runs of the same kind, and on runs of different kinds
unfoldable pub same_kind : Visit → Visit → Bool
same_kind v w = v.level && w.level || v.upright && w.upright

unfoldable pub other_kind : Visit → Visit → Bool
other_kind v w = v.level && w.upright || v.upright && w.level

-- the lines of cables i and j visit the spot in ways that pass a test
abbrev pub BothVisit : (Visit → Visit → Bool) → Drawing → ℕ → ℕ → Spot → Type 0
BothVisit test d i j s =
    (v : Visit) × (w : Visit) × Memᴰ v (visits_of d s.y i) × Memᴰ w (visits_of d s.y j)
    × (v.column ≡ s.x) × (w.column ≡ s.x) × (test v w ≡ true)

-- in the rows of the head they share a spot on runs of the same kind, or two spots on runs of different kinds
abbrev pub PairWrong : Drawing → ℕ → ℕ → Type 0
PairWrong d i j =
    ((s : Spot) × (s.y ≤ d.height) × BothVisit same_kind d i j s)
    ⊎ ((s : Spot) × (r : Spot) × (s.y ≤ d.height) × (r.y ≤ d.height) × (s ≡ r → ⊥) × BothVisit other_kind d i j s
    × BothVisit other_kind d i j r)

-- what the tables have room for
pub record Roomy (d : Drawing) : Type 0 where
  pub parts : length d.parts ≤ 512
  pub lines : length d.routes ≤ 1024
  pub spots : (p : ℕ) → p < length d.parts → (spot_of d p).x < 4096
  pub visits : (y i : ℕ) (v : Visit) → i < length d.routes → Memᴰ v (visits_of d y i) → v.column < 4096
