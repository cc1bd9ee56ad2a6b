-- Document 01, the paragraph 'A spot is a whole x with a whole y': runs, lines, crossing, touching, over the points of each cable. Assumes
-- nothing.
use Rattle.std.specs.Prelude.{ℕ, suc, ◌<◌, ◌≤◌, min, max, ◌≡◌, ◌⊎◌, List, length, get_or}
use Rattle.geometry.specs.Spots.{Spot, origin}

-- point k of a list of points
unfoldable pub point : List Spot → ℕ → Spot
point ps k = get_or ps k origin

-- run k goes from point k to point k + 1
abbrev pub IsRun : List Spot → ℕ → Type 0
IsRun ps k = suc k < length ps

-- 'A run is all spots from one point straight to the next, both included'
pub record Between (p q s : Spot) : Type 0 where
  pub left : min p.x q.x ≤ s.x
  pub right : s.x ≤ max p.x q.x
  pub below : min p.y q.y ≤ s.y
  pub above : s.y ≤ max p.y q.y

abbrev pub OnRun : List Spot → ℕ → Spot → Type 0
OnRun ps k s = Between (point ps k) (point ps (suc k)) s

-- 'it is level where their y is equal, upright where their x is'
abbrev pub Level : List Spot → ℕ → Type 0
Level ps k = (point ps k).y ≡ (point ps (suc k)).y

abbrev pub Upright : List Spot → ℕ → Type 0
Upright ps k = (point ps k).x ≡ (point ps (suc k)).x

-- 'A cable's line is all its runs.'
abbrev pub OnLine : List Spot → Spot → Type 0
OnLine ps s = (k : ℕ) × IsRun ps k × OnRun ps k s

-- s lies on a level run, and on an upright run
abbrev pub OnLevel : List Spot → Spot → Type 0
OnLevel ps s = (k : ℕ) × IsRun ps k × Level ps k × OnRun ps k s

abbrev pub OnUpright : List Spot → Spot → Type 0
OnUpright ps s = (k : ℕ) × IsRun ps k × Upright ps k × OnRun ps k s

-- s is no point of the cable
abbrev pub NoPoint : List Spot → Spot → Type 0
NoPoint ps s = (k : ℕ) → k < length ps → point ps k ≡ s → ⊥

-- 'It is a crossing where it lies on a level run of one and an upright run of the other and is no point of either cable'
pub record CrossesOver (ps qs : List Spot) (s : Spot) : Type 0 where
  pub level : OnLevel ps s
  pub upright : OnUpright qs s
  pub free_first : NoPoint ps s
  pub free_second : NoPoint qs s

abbrev pub CrossingAt : List Spot → List Spot → Spot → Type 0
CrossingAt ps qs s = CrossesOver ps qs s ⊎ CrossesOver qs ps s

-- Of n parts at their spots: what demand 3 says of the cable from part a to part b with the points ps by itself.
pub record Lone (n : ℕ) (spot : ℕ → Spot) (a b : ℕ) (ps : List Spot) : Type 0 where
  -- 'from one of its parts to the other': its first point is its first part's spot, its last point its other part's, and the two parts
  -- differ
  pub starts : point ps 0 ≡ spot a
  pub ends : (k : ℕ) → suc k ≡ length ps → point ps k ≡ spot b
  pub two : 2 ≤ length ps
  pub parts : (a < n) × (b < n) × (a ≡ b → ⊥)
  -- 'the two points differ'
  pub differ : (k : ℕ) → IsRun ps k → point ps k ≡ point ps (suc k) → ⊥
  -- 'every cable is level and upright runs in turn'
  pub straight : (k : ℕ) → IsRun ps k → Level ps k ⊎ Upright ps k
  pub level_upright : (k : ℕ) → IsRun ps (suc k) → Level ps k → Upright ps (suc k)
  pub upright_level : (k : ℕ) → IsRun ps (suc k) → Upright ps k → Level ps (suc k)
  -- 'It touches itself where two of its runs share a spot, except that neighbouring runs share the point between them.'
  pub itself : (j k : ℕ) → j < k → IsRun ps k → (s : Spot) → OnRun ps j s → OnRun ps k s → (k ≡ suc j) × (s ≡ point ps k)
  -- 'No cable touches .. a part that it doesn't join'
  pub others : (p : ℕ) → p < n → OnLine ps (spot p) → (p ≡ a) ⊎ (p ≡ b)
  -- 'that part's spot is on no run but the one that has this end'
  pub own_first : (k : ℕ) → IsRun ps k → OnRun ps k (spot a) → k ≡ 0
  pub own_last : (k : ℕ) → IsRun ps k → OnRun ps k (spot b) → suc (suc k) ≡ length ps

-- s is the spot 'of a part that both join': a cable from a to b, and one from c to d
abbrev pub CommonPart : (ℕ → Spot) → ℕ → ℕ → ℕ → ℕ → Spot → Type 0
CommonPart spot a b c d s = (k : ℕ) × ((k ≡ a) ⊎ (k ≡ b)) × ((k ≡ c) ⊎ (k ≡ d)) × (spot k ≡ s)

-- What it says of two cables: one from a to b with the points ps, one from c to d with the points qs.
pub record Together (spot : ℕ → Spot) (a b : ℕ) (ps : List Spot) (c d : ℕ) (qs : List Spot) : Type 0 where
  -- 'Any two cables have at most one crossing'
  pub once : (s r : Spot) → CrossingAt ps qs s → CrossingAt ps qs r → s ≡ r
  -- 'any other spot that they share is that of a part that both join'
  pub shared : (s : Spot) → OnLine ps s → OnLine qs s → CrossingAt ps qs s ⊎ CommonPart spot a b c d s

-- What demand 3 says of meetings: of n parts at their spots and m cables, each with its first and its last part and its points.
pub record Meetings (n m : ℕ) (spot : ℕ → Spot) (first last : ℕ → ℕ) (points : ℕ → List Spot) : Type 0 where
  pub alone : (i : ℕ) → i < m → Lone n spot (first i) (last i) (points i)
  pub together : (i j : ℕ) → i < m → j < m → (i ≡ j → ⊥) → Together spot (first i) (last i) (points i) (first j) (last j) (points j)
  -- no two parts share a spot
  pub apart : (p q : ℕ) → p < n → q < n → spot p ≡ spot q → p ≡ q
