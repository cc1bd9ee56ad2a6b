-- Request 2026-08: 'all routes from the source that climb in rank at every cable', here signal paths, and their levels in whole 1/64 dB. They
-- are the directed paths of the st-graph from its source, and it has no cycle. Assumes nothing.
use Rattle.std.specs.Prelude.{ℕ, zero, suc, ◌<◌, ◌≡◌, cond, ℤ, pos, ◌+ℤ◌, get_or, eqb, ltb}
use mathlib.Core.List.{List, [], ◌∷◌, ◌++◌, map, flat_map}
use Rattle.std.specs.Int.Signed.{lt_z}
use Rattle.lists.specs.Select.{cons_if, filter}
use Rattle.station.specs.Station.{Cable, Station}
use Rattle.order.specs.Reach.{neighbours, Joined}
use Rattle.order.specs.Order.{order, rank_in}
use Rattle.levels.specs.Sorts.{gain_of}

-- a cable joins p and q, and from q to p it climbs in rank
pub record Climbs (st : Station) (q p : ℕ) : Type 0 where
  pub joined : Joined st.cables p q
  pub higher : rank_in (order st) q < rank_in (order st) p

-- The parts of a route to p, from the source on: the source alone, or a route to a part that a cable climbs from, and then p.
pub data SignalPath (st : Station) : ℕ → List ℕ → Type 0 where
  begin : {p : ℕ} {parts : List ℕ} → p ≡ st.source → parts ≡ p ∷ [] → SignalPath st p parts
  climb : {p : ℕ} {parts : List ℕ} (q : ℕ) (before : List ℕ) → SignalPath st q before → Climbs st q p → parts ≡ before ++ (p ∷ []) → SignalPath st p parts

-- the level behind some parts, of a signal that has level z before them
unfoldable pub level_from : List ℕ → ℤ → List ℕ → ℤ
level_from row z [] = z
level_from row z (p ∷ parts) = level_from row (z +ℤ gain_of (get_or row p 0)) parts

-- 'with both end parts counted; from 0'
unfoldable pub level_along : List ℕ → List ℕ → ℤ
level_along row parts = level_from row (pos 0) parts

-- the parts that a cable climbs from to p, where the parts stand in this order
unfoldable pub lower_neighbours : List ℕ → List Cable → ℕ → List ℕ
lower_neighbours parts cs p = filter (λ q. ltb (rank_in parts q) (rank_in parts p)) (neighbours cs p)

-- the routes to p of at most k parts, one by one
unfoldable pub signal_paths_within : Station → List ℕ → ℕ → ℕ → List (List ℕ)
signal_paths_within st parts zero p = []
signal_paths_within st parts (suc k) p =
    cons_if (eqb p st.source) (p ∷ [])
    (flat_map (λ q. map (λ before. before ++ (p ∷ [])) (signal_paths_within st parts k q)) (lower_neighbours parts st.cables p))

-- 'all routes' to p: each rank is on a route once at most
unfoldable pub signal_paths_to : Station → ℕ → List (List ℕ)
signal_paths_to st p = signal_paths_within st (order st) st.parts p

unfoldable pub lesser : ℤ → ℤ → ℤ
lesser a b = cond (lt_z b a) b a

unfoldable pub greater : ℤ → ℤ → ℤ
greater a b = cond (lt_z a b) b a

-- the least and the greatest of some levels
pub record Extremes : Type 0 where
  pub least : ℤ
  pub greatest : ℤ

-- of one level, both are that level
abbrev pub only : ℤ → Extremes
only z = record { least = z; greatest = z }

-- of those that have these extremes and those that have the others
unfoldable pub merged : Extremes → Extremes → Extremes
merged a b = record { least = lesser a.least b.least; greatest = greater a.greatest b.greatest }

unfoldable pub merged_from : Extremes → List Extremes → Extremes
merged_from a [] = a
merged_from a (b ∷ bs) = merged_from (merged a b) bs

-- of all together; where there is none, a signal at 0
unfoldable pub extremes_of : List Extremes → Extremes
extremes_of [] = only (pos 0)
extremes_of (a ∷ rest) = merged_from a rest

-- 'For each part .. the least and the greatest level .. over all routes'
unfoldable pub levels_at : Station → List ℕ → ℕ → Extremes
levels_at st row p = extremes_of (map (λ parts. only (level_along row parts)) (signal_paths_to st p))
