-- Two drawings in which each pair of cables crosses alike have as many crossings, and these are the pairs of routes that cross. Assumes
-- nothing.
use Prim.Native.Nat.{ℕ, ◌+◌}
use mathlib.Core.Path.{◌≡◌, refl, ap, ap₂, ◌∙◌}
use mathlib.Core.List.{List, [], ◌∷◌, map, Memᴰ}
use Rattle.lists.specs.Select.{count}
use Rattle.lists.proofs.Maps.{count_map}
use Rattle.lists.proofs.Filters.{count_same}
use Rattle.lists.proofs.Pairs.{pair_count}
use Rattle.geometry.proofs.Crossing.{lines_cross_either}
use Rattle.drawing.specs.Drawing.{Route, Drawing, route_points, cross_pair, crossings_of}

-- of the routes that f leads to, and of all of them that have some property
pub pairs_same :
    (d e : Drawing) (f : Route → Route) (P : Route → Type 0) → ((r q : Route) → P r → P q → cross_pair e (f r) (f q) ≡ cross_pair d r q)
    → (rs : List Route) → ((r : Route) → Memᴰ r rs → P r) → crossings_of e (map f rs) ≡ crossings_of d rs
unfolding crossings_of
pairs_same d e f P same [] all = refl
pairs_same d e f P same (r ∷ rs) all =
    ap₂ (λ (a b : ℕ). a + b)
    (count_map (cross_pair e (f r)) f rs ∙ count_same _ _ rs (λ q m. same r q (all r (Memᴰ.head refl)) (all q (Memᴰ.tail m))))
    (pairs_same d e f P same rs (λ q m. all q (Memᴰ.tail m)))

-- the crossings are the pairs of routes that cross
pub crossings_pairs : (d : Drawing) (rs : List Route) → crossings_of d rs ≡ pair_count (cross_pair d) rs
unfolding crossings_of pair_count
crossings_pairs d [] = refl
crossings_pairs d (r ∷ rs) = ap (λ (k : ℕ). count (cross_pair d r) rs + k) (crossings_pairs d rs)

-- which of the two comes first does not matter
pub cross_either : (d : Drawing) (r q : Route) → cross_pair d r q ≡ cross_pair d q r
unfolding cross_pair
cross_either d r q = lines_cross_either (route_points d r) (route_points d q)
