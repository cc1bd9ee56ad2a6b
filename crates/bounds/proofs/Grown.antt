-- The box of some points and one more is their box, grown by that one. Assumes nothing.
use mathlib.Core.Path.{◌≡◌, refl}
use mathlib.Core.List.{List, [], ◌∷◌, ◌++◌}
use Prim.Native.Nat.{◌<◌}
use native.Mathlib.Omega.{arith}
use lib.ListN.{length}
use Rattle.geometry.specs.Spots.{Spot}
use Rattle.bounds.specs.declared.Bounds.{Bounds}
use Rattle.bounds.specs.Boxes.{box_of, grown, grown_by}

grown_by_snoc : (b : Bounds) (ps : List Spot) (s : Spot) → grown_by b (ps ++ (s ∷ [])) ≡ grown (grown_by b ps) s.x s.y
unfolding grown_by
grown_by_snoc b [] s = refl
grown_by_snoc b (p ∷ ps) s = grown_by_snoc (grown b p.x p.y) ps s

pub box_of_snoc : (ps : List Spot) (s : Spot) → 0 < length ps → box_of (ps ++ (s ∷ [])) ≡ grown (box_of ps) s.x s.y
unfolding box_of grown_by
box_of_snoc [] s h = absurd (omega arith)
box_of_snoc (p ∷ ps) s h = grown_by_snoc _ ps s
