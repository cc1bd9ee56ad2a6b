-- Small lines judged: the triangle, a loop that is right in one direction only, two repeated cables. Assumes nothing.
use Prim.Native.Nat.{ℕ}
use mathlib.Core.Path.{◌≡◌, refl}
use mathlib.Core.Bool.{true, false}
use mathlib.Core.List.{List, [], ◌∷◌}
use lib.ListN.{get_or}
use Rattle.geometry.specs.Spots.{Spot, spot_at, origin}
use Rattle.validation.specs.Alone.{alternates, touches_itself, lone}
use Rattle.validation.specs.Facing.{faces_forward}
use Rattle.validation.specs.Ways.{level, way_at}
use Rattle.validation.specs.Judging.{together}
use Rattle.validation.proofs.Computing.{validation_computing}

abbrev spots_of : List Spot → ℕ → Spot
spots_of l p = get_or l p origin

-- document 01's triangle
abbrev three : ℕ → Spot
three = spots_of (spot_at 0 0 ∷ spot_at 0 1 ∷ spot_at 0 2 ∷ [])

abbrev around : List Spot
around = spot_at 0 0 ∷ spot_at 1 0 ∷ spot_at 1 2 ∷ spot_at 0 2 ∷ []

around_right : lone 3 three 0 2 around ≡ true
unfolding validation_computing
around_right = refl

-- the straight line runs over part 1
straight_wrong : lone 3 three 0 2 (spot_at 0 0 ∷ spot_at 0 2 ∷ []) ≡ false
unfolding validation_computing
straight_wrong = refl

-- the corners from the other end are right from part 2 to part 0
around_back : lone 3 three 2 0 (spot_at 0 2 ∷ spot_at 1 2 ∷ spot_at 1 0 ∷ spot_at 0 0 ∷ []) ≡ true
unfolding validation_computing
around_back = refl

-- Four corners that alternate in both directions, and touch themselves in one.
abbrev wide : ℕ → Spot
wide = spots_of (spot_at 0 0 ∷ spot_at 0 3 ∷ spot_at 2 3 ∷ [])

abbrev loop : List Spot
loop = spot_at 0 0 ∷ spot_at 0 1 ∷ spot_at 1 1 ∷ spot_at 1 2 ∷ spot_at 0 2 ∷ spot_at 0 3 ∷ []

abbrev loop_back : List Spot
loop_back = spot_at 0 3 ∷ spot_at 0 1 ∷ spot_at 1 1 ∷ spot_at 1 2 ∷ spot_at 0 2 ∷ spot_at 0 0 ∷ []

loop_right : lone 3 wide 0 1 loop ≡ true
unfolding validation_computing
loop_right = refl

loop_back_alternates : alternates loop_back ≡ true
unfolding validation_computing
loop_back_alternates = refl

loop_back_touches : touches_itself loop_back ≡ true
unfolding validation_computing
loop_back_touches = refl

loop_back_wrong : lone 3 wide 1 0 loop_back ≡ false
unfolding validation_computing
loop_back_wrong = refl

-- Two repeated cables on one run: one step long they share their parts' spots alone, two steps long one spot more.
one_step_apart : together 1 2 (spot_at 0 0 ∷ spot_at 0 1 ∷ []) (spot_at 0 0 ∷ spot_at 0 1 ∷ []) ≡ true
unfolding validation_computing
one_step_apart = refl

two_steps_apart : together 1 3 (spot_at 0 0 ∷ spot_at 0 2 ∷ []) (spot_at 0 0 ∷ spot_at 0 2 ∷ []) ≡ false
unfolding validation_computing
two_steps_apart = refl

-- A level line and one that crosses it, once and twice.
abbrev across : List Spot
across = spot_at 0 1 ∷ spot_at 4 1 ∷ []

crossed_once : together 4 2 across (spot_at 1 0 ∷ spot_at 1 2 ∷ []) ≡ true
unfolding validation_computing
crossed_once = refl

crossed_twice : together 4 2 across (spot_at 1 0 ∷ spot_at 1 2 ∷ spot_at 3 2 ∷ spot_at 3 0 ∷ []) ≡ false
unfolding validation_computing
crossed_twice = refl

-- a corner on the line
cornered : together 4 2 across (spot_at 1 0 ∷ spot_at 1 1 ∷ spot_at 2 1 ∷ spot_at 2 2 ∷ spot_at 1 2 ∷ []) ≡ false
unfolding validation_computing
cornered = refl

passed_level : way_at across (spot_at 2 1) ≡ level
unfolding validation_computing
passed_level = refl

-- an end of one on the other
ended : together 4 2 across (spot_at 2 1 ∷ spot_at 2 2 ∷ []) ≡ false
unfolding validation_computing
ended = refl

-- a last run that comes up to the first, and one that stops below it
reaches : touches_itself (spot_at 0 2 ∷ spot_at 4 2 ∷ spot_at 4 0 ∷ spot_at 2 0 ∷ spot_at 2 2 ∷ []) ≡ true
unfolding validation_computing
reaches = refl

stops_below : touches_itself (spot_at 0 2 ∷ spot_at 4 2 ∷ spot_at 4 0 ∷ spot_at 2 0 ∷ spot_at 2 1 ∷ []) ≡ false
unfolding validation_computing
stops_below = refl

-- the loop faces forward in the direction in which it is right, and not in the other; with one corner a line faces so in both
loop_faces : faces_forward (spot_at 0 0) (spot_at 0 1 ∷ spot_at 1 1 ∷ spot_at 1 2 ∷ spot_at 0 2 ∷ []) (spot_at 0 3) ≡ true
unfolding validation_computing
loop_faces = refl

loop_back_faces : faces_forward (spot_at 0 3) (spot_at 0 1 ∷ spot_at 1 1 ∷ spot_at 1 2 ∷ spot_at 0 2 ∷ []) (spot_at 0 0) ≡ false
unfolding validation_computing
loop_back_faces = refl

corner_faces : faces_forward (spot_at 0 0) (spot_at 3 0 ∷ []) (spot_at 3 3) ≡ true
unfolding validation_computing
corner_faces = refl
