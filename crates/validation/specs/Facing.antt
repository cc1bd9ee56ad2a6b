-- A quick look at the end runs of a cable that is right from one of its ends tells from which: what the code computes, and nothing that the
-- request says. Assumes nothing.
use Rattle.std.specs.Prelude.{◌-◌, Bool, not, ◌&&◌, ◌||◌, List, [], ◌∷◌, ◌++◌, length, ltb}
use Rattle.geometry.specs.Spots.{Spot}
use Rattle.geometry.specs.Lines.{point}
use Rattle.validation.specs.Alone.{alternates, runs_share}

-- the points of a cable from the spot p over these corners to the spot q
abbrev pub line_over : Spot → List Spot → Spot → List Spot
line_over p corners q = p ∷ (corners ++ q ∷ [])

-- the first and the last run share a spot
unfoldable pub ends_share : List Spot → Bool
ends_share ps = runs_share (point ps 0) (point ps 1) (point ps (length ps - 2)) (point ps (length ps - 1))

-- the cable alternates, and its first and its last run share no spot; with fewer than two corners it makes no difference
unfoldable pub faces_forward : Spot → List Spot → Spot → Bool
faces_forward p corners q =
    let ps = line_over p corners q in
    ltb (length corners) 2 || (alternates ps && not (ends_share ps))
