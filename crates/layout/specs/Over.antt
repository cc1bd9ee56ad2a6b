-- The test on numbers that the code counts crossings by. Assumes nothing.
use Rattle.std.specs.Prelude.{min, max, Bool, ◌&&◌, ◌||◌, ltb}
use Rattle.layout.specs.Points.{Course}

-- for courses of one drawing: the upper level run of c over the column of d
unfoldable pub over : Course → Course → Bool
over c d =
    ltb d.low c.high && ltb c.high d.high
    && ltb (min c.column c.to.x) d.column && ltb d.column (max c.column c.to.x)

-- the two cross: one of them is over the other
unfoldable pub courses_cross : Course → Course → Bool
courses_cross c d = over c d || over d c
