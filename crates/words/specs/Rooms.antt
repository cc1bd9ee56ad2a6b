-- The lengths of the code's tables that have room for every station within the limits. Assumes nothing.
use Rattle.std.specs.Prelude.{ℕ, ◌+◌, ◌*◌}
use Rattle.words.specs.Limits.{most_parts, most_degree}

-- room for the neighbours of each part
abbrev pub neighbour_places : ℕ
neighbour_places = most_degree * most_parts

-- the adjacency table: for each part the places of its neighbours, and how many they are
abbrev pub adjacency_places : ℕ
adjacency_places = neighbour_places + most_parts

-- the stack of a walk, which puts the parts that it starts from on it, at most two, and then each part's neighbours in place of the part: a
-- walk has at most 2 + 4n parts on it, and the last ones put there are at most four
abbrev pub stack_places : ℕ
stack_places = neighbour_places + most_degree + 1
