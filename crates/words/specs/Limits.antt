-- The limits of document 01, and those that follow from them. Assumes nothing.
use Rattle.std.specs.Prelude.{ℕ, ◌+◌, ◌*◌, ◌-◌, ◌/◌}

-- 'A station has 3 to' 512 'parts' (2026-11: 'Check 4 allows 512')
abbrev pub least_parts : ℕ
least_parts = 3

abbrev pub most_parts : ℕ
most_parts = 512

-- the greatest degree: 'a part with more than four cables' is refused
abbrev pub most_degree : ℕ
most_degree = 4

-- every cable is one of the cables of two parts
abbrev pub most_cables : ℕ
most_cables = most_degree * most_parts / 2

-- 'The sheet has .. 3m - n + 3 + d + e words', where d and e are at most 1 and m at most 2n, and m + 1 lengths (2026-01)
abbrev pub most_words : ℕ
most_words = 4 * most_cables - most_parts + 4 + 1 + 1

-- and with 'm + 1 words' of prices (2026-05)
abbrev pub most_quoted_words : ℕ
most_quoted_words = most_words + most_cables + 1

-- the greatest number that 'two 12-bit fields' hold each
abbrev pub most_field : ℕ
most_field = 4095

-- 2026-10: 'up to 64 points'
abbrev pub most_marks : ℕ
most_marks = 64
