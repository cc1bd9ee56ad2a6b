-- How much of standard input is read. Assumes nothing.
use Rattle.std.specs.Prelude.{ℕ}

-- the most words
abbrev pub most_read : ℕ
most_read = 131072

-- the words of a part, read or printed at once
abbrev pub part_words : ℕ
part_words = 1024
