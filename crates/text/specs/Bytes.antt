-- 'each word most significant byte first'. Assumes nothing.
use Rattle.std.specs.Prelude.{ℕ, ◌+◌, ◌*◌, ◌/◌, List, length, get_or}
use Rattle.lists.specs.Select.{tabulate}

-- the word whose first byte stands at a place
abbrev pub word_at : List ℕ → ℕ → ℕ
word_at bytes at = get_or bytes at 0 * 0x100_0000 + get_or bytes (at + 1) 0 * 65536 + get_or bytes (at + 2) 0 * 256 + get_or bytes (at + 3) 0

-- the words of a file, a word every four bytes
unfoldable pub words_in : List ℕ → List ℕ
words_in bytes = tabulate (length bytes / 4) (λ i. word_at bytes (4 * i))
