-- Request 2026-07: 'The station editor grows a list one cable at a time in a lent row.' The list in a row, and a list with further cables.
-- Assumes nothing.
use Rattle.std.specs.Prelude.{ℕ, ◌+◌, List, [], ◌∷◌, ◌++◌, length, get_or, set, take}
use Rattle.words.specs.Words.{parts_of, cables_of, list_head_word, cable_word}

-- m, 'the count of cables then present': the version of the list in a row
unfoldable pub present : List ℕ → ℕ
present row = cables_of (get_or row 0 0)

-- 'The list is the row's first m + 2 words', or what there is of them
unfoldable pub list_in : List ℕ → List ℕ
list_in row = take (present row + 2) row

-- a list's head word that counts k cables more
unfoldable pub raised_by : ℕ → ℕ → ℕ
raised_by k head = list_head_word (parts_of head) (cables_of head + k)

-- a 'list followed by the cables' of further words, which its head counts too
unfoldable pub followed_by : List ℕ → List ℕ → List ℕ
followed_by list cables = set list 0 (raised_by (length cables) (get_or list 0 0)) ++ cables

-- 'the longer list': one more cable
unfoldable pub longer : ℕ → ℕ → List ℕ → List ℕ
longer one other list = followed_by list (cable_word one other ∷ [])
