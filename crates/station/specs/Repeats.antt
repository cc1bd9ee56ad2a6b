-- Repeated cables, which request 2026-12 allows: the condition of document 01's check 7, and simple graphs, which have none. Assumes
-- nothing.
use Rattle.std.specs.Prelude.{ℕ, ◌-◌, ◌<◌, ◌≡◌, ◌⊎◌, Bool, ◌&&◌, ◌||◌, List, length, get_or, eqb, Option}
use Rattle.lists.specs.Search.{seek, is_found}
use Rattle.words.specs.Words.{first_of, second_of}
use Rattle.station.specs.Station.{Cable, no_cable, Station}

-- 'joins the same two parts .. either way round'
unfoldable pub same_parts : ℕ → ℕ → Bool
same_parts v w =
    (eqb (first_of v) (first_of w) && eqb (second_of v) (second_of w)) || (eqb (first_of v) (second_of w) && eqb (second_of v) (first_of w))

-- the cable word at i joins the same two parts 'as an earlier one'
unfoldable pub repeated : List ℕ → ℕ → Bool
repeated list i = is_found (seek (λ j. same_parts (get_or list j 0) (get_or list i 0)) 2 (i - 2))

-- 'first such later word'
unfoldable pub first_repeat : List ℕ → Option ℕ
first_repeat list = seek (repeated list) 2 (length list - 2)

-- two cables join the same two parts, either way round
abbrev pub SamePair : Cable → Cable → Type 0
SamePair c d = ((c.one ≡ d.one) × (c.other ≡ d.other)) ⊎ ((c.one ≡ d.other) × (c.other ≡ d.one))

-- no two lines do: a simple graph
abbrev pub Simple : Station → Type 0
Simple st = (i j : ℕ) → i < length st.cables → j < length st.cables → SamePair (get_or st.cables i no_cable) (get_or st.cables j no_cable) → i ≡ j
