-- The drawing that a sheet's words show, given the count of its parts and the two parts of each cable. Assumes nothing.
use Rattle.std.specs.Prelude.{ℕ, zero, suc, ◌+◌, List, [], ◌∷◌, map, get_or, take, drop}
use Rattle.lists.specs.Select.{range, sort_by}
use Rattle.words.specs.Words.{first_of, second_of}
use Rattle.geometry.specs.Spots.{Spot}
use Rattle.drawing.specs.Drawing.{Route, Drawing}

-- a cable's two parts, the one that its corners start from first
pub record Endpoints : Type 0 where
  pub first : ℕ
  pub last : ℕ

abbrev pub no_endpoints : Endpoints
no_endpoints = record { first = 0; last = 0 }

-- 'a part's or a corner's is the one in its word'
unfoldable pub word_spot : ℕ → Spot
word_spot w = record { x = first_of w; y = second_of w }

-- the cables, each with the corners that stand behind its word
unfoldable pub routes_in : List Endpoints → List ℕ → List Route
routes_in [] words = []
routes_in (e ∷ es) words =
    let k = second_of (get_or words 0 0) in
    record { first = e.first; last = e.last; corners = map word_spot (take k (drop 1 words)) }
    ∷ routes_in es (drop (k + 1) words)

-- the drawing of n parts on a sheet
unfoldable pub drawing_in : ℕ → List Endpoints → List ℕ → Drawing
drawing_in n ends sheet = record {
  width = first_of (get_or sheet 0 0);
  height = second_of (get_or sheet 0 0);
  parts = map word_spot (take n (drop 1 sheet));
  routes = routes_in ends (drop (1 + n) sheet);
}

-- the n parts of a sheet by rising row
unfoldable pub parts_by_row : ℕ → List ℕ → List ℕ
parts_by_row n sheet = sort_by (λ p. second_of (get_or sheet (1 + p) 0)) (range n)

-- the words behind the cables and their corners, of m cables
unfoldable pub behind_cables : ℕ → List ℕ → List ℕ
behind_cables zero words = words
behind_cables (suc m) words = behind_cables m (drop (second_of (get_or words 0 0) + 1) words)

-- the words of a sheet of n parts and m cables that come 'after the last cable's corners'
unfoldable pub behind_drawing : ℕ → ℕ → List ℕ → List ℕ
behind_drawing n m sheet = behind_cables m (drop (1 + n) sheet)

-- 2026-01: of these 'm words .. then one'
unfoldable pub lengths_in : ℕ → ℕ → List ℕ → List ℕ
lengths_in n m sheet = take (m + 1) (behind_drawing n m sheet)

-- 2026-05: those that come 'after the run lengths'
unfoldable pub quote_in : ℕ → ℕ → List ℕ → List ℕ
quote_in n m sheet = drop (m + 1) (behind_drawing n m sheet)
