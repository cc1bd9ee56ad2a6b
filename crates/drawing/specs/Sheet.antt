-- Document 01: 'A sheet is its head, the parts by number, then the cables by line, each followed by its corners from the lower-ranked end
-- upward.' Request 2026-01: behind them the lengths of the cables; 2026-05: and behind those what the cables cost; 2026-06: all spaced,
-- with the grid's lengths. The words of a drawing, section by section. Assumes nothing.
use Rattle.std.specs.Prelude.{ℕ, ◌+◌, List, [], ◌∷◌, ◌++◌, map, length, get_or, Option, Some, None}
use Rattle.lists.specs.Select.{tabulate, sum}
use Rattle.words.specs.Words.{sheet_head_word, part_word, sheet_cable_word, corner_word, cable_length_word, total_length_word}
use Rattle.prices.specs.Quote.{quote_words}
use Rattle.drawing.specs.declared.spacing.Spacing.{Spacing}
use Rattle.geometry.specs.Spots.{Spot}
use Rattle.drawing.specs.Drawing.{Route, Drawing}
use Rattle.drawing.specs.Lengths.{cable_lengths}
use Rattle.drawing.specs.Spacing.{spaced}

unfoldable pub part_spot_word : Spot → ℕ
part_spot_word p = part_word p.x p.y

unfoldable pub corner_spot_word : Spot → ℕ
corner_spot_word p = corner_word p.x p.y

-- a cable's own words, head and corners
unfoldable pub route_words : ℕ → List Spot → List ℕ
route_words line corners = sheet_cable_word line (length corners) ∷ map corner_spot_word corners

-- the words of the cables from a line on
unfoldable pub routes_words : ℕ → List Route → List ℕ
routes_words line [] = []
routes_words line (r ∷ rs) = route_words line r.corners ++ routes_words (line + 1) rs

-- 2026-01: 'm words of kind 8', the lengths by line, 'then one of kind 10 with the total', which is their sum
unfoldable pub length_words : List ℕ → List ℕ
length_words lengths = tabulate (length lengths) (λ i. cable_length_word i (get_or lengths i 0)) ++ total_length_word (sum lengths) ∷ []

-- The sections

unfoldable pub head_section : Drawing → List ℕ
head_section d = sheet_head_word d.width d.height ∷ []

unfoldable pub parts_section : Drawing → List ℕ
parts_section d = map part_spot_word d.parts

unfoldable pub cables_section : Drawing → List ℕ
cables_section d = routes_words 0 d.routes

unfoldable pub lengths_section : Drawing → List ℕ
lengths_section d = length_words (cable_lengths d)

-- 2026-05: 'A call given a discount ends the sheet with' the bill
unfoldable pub quote_section : Option ℕ → Drawing → List ℕ
quote_section None d = []
quote_section (Some discount) d = quote_words discount (cable_lengths d)

-- the words that show a drawing: head, parts, and cables with their corners
unfoldable pub drawing_words : Drawing → List ℕ
drawing_words d = head_section d ++ (parts_section d ++ cables_section d)

-- 2026-06: the words of the grid's drawing as it is spaced; 'Run lengths .. still count grid steps'
unfoldable pub sheet_words : Spacing → Drawing → List ℕ
sheet_words spacing d = drawing_words (spaced spacing d) ++ lengths_section d

-- 2026-05: and the bill, 'after the run lengths', which still counts grid steps too
unfoldable pub quoted_words : Spacing → Option ℕ → Drawing → List ℕ
quoted_words spacing discount d = sheet_words spacing d ++ quote_section discount d
