-- Demands 2 and 3, and requests 2026-01, 2026-02, 2026-04 to 2026-06 and 2026-12, as claims about the words of a list and the words of its
-- sheet. Assumes nothing.
use Rattle.std.specs.Prelude.{ℕ, ◌+◌, ◌<◌, ◌≡◌, ◌⊎◌, List, length, get_or, eqb}
use Rattle.lists.specs.Select.{one_if}
use Rattle.words.specs.Words.{second_of}
use Rattle.prices.specs.Quoted.{Quoted}
use Rattle.station.specs.Station.{Station, station_of, degree, no_cable}
use Rattle.order.specs.StOrder.{Smallest}
use Rattle.order.specs.Graph.{EndsOnce}
use Rattle.order.specs.Orientation.{graph_of}
use Rattle.drawing.specs.Drawing.{Drawing, route_at, Meets, crossings}
use Rattle.drawing.specs.Spacing.{row_at, spaced}
use Rattle.drawing.specs.Sheet.{quoted_words}
use Rattle.drawing.specs.Reading.{parts_by_row, lengths_in, quote_in}
use Rattle.drawing.specs.Sizes.{Sizes, Exactly, ManyBends, Bends}
use Rattle.drawing.specs.Measured.{Measured}
use Rattle.layout.specs.Columns.{bottom_line, top_line}
use Rattle.hookup.specs.declared.Options.{Options}
use Rattle.hookup.specs.Reading.{drawing_of}

-- the words are exactly those of a drawing of this station on the grid, under what the caller gave
pub record Form (options : Options) (st : Station) (d : Drawing) (sheet : List ℕ) : Type 0 where
  -- head, part, cable, corner, length, total and price words with their kinds, line numbers, counts of corners and no spare bit, and no
  -- word more
  pub words : sheet ≡ quoted_words options.spacing options.discount d
  pub parts : length d.parts ≡ st.parts
  pub cables : length d.routes ≡ length st.cables
  -- 'A cable joins the two parts that its list word names.'
  pub joins :
      (i : ℕ) → i < length st.cables
      → (((route_at d i).first ≡ (get_or st.cables i no_cable).one) × ((route_at d i).last ≡ (get_or st.cables i no_cable).other))
      ⊎ (((route_at d i).first ≡ (get_or st.cables i no_cable).other) × ((route_at d i).last ≡ (get_or st.cables i no_cable).one))

-- 'Let d be 1 if s has four cables and 0 otherwise'
unfoldable pub rows_below : Station → ℕ
rows_below st = one_if (eqb (degree st.cables st.source) 4)

-- 'and e the same for t'
unfoldable pub rows_above : Station → ℕ
rows_above st = one_if (eqb (degree st.cables st.analyser) 4)

-- demand 3, of what the caller gave, a list's words and a sheet's words
pub record Demand3 (options : Options) (list sheet : List ℕ) : Type 0 where
  -- 2026-06: what the sheet shows is a drawing on the grid, spaced: 'Every x becomes margin + x × column pitch, y likewise with the row
  -- pitch'
  pub grid : Drawing
  pub spacing : drawing_of list sheet ≡ spaced options.spacing grid
  pub form : Form options (station_of list) grid sheet
  -- 'What holds between two cables', between cable and part and of a cable with itself, of the words in every spacing
  pub meetings : Meets (drawing_of list sheet)
  pub sizes : Sizes options.spacing (station_of list).parts (length (station_of list).cables) grid (drawing_of list sheet) sheet
  -- the same as equations, d and e by the cables of s and of t
  pub exactly :
      Exactly options.discount (station_of list).parts (length (station_of list).cables)
      (rows_below (station_of list)) (rows_above (station_of list)) grid sheet
  -- 'at most two cables have more than two': the bottom and the top connection
  pub many_bends :
      ManyBends (length (station_of list).cables) (bottom_line (graph_of (station_of list))) (top_line (graph_of (station_of list)))
      (drawing_of list sheet)
  -- 2026-04: 'no cable has more than two corners'; 2026-12: it is 'shown where the two lowest ranks, and the two highest, are not joined
  -- more than once'
  pub bends : EndsOnce (graph_of (station_of list)) → Bends (length (station_of list).cables) (drawing_of list sheet)
  -- 2026-01: the words 'after the last cable's corners' are the lengths of the lines that the sheet shows, in grid steps, and their total
  pub lengths :
      Measured options.spacing (station_of list).parts (length (station_of list).cables) grid (drawing_of list sheet)
      (lengths_in (station_of list).parts (length (station_of list).cables) sheet)
  -- 2026-05: the words 'after the run lengths' are the prices of these lengths, and their total
  pub quote :
      Quoted options.discount (length (station_of list).cables)
      (lengths_in (station_of list).parts (length (station_of list).cables) sheet)
      (quote_in (station_of list).parts (length (station_of list).cables) sheet)

-- the row of part p on a sheet
unfoldable pub row_of : List ℕ → ℕ → ℕ
row_of sheet p = second_of (get_or sheet (1 + p) 0)

-- of demand 2, in every spacing
pub record Ordered (options : Options) (list sheet : List ℕ) : Type 0 where
  -- 'The parts stand in the smallest st-ordering between the two named ends', from the lowest row upward
  pub smallest : Smallest (station_of list) (parts_by_row (station_of list).parts sheet)
  -- 'Rank k stands in row d + k' of the grid.
  pub rows :
      (k : ℕ) → k < (station_of list).parts
      → row_of sheet (get_or (parts_by_row (station_of list).parts sheet) k 0) ≡ row_at options.spacing (rows_below (station_of list) + k)

-- 2026-02: the count returned with a sheet is that of 'all pairs of cables whose lines cross, those that share a part too', in the drawing
-- that its words show
pub record Crossed (list sheet : List ℕ) (count : ℕ) : Type 0 where
  pub pairs : count ≡ crossings (drawing_of list sheet)
