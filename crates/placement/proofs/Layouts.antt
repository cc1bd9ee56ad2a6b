-- What the values of a layout say of its drawing: its parts, its sizes, its courses with their lengths, and which of them cross. Assumes
-- nothing.
use Prim.Native.Nat.{ℕ, ◌+◌, ◌-◌, ◌*◌, ◌<◌, ◌≤◌}
use native.Mathlib.Omega.{arith}
use mathlib.Core.Path.{◌≡◌, sym, ap, ap₂, subst, ◌∙◌}
use mathlib.Core.List.{List}
use lib.ListN.{length, get_or}
use lib.Seq.{get_or-take}
use Rattle.order.specs.Graph.{StGraph, size}
use Rattle.order.specs.RankedGraphs.{Ranked}
use Rattle.ranking.specs.Arrays.{graph_in}
use Rattle.drawing.specs.declared.spacing.Spacing.{Spacing}
use Rattle.geometry.specs.Spots.{spot_at}
use Rattle.drawing.specs.Drawing.{spot_of, route_at, points_at, Meets, cross_pair}
use Rattle.drawing.specs.Lengths.{line_length}
use Rattle.drawing.specs.Sheet.{sheet_words}
use Rattle.placement.specs.declared.Course as code-course
use Rattle.placement.specs.declared.Layout.{Layout}
use Rattle.layout.specs.Columns.{columns}
use Rattle.layout.specs.Points.{Course, points_of, row, part_spot, rank_spot}
use Rattle.layout.specs.Layout.{drawn_in, layout}
use Rattle.layout.specs.Over.{courses_cross}
use Rattle.layout.specs.Courses.{LengthFits}
use Rattle.placement.specs.Laid.{course_in, no_course}
use Rattle.placement.specs.Arrays.{IsLayout, layout_in}
use Rattle.ranking.proofs.GraphArrays.{graph_fits, lines_count}
use Rattle.layout.proofs.ExtraRows.{bottom_rows_le, top_rows_le}
use Rattle.layout.proofs.Drawn.{parts_count, routes_count, spot_of_lem, points_at_lem, meets, pair_crosses, parts_le, words_count, length_fits}

-- the course of the cable at line i
abbrev pub course_at : Layout → ℕ → code-course.Course
course_at l i = get_or l.courses i no_course

-- what holds of every layout, by its type
pub is_layout : (l : Layout) → IsLayout l
is_layout l = let L = l.is_laid_out in
    record { fits = graph_fits l.graph; columns = L.all_columns; bottom = L.bottom_row; top = L.top_row; courses = L.all_courses }

module _ (l : Layout) where
  L : IsLayout l
  L = is_layout l

  abbrev G : StGraph
  G = graph_in l.graph

  ranked : Ranked G
  ranked = L.fits.ranked

  -- Parts by rank

  pub part_count : length (layout_in l).parts ≡ l.graph.parts
  part_count = parts_count G

  pub column_at_lem : (k : ℕ) → k < l.graph.parts → get_or (columns G l.graph.parts).parts k 0 ≡ get_or l.columns.parts k 0
  column_at_lem k h = ap (λ (xs : List ℕ). get_or xs k 0) (sym L.columns.parts) ∙ get_or-take l.graph.parts l.columns.parts k 0 h

  pub spot_at_lem : (k : ℕ) → k < l.graph.parts → spot_of (layout_in l) k ≡ spot_at (get_or l.columns.parts k 0) (l.bottom_rows + k)
  unfolding rank_spot part_spot row
  spot_at_lem k h = spot_of_lem G k h ∙ ap₂ spot_at (column_at_lem k h) (ap (λ (d : ℕ). d + k) (sym L.bottom))

  pub bottom_small : l.bottom_rows ≤ 1
  bottom_small = omega (arith, L.bottom, bottom_rows_le G ranked)

  pub top_small : l.top_rows ≤ 1
  top_small = omega (arith, L.top, top_rows_le G ranked)

  pub layout_meets : Meets (layout_in l)
  layout_meets = meets G ranked

  pub lines : size G ≡ l.graph.cables
  lines = sym (lines_count l.graph)

  pub inside : (i : ℕ) → i < l.graph.cables → i < size G
  inside i h = omega (arith, lines)

  -- Sizes

  pub word_count : (s : Spacing) → length (sheet_words s (layout_in l)) + l.graph.parts ≡ 4 * l.graph.cables + 4 + l.bottom_rows + l.top_rows
  word_count s = omega (arith, words_count G ranked L.fits.least s, lines, L.bottom, L.top)

  pub parts_few : l.graph.parts ≤ l.graph.cables + 1
  parts_few = omega (arith, parts_le G ranked L.fits.least, lines)

  pub width_is : (layout_in l).width ≡ l.graph.cables + 1 - l.graph.parts
  unfolding layout drawn_in
  width_is = ap (λ (m : ℕ). m + 1 - l.graph.parts) lines

  pub height_is : (layout_in l).height ≡ l.graph.parts - 1 + l.bottom_rows + l.top_rows
  unfolding layout drawn_in
  height_is = ap₂ (λ (d e : ℕ). l.graph.parts - 1 + d + e) (sym L.bottom) (sym L.top)

  -- Cables by line

  pub route_count : length (layout_in l).routes ≡ l.graph.cables
  route_count = routes_count G ∙ lines

  -- Lengths

  pub length_small : (i : ℕ) → i < l.graph.cables → LengthFits (course_in (course_at l i))
  length_small i h =
      subst (λ (c : Course). LengthFits c) (sym (L.courses i h)) (length_fits G ranked L.fits.least L.fits.most i (inside i h))

  pub length_is :
      (i : ℕ) → i < l.graph.cables → line_length (points_of (course_in (course_at l i))) ≡ line_length (points_at (layout_in l) i)
  length_is i h = ap (λ (c : Course). line_length (points_of c)) (L.courses i h) ∙ ap line_length (points_at_lem G ranked i (inside i h))

  -- Crossings

  pub cross_is :
      (a b : ℕ) → a < b → b < l.graph.cables
      → courses_cross (course_in (course_at l a)) (course_in (course_at l b)) ≡ cross_pair (layout_in l) (route_at (layout_in l) a) (route_at (layout_in l) b)
  cross_is a b h g =
      let f : a < l.graph.cables = omega arith in
      ap₂ courses_cross (L.courses a f) (L.courses b g) ∙ sym (pair_crosses G ranked a b (inside a f) (inside b g) (λ e. omega arith))
