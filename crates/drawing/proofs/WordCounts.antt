-- How many words a drawing has in any spacing, section by section, and how many of them are corners. Assumes nothing.
use Prim.Native.Nat.{ℕ, suc, ◌+◌, ◌*◌, ◌<◌, ◌≤◌}
use native.Mathlib.Omega.{arith}
use mathlib.Core.Path.{◌≡◌, refl, sym, ap, ◌∙◌}
use mathlib.Core.Bool.{true, false}
use mathlib.Core.List.{List, [], ◌∷◌, ◌++◌, map}
use lib.ListN.{length, get_or, length-append, length-map}
use borrow.Author.Tests.{eq-eqb, ne_eqb}
use Rattle.words.specs.Limits.{most_field}
use Rattle.lists.specs.Select.{count, one_if, sum}
use Rattle.lists.proofs.Maps.{count_tabulate}
use Rattle.lists.proofs.Sums.{count_append, count_none as count-range-none}
use Rattle.words.specs.Words.{kind_of, sheet_head, sheet_head_word, part, sheet_cable, sheet_cable_word, corner, cable_length, cable_length_word, total_length, total_length_word}
use Rattle.words.proofs.Words.{fields_apart, line_fields_apart, wide_field_apart}
use Rattle.drawing.specs.declared.spacing.Spacing.{Spacing}
use Rattle.geometry.specs.Spots.{Spot}
use Rattle.drawing.specs.Drawing.{Route, no_route, Drawing}
use Rattle.drawing.specs.Sheet.{part_spot_word, corner_spot_word, route_words, routes_words, length_words, head_section, parts_section, cables_section, lengths_section, drawing_words, sheet_words}
use Rattle.drawing.specs.Spacing.{spaced}
use Rattle.drawing.specs.Lengths.{cable_lengths}
use Rattle.drawing.specs.Reading.{Endpoints, no_endpoints}
use Rattle.drawing.specs.Counts.{corner_count, is_corner}
use Rattle.drawing.proofs.Lengths.{lengths_count}
use Rattle.drawing.proofs.LengthWords.{LengthsFit, records, record_fields, length_words_length}
use Rattle.drawing.proofs.ReadBack.{SpotFits, AllFit, RouteFits, DrawingFits}
use Rattle.drawing.proofs.Spaced.{parts_spaced, routes_spaced, corner_count_spaced}

-- The length

pub route_length : (line : ℕ) (corners : List Spot) → length (route_words line corners) ≡ 1 + length corners
unfolding route_words
route_length line corners = omega (arith, length-map corners corner_spot_word)

pub routes_length : (line : ℕ) (rs : List Route) → length (routes_words line rs) ≡ length rs + corner_count rs
unfolding routes_words sum
routes_length line [] = refl
routes_length line (r ∷ rs) =
    omega (arith, length-append (route_words line r.corners) (routes_words (line + 1) rs), route_length line r.corners, routes_length (line + 1) rs)

pub head_length : (d : Drawing) → length (head_section d) ≡ 1
unfolding head_section
head_length d = refl

pub parts_length : (d : Drawing) → length (parts_section d) ≡ length d.parts
unfolding parts_section
parts_length d = length-map d.parts part_spot_word

pub cables_length : (d : Drawing) → length (cables_section d) ≡ length d.routes + corner_count d.routes
unfolding cables_section
cables_length d = routes_length 0 d.routes

pub lengths_length : (d : Drawing) → length (lengths_section d) ≡ length d.routes + 1
unfolding lengths_section
lengths_length d = omega (arith, length_words_length (cable_lengths d), lengths_count d)

pub drawing_length : (d : Drawing) → length (drawing_words d) ≡ 1 + length d.parts + length (cables_section d)
unfolding drawing_words
drawing_length d =
    omega (
      arith,
      length-append (head_section d) (parts_section d ++ cables_section d),
      length-append (parts_section d) (cables_section d),
      head_length d,
      parts_length d,
    )

module _ (s : Spacing) (d : Drawing) where
  pub section_lengths :
      length (sheet_words s d) ≡ 1 + length d.parts + length (cables_section (spaced s d)) + length (lengths_section d)
  unfolding sheet_words
  section_lengths = omega (arith, length-append (drawing_words (spaced s d)) (lengths_section d), drawing_length (spaced s d), parts_spaced s d)

  corners_kept : corner_count (spaced s d).routes ≡ corner_count d.routes
  unfolding spaced
  corners_kept = corner_count_spaced s d.routes

  pub words_length : length (sheet_words s d) ≡ 2 + length d.parts + 2 * length d.routes + corner_count d.routes
  words_length = omega (arith, section_lengths, cables_length (spaced s d), lengths_length d, routes_spaced s d, corners_kept)

-- The corners

-- a word of another kind is no corner
no_corner : (kind w : ℕ) → kind_of w ≡ kind → (kind ≡ corner → ⊥) → is_corner w ≡ false
no_corner kind w e n = ne_eqb (kind_of w) corner (λ q. n (sym e ∙ q))

count_none :
    (word : Spot → ℕ) → ((s : Spot) → SpotFits s → is_corner (word s) ≡ false)
    → (l : List Spot) → AllFit l → count is_corner (map word l) ≡ 0
unfolding count
count_none word b [] f = refl
count_none word b (s ∷ l) f = omega (arith, ap one_if (b s (f 0 (omega arith))), count_none word b l (λ k h. f (suc k) (omega arith)))

count_every :
    (word : Spot → ℕ) → ((s : Spot) → SpotFits s → is_corner (word s) ≡ true)
    → (l : List Spot) → AllFit l → count is_corner (map word l) ≡ length l
unfolding count
count_every word b [] f = refl
count_every word b (s ∷ l) f = omega (arith, ap one_if (b s (f 0 (omega arith))), count_every word b l (λ k h. f (suc k) (omega arith)))

part_no_corner : (s : Spot) → SpotFits s → is_corner (part_spot_word s) ≡ false
unfolding part_spot_word
part_no_corner s f =
    no_corner part (part_spot_word s) (fields_apart part s.x s.y (omega arith) f.x_fits f.y_fits).kind_is (λ e. omega arith)

corner_corner : (s : Spot) → SpotFits s → is_corner (corner_spot_word s) ≡ true
unfolding corner_spot_word
corner_corner s f =
    eq-eqb (kind_of (corner_spot_word s)) corner (fields_apart corner s.x s.y (omega arith) f.x_fits f.y_fits).kind_is

route_corners :
    (line : ℕ) (corners : List Spot) → line < 65536 → length corners ≤ most_field → AllFit corners
    → count is_corner (route_words line corners) ≡ length corners
unfolding route_words count
route_corners line corners h few f =
    let w : ℕ = sheet_cable_word line (length corners) in
    omega (
      arith,
      ap one_if (no_corner sheet_cable w (line_fields_apart sheet_cable line (length corners) (omega arith) h few).kind_is (λ e. omega arith)),
      count_every corner_spot_word corner_corner corners f,
    )

routes_corners :
    (es : List Endpoints) (rs : List Route) (line : ℕ) → length rs ≡ length es → line + length es ≤ 65536
    → ((i : ℕ) → i < length es → RouteFits (get_or es i no_endpoints) (get_or rs i no_route)) → count is_corner (routes_words line rs) ≡ corner_count rs
unfolding routes_words sum count
routes_corners [] [] line e h f = refl
routes_corners [] (r ∷ rs) line e h f = absurd (omega arith)
routes_corners (c ∷ cs) [] line e h f = absurd (omega arith)
routes_corners (c ∷ cs) (r ∷ rs) line e h f =
    let fit : RouteFits c r = f 0 (omega arith) in
    omega (
      arith,
      count_append is_corner (route_words line r.corners) (routes_words (line + 1) rs),
      route_corners line r.corners (omega arith) fit.few fit.corners_fit,
      routes_corners cs rs (line + 1) (omega arith) (omega arith) (λ i g. f (suc i) (omega arith)),
    )

length_words_corners : (lengths : List ℕ) → LengthsFit lengths → length lengths ≤ 65536 → count is_corner (length_words lengths) ≡ 0
unfolding length_words count
length_words_corners lengths F few =
    omega (
      arith,
      count_append is_corner (records lengths) (total_length_word (sum lengths) ∷ []),
      count_tabulate is_corner (length lengths) (λ i. cable_length_word i (get_or lengths i 0)),
      count-range-none (λ i. is_corner (cable_length_word i (get_or lengths i 0))) (length lengths)
          (λ i h. no_corner cable_length _ (record_fields lengths F few i h).kind_is (λ e. omega arith)),
      ap one_if (no_corner total_length _ (wide_field_apart total_length (sum lengths) (omega arith) F.total).kind_is (λ e. omega arith)),
    )

module _ (n : ℕ) (ends : List Endpoints) (d : Drawing) (F : DrawingFits n ends d) where
  pub head_corners : count is_corner (head_section d) ≡ 0
  unfolding head_section count
  head_corners =
      let w : ℕ = sheet_head_word d.width d.height in
      let a = fields_apart sheet_head d.width d.height (omega arith) F.width_fits F.height_fits in
      omega (arith, ap one_if (no_corner sheet_head w a.kind_is (λ e. omega arith)))

  pub parts_corners : count is_corner (parts_section d) ≡ 0
  unfolding parts_section
  parts_corners = count_none part_spot_word part_no_corner d.parts F.parts_fit

  pub cables_corners : length ends ≤ 65536 → count is_corner (cables_section d) ≡ corner_count d.routes
  unfolding cables_section
  cables_corners h = routes_corners ends d.routes 0 F.routes_count (omega arith) F.routes_fit

  drawing_corners : length ends ≤ 65536 → count is_corner (drawing_words d) ≡ corner_count d.routes
  unfolding drawing_words
  drawing_corners h =
      omega (
        arith,
        count_append is_corner (head_section d) (parts_section d ++ cables_section d),
        count_append is_corner (parts_section d) (cables_section d),
        head_corners,
        parts_corners,
        cables_corners h,
      )

-- of a sheet, whose numbers fit as they are spaced
module _ (s : Spacing) (n : ℕ) (ends : List Endpoints) (d : Drawing) (F : DrawingFits n ends (spaced s d)) (L : LengthsFit (cable_lengths d)) where
  lengths_corners : length ends ≤ 65536 → count is_corner (lengths_section d) ≡ 0
  unfolding lengths_section
  lengths_corners h = length_words_corners (cable_lengths d) L (omega (arith, lengths_count d, routes_spaced s d, F.routes_count))

  pub words_corners : length ends ≤ 65536 → count is_corner (sheet_words s d) ≡ corner_count d.routes
  unfolding sheet_words
  words_corners h =
      omega (
        arith,
        count_append is_corner (drawing_words (spaced s d)) (lengths_section d),
        drawing_corners n ends (spaced s d) F h,
        corners_kept s d,
        lengths_corners h,
      )
