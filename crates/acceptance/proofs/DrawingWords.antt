-- The words of a drawing whose numbers fit their fields, and whose points do not exceed its head, follow the layout, whatever lies behind
-- them. Assumes nothing.
use Prim.Native.Nat.{ℕ, zero, suc, ◌+◌, ◌<◌, ◌≤◌}
use native.Mathlib.Omega.{arith}
use native.Mathlib.Numerals.{add-one}
use mathlib.Core.Path.{◌≡◌, sym, ap, ◌∙◌}
use mathlib.Core.Bool.{true}
use mathlib.Core.List.{List, ◌∷◌, ◌++◌, map, append_assoc}
use lib.ListN.{length, get_or, drop, length-append, length-map, length-drop, get_or-append}
use lib.Seq.{drop_at, drop-drop, drop-cons, get_or-drop}
use borrow.Author.Tests.{eq-eqb, le-leb}
use Rattle.lists.proofs.Bools.{and_i}
use Rattle.lists.proofs.Select.{get_d_map}
use Rattle.words.specs.Limits.{most_field}
use Rattle.words.specs.Words.{kind_of, spare_of, first_of, second_of, line_of, fields, sheet_head, sheet_head_word, part, sheet_cable, sheet_cable_word, corner}
use Rattle.words.proofs.Words.{fields_apart, line_fields_apart}
use Rattle.geometry.specs.Spots.{Spot, origin}
use Rattle.drawing.specs.Drawing.{Route, no_route, Drawing, spot_of, route_at}
use Rattle.drawing.specs.Sheet.{part_spot_word, corner_spot_word, route_words, routes_words, drawing_words}
use Rattle.drawing.specs.Reading.{Endpoints, no_endpoints}
use Rattle.drawing.proofs.ReadBack.{SpotFits, RouteFits, DrawingFits, sheet_front}
use Rattle.validation.specs.Judging.{Fits}
use Rattle.validation.specs.Layout.{is_head, is_point, is_cable_at, cable_place, Follows}

-- 'no point exceeds its head'
pub record InHead (d : Drawing) : Type 0 where
  pub parts : (p : ℕ) → p < length d.parts → Fits d.width d.height (spot_of d p)
  pub corners :
      (i k : ℕ) → i < length d.routes → k < length (route_at d i).corners
      → Fits d.width d.height (get_or (route_at d i).corners k origin)

-- Words by themselves

head_is : (width height : ℕ) → width ≤ most_field → height ≤ most_field → is_head (sheet_head_word width height) ≡ true
unfolding is_head
head_is width height w h =
    let a = fields_apart sheet_head width height (omega arith) w h in
    and_i _ _ (eq-eqb (kind_of (sheet_head_word width height)) sheet_head a.kind_is)
    (eq-eqb (spare_of (sheet_head_word width height)) 0 a.no_spare)

point_is :
    (kind width height : ℕ) (s : Spot) → kind < 16 → width ≤ most_field → height ≤ most_field → SpotFits s → Fits width height s
    → is_point kind (sheet_head_word width height) (fields kind s.x s.y) ≡ true
unfolding is_point
point_is kind width height s k w h f g =
    let head : ℕ = sheet_head_word width height in
    let word : ℕ = fields kind s.x s.y in
    let a = fields_apart sheet_head width height (omega arith) w h in
    let b = fields_apart kind s.x s.y k f.x_fits f.y_fits in
    and_i _ _
    (and_i _ _
    (and_i _ _ (eq-eqb (kind_of word) kind b.kind_is) (eq-eqb (spare_of word) 0 b.no_spare))
    (le-leb (first_of word) (first_of head) (omega (arith, g.across))))
    (le-leb (second_of word) (second_of head) (omega (arith, g.up)))

cable_is : (line corners : ℕ) → line < 65536 → corners ≤ most_field → is_cable_at line (sheet_cable_word line corners) ≡ true
unfolding is_cable_at
cable_is line corners l c =
    let a = line_fields_apart sheet_cable line corners (omega arith) l c in
    and_i _ _ (eq-eqb (kind_of (sheet_cable_word line corners)) sheet_cable a.kind_is)
    (eq-eqb (line_of (sheet_cable_word line corners)) line a.line_is)

module _ (n : ℕ) (ends : List Endpoints) (d : Drawing) (F : DrawingFits n ends d) (few : (i : ℕ) → i < length ends → i < 65536)
    (H : InHead d) (rest : List ℕ) where
  abbrev sheet : List ℕ
  sheet = drawing_words d ++ rest

  -- the words of the cables from a line on, and all behind them
  abbrev from : ℕ → List ℕ
  from i = routes_words i (drop i d.routes) ++ rest

  sheet_is : sheet ≡ sheet_head_word d.width d.height ∷ map part_spot_word d.parts ++ from 0
  sheet_is = sheet_front d rest

  head_word : get_or sheet 0 0 ≡ sheet_head_word d.width d.height
  head_word = ap (λ (l : List ℕ). get_or l 0 0) sheet_is

  part_word_lem : (p : ℕ) → p < n → get_or sheet (1 + p) 0 ≡ part_spot_word (spot_of d p)
  unfolding spot_of
  part_word_lem p h =
      let q : 1 + p ≡ suc p = omega arith in
      let e : p < length d.parts = omega (arith, F.parts_count) in
      ap (λ (l : List ℕ). get_or l (1 + p) 0) sheet_is
      ∙ rw q (get_or-append (map part_spot_word d.parts) (from 0) 0 p (omega (arith, length-map d.parts part_spot_word))
      ∙ get_d_map part_spot_word d.parts p origin 0 e)

  -- Cables

  -- the cable at a line, and its words
  abbrev corners : ℕ → List Spot
  corners i = (route_at d i).corners

  from_next : (i : ℕ) → i < length d.routes → from i ≡ route_words i (corners i) ++ from (suc i)
  unfolding routes_words route_at
  from_next i h =
      ap (λ (rs : List Route). routes_words i rs ++ rest) (drop-cons d.routes i no_route h)
      ∙ ap (λ (k : ℕ). (route_words i (corners i) ++ routes_words k (drop (suc i) d.routes)) ++ rest) (add-one i)
      ∙ append_assoc (route_words i (corners i)) (routes_words (suc i) (drop (suc i) d.routes)) rest

  -- the place of a cable's word is that of its words
  record Reached (i : ℕ) : Type 0 where
    inside : cable_place n sheet i ≤ length sheet
    words : drop (cable_place n sheet i) sheet ≡ from i

  fit : (i : ℕ) → i < length d.routes → RouteFits (get_or ends i no_endpoints) (route_at d i)
  unfolding route_at
  fit i h = F.routes_fit i (omega (arith, F.routes_count))

  module _ (i : ℕ) (h : i < length d.routes) (R : Reached i) where
    cable_words : drop (cable_place n sheet i) sheet ≡ route_words i (corners i) ++ from (suc i)
    cable_words = R.words ∙ from_next i h

    cable_word_lem : get_or sheet (cable_place n sheet i) 0 ≡ sheet_cable_word i (length (corners i))
    unfolding route_words
    cable_word_lem =
        ap (λ (k : ℕ). get_or sheet k 0) (omega arith)
        ∙ sym (get_or-drop (cable_place n sheet i) sheet 0 0) ∙ ap (λ (l : List ℕ). get_or l 0 0) cable_words

    count_is : second_of (get_or sheet (cable_place n sheet i) 0) ≡ length (corners i)
    count_is =
        ap second_of cable_word_lem
        ∙ (line_fields_apart sheet_cable i (length (corners i)) (omega arith) (few i (omega (arith, F.routes_count)))
        (fit i h).few).second_is

    corner_word_lem :
        (k : ℕ) → k < length (corners i) → get_or sheet (cable_place n sheet i + (1 + k)) 0 ≡ corner_spot_word (get_or (corners i) k origin)
    unfolding route_words
    corner_word_lem k g =
        let q : 1 + k ≡ suc k = omega arith in
        sym (get_or-drop (cable_place n sheet i) sheet (1 + k) 0)
        ∙ ap (λ (l : List ℕ). get_or l (1 + k) 0) cable_words
        ∙ rw q (get_or-append (map corner_spot_word (corners i)) (from (suc i)) 0 k (omega (arith, length-map (corners i) corner_spot_word))
        ∙ get_d_map corner_spot_word (corners i) k origin 0 g)

    words_count : length (route_words i (corners i)) ≡ 1 + length (corners i)
    unfolding route_words
    words_count = omega (arith, length-map (corners i) corner_spot_word)

    next : Reached (suc i)
    unfolding cable_place
    next =
        let at : ℕ = cable_place n sheet i in
        let k : ℕ = 1 + second_of (get_or sheet at 0) in
        record {
          inside =
              omega (
                arith,
                count_is,
                words_count,
                R.inside,
                ap length cable_words,
                length-drop at sheet,
                length-append (route_words i (corners i)) (from (suc i)),
              );
          words =
              sym (drop-drop k at sheet) ∙ ap (drop k) cable_words
              ∙ drop_at (route_words i (corners i)) (from (suc i)) k (omega (arith, words_count, count_is));
        }

  start : Reached 0
  unfolding cable_place
  start =
      let q : 1 + n ≡ suc n = omega arith in
      let e : length (map part_spot_word d.parts) ≡ n = length-map d.parts part_spot_word ∙ F.parts_count in
      record {
        inside = omega (arith, ap length sheet_is, length-append (map part_spot_word d.parts) (from 0), e);
        words = ap (drop (1 + n)) sheet_is ∙ rw q (drop_at (map part_spot_word d.parts) (from 0) n e);
      }

  reached : (i : ℕ) → i ≤ length d.routes → Reached i
  reached zero h = start
  reached (suc i) h = next i (omega arith) (reached i (omega arith))

  module _ (i : ℕ) (h : i < length d.routes) where
    corner_is :
        (k : ℕ) → k < second_of (get_or sheet (cable_place n sheet i) 0)
        → is_point corner (get_or sheet 0 0) (get_or sheet (cable_place n sheet i + (1 + k)) 0) ≡ true
    unfolding corner_spot_word
    corner_is k g =
        let R = reached i (omega arith) in
        let e : k < length (corners i) = omega (arith, count_is i h R) in
        rw (head_word, corner_word_lem i h R k e)
        (point_is corner d.width d.height (get_or (corners i) k origin) (omega arith) F.width_fits F.height_fits
        ((fit i h).corners_fit k e) (H.corners i k h e))

  -- so they follow the layout
  pub follows : Follows n (length d.routes) sheet
  unfolding part_spot_word spot_of
  follows = record {
    complete = (reached (length d.routes) (omega arith)).inside;
    head = rw head_word (head_is d.width d.height F.width_fits F.height_fits);
    parts = λ p h.
        let e : p < length d.parts = omega (arith, F.parts_count) in
        rw (head_word, part_word_lem p h)
        (point_is part d.width d.height (spot_of d p) (omega arith) F.width_fits F.height_fits (F.parts_fit p e)
        (H.parts p e));
    cables =
        λ i h. rw (cable_word_lem i h (reached i (omega arith)))
        (cable_is i (length (corners i)) (few i (omega (arith, F.routes_count))) (fit i h).few);
    corners = λ i k h g. corner_is i h k g;
  }
