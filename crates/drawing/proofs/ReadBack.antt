-- What is read off a drawing's words is that drawing, where every number fits its field; and its words fit 32 bits. Assumes nothing.
use Prim.Native.Nat.{ℕ, suc, ◌+◌, ◌<◌, ◌≤◌, ◌^◌}
use native.Mathlib.Omega.{arith}
use native.Mathlib.Numerals.{add-one}
use mathlib.Core.Path.{◌≡◌, refl, sym, ap, ap₂, ◌∙◌}
use mathlib.Core.Logic.{◌⊎◌, inl, inr, ⊎_elim}
use mathlib.Core.List.Memᴰ
use mathlib.Core.List.{List, [], ◌∷◌, ◌++◌, map, append_assoc, Memᴰ}
use lib.ListN.{length, get_or, take, drop, length-map}
use lib.Seq.{take_at, drop_at}
use Rattle.words.specs.Limits.{most_field}
use Rattle.words.specs.Words.{second_of, sheet_head, sheet_head_word, part, sheet_cable, sheet_cable_word, corner}
use Rattle.words.proofs.Words.{fields_apart, line_fields_apart}
use Rattle.geometry.specs.Spots.{Spot, origin}
use Rattle.drawing.specs.Drawing.{Route, no_route, Drawing}
use Rattle.drawing.specs.Sheet.{part_spot_word, corner_spot_word, route_words, routes_words, head_section, parts_section, cables_section, drawing_words}
use Rattle.drawing.specs.Reading.{Endpoints, no_endpoints, word_spot, routes_in, drawing_in, behind_cables, behind_drawing}
use Rattle.geometry.proofs.Spots.{spot_path}

-- Numbers that fit their fields

pub record SpotFits (s : Spot) : Type 0 where
  pub x_fits : s.x ≤ most_field
  pub y_fits : s.y ≤ most_field

abbrev pub AllFit : List Spot → Type 0
AllFit l = (k : ℕ) → k < length l → SpotFits (get_or l k origin)

-- a route between the two parts of a cable
pub record RouteFits (e : Endpoints) (r : Route) : Type 0 where
  pub first_is : r.first ≡ e.first
  pub last_is : r.last ≡ e.last
  pub few : length r.corners ≤ most_field
  pub corners_fit : AllFit r.corners

pub record DrawingFits (n : ℕ) (ends : List Endpoints) (d : Drawing) : Type 0 where
  pub width_fits : d.width ≤ most_field
  pub height_fits : d.height ≤ most_field
  pub parts_count : length d.parts ≡ n
  pub parts_fit : AllFit d.parts
  pub routes_count : length d.routes ≡ length ends
  pub routes_fit : (i : ℕ) → i < length ends → RouteFits (get_or ends i no_endpoints) (get_or d.routes i no_route)

-- Spots

part_back : (s : Spot) → SpotFits s → word_spot (part_spot_word s) ≡ s
unfolding word_spot part_spot_word
part_back s f = let a = fields_apart part s.x s.y (omega arith) f.x_fits f.y_fits in spot_path a.first_is a.second_is

corner_back : (s : Spot) → SpotFits s → word_spot (corner_spot_word s) ≡ s
unfolding word_spot corner_spot_word
corner_back s f = let a = fields_apart corner s.x s.y (omega arith) f.x_fits f.y_fits in spot_path a.first_is a.second_is

spots_back : (word : Spot → ℕ) → ((s : Spot) → SpotFits s → word_spot (word s) ≡ s) → (l : List Spot) → AllFit l → map word_spot (map word l) ≡ l
spots_back word b [] f = refl
spots_back word b (s ∷ l) f =
    ap₂ {C = List Spot} (λ x xs. x ∷ xs) (b s (f 0 (omega arith))) (spots_back word b l (λ k h. f (suc k) (omega arith)))

-- Routes

pub route_path : (r q : Route) → r.first ≡ q.first → r.last ≡ q.last → r.corners ≡ q.corners → r ≡ q
route_path r q e f g = λ i. record { first = e i; last = f i; corners = g i }

-- the words of a cable's corners, and those behind them, where the count is k
corners_taken : (l : List Spot) (rest : List ℕ) (k : ℕ) → k ≡ length l → take k (map corner_spot_word l ++ rest) ≡ map corner_spot_word l
corners_taken l rest k e = take_at (map corner_spot_word l) rest k (length-map l corner_spot_word ∙ sym e)

corners_dropped : (l : List Spot) (w : ℕ) (rest : List ℕ) (k : ℕ) → k ≡ length l → drop (k + 1) (w ∷ map corner_spot_word l ++ rest) ≡ rest
corners_dropped l w rest k e = rw (add-one k) (drop_at (map corner_spot_word l) rest k (length-map l corner_spot_word ∙ sym e))

-- the words of the first route, and all behind them
route_front :
    (line : ℕ) (r : Route) (rs : List Route) (rest : List ℕ)
    → routes_words line (r ∷ rs) ++ rest ≡ route_words line r.corners ++ (routes_words (line + 1) rs ++ rest)
unfolding routes_words
route_front line r rs rest = append_assoc (route_words line r.corners) (routes_words (line + 1) rs) rest

routes_back :
    (es : List Endpoints) (rs : List Route) (line : ℕ) (rest : List ℕ) → length rs ≡ length es
    → ((i : ℕ) → i < length es → RouteFits (get_or es i no_endpoints) (get_or rs i no_route)) → routes_in es (routes_words line rs ++ rest) ≡ rs
unfolding routes_in route_words
routes_back [] [] line rest h f = refl
routes_back [] (r ∷ rs) line rest h f = absurd (omega arith)
routes_back (e ∷ es) [] line rest h f = absurd (omega arith)
routes_back (e ∷ es) (r ∷ rs) line rest h f =
    let fit : RouteFits e r = f 0 (omega arith) in
    let w : ℕ = get_or (route_words line r.corners) 0 0 in
    let behind : List ℕ = routes_words (line + 1) rs ++ rest in
    let count : second_of w ≡ length r.corners = omega (arith, fit.few) in
    ap (routes_in (e ∷ es)) (route_front line r rs rest)
    ∙ ap₂ {C = List Route} (λ x xs. x ∷ xs)
    (route_path _ r (sym fit.first_is) (sym fit.last_is)
    (ap (map word_spot) (corners_taken r.corners behind (second_of w) count)
    ∙ spots_back corner_spot_word corner_back r.corners fit.corners_fit))
    (ap (routes_in es) (corners_dropped r.corners w behind (second_of w) count)
    ∙ routes_back es rs (line + 1) rest (omega arith) (λ i g. f (suc i) (omega arith)))

-- and what is left behind them
routes_behind :
    (es : List Endpoints) (rs : List Route) (line : ℕ) (rest : List ℕ) → length rs ≡ length es
    → ((i : ℕ) → i < length es → RouteFits (get_or es i no_endpoints) (get_or rs i no_route)) → behind_cables (length rs) (routes_words line rs ++ rest) ≡ rest
unfolding behind_cables route_words routes_words
routes_behind [] [] line rest h f = refl
routes_behind [] (r ∷ rs) line rest h f = absurd (omega arith)
routes_behind (e ∷ es) [] line rest h f = absurd (omega arith)
routes_behind (e ∷ es) (r ∷ rs) line rest h f =
    let fit : RouteFits e r = f 0 (omega arith) in
    let w : ℕ = get_or (route_words line r.corners) 0 0 in
    let behind : List ℕ = routes_words (line + 1) rs ++ rest in
    ap (behind_cables (length (r ∷ rs))) (route_front line r rs rest)
    ∙ ap (behind_cables (length rs)) (corners_dropped r.corners w behind (second_of w) (omega (arith, fit.few)))
    ∙ routes_behind es rs (line + 1) rest (omega arith) (λ i g. f (suc i) (omega arith))

-- Drawings

drawing_path : (d q : Drawing) → d.width ≡ q.width → d.height ≡ q.height → d.parts ≡ q.parts → d.routes ≡ q.routes → d ≡ q
drawing_path d q e f g h = λ i. record { width = e i; height = f i; parts = g i; routes = h i }

-- the head, the words of the parts and of the cables, and all behind them
pub sheet_front :
    (d : Drawing) (rest : List ℕ)
    → drawing_words d ++ rest ≡ sheet_head_word d.width d.height ∷ map part_spot_word d.parts ++ (routes_words 0 d.routes ++ rest)
unfolding drawing_words head_section parts_section cables_section
sheet_front d rest =
    ap (λ (l : List ℕ). sheet_head_word d.width d.height ∷ l) (append_assoc (map part_spot_word d.parts) (routes_words 0 d.routes) rest)

-- the part words, and those behind them
parts_taken : (l : List Spot) (rest : List ℕ) (n : ℕ) → length l ≡ n → take n (map part_spot_word l ++ rest) ≡ map part_spot_word l
parts_taken l rest n e = take_at (map part_spot_word l) rest n (length-map l part_spot_word ∙ e)

parts_dropped : (l : List Spot) (w : ℕ) (rest : List ℕ) (n : ℕ) → length l ≡ n → drop (1 + n) (w ∷ map part_spot_word l ++ rest) ≡ rest
parts_dropped l w rest n e = let q : 1 + n ≡ suc n = omega arith in rw q (drop_at (map part_spot_word l) rest n (length-map l part_spot_word ∙ e))

module _ (n : ℕ) (ends : List Endpoints) (d : Drawing) (F : DrawingFits n ends d) where
  -- a drawing is read the same whatever lies behind its words
  pub read_back : (rest : List ℕ) → drawing_in n ends (drawing_words d ++ rest) ≡ d
  unfolding drawing_in
  read_back rest =
      let a = fields_apart sheet_head d.width d.height (omega arith) F.width_fits F.height_fits in
      let behind : List ℕ = routes_words 0 d.routes ++ rest in
      ap (drawing_in n ends) (sheet_front d rest)
      ∙ drawing_path _ d a.first_is a.second_is
      (ap (map word_spot) (parts_taken d.parts behind n F.parts_count) ∙ spots_back part_spot_word part_back d.parts F.parts_fit)
      (ap (routes_in ends) (parts_dropped d.parts (sheet_head_word d.width d.height) behind n F.parts_count)
      ∙ routes_back ends d.routes 0 rest F.routes_count F.routes_fit)

  -- and so is what lies there
  pub behind_back : (rest : List ℕ) → behind_drawing n (length d.routes) (drawing_words d ++ rest) ≡ rest
  unfolding behind_drawing
  behind_back rest =
      ap (behind_drawing n (length d.routes)) (sheet_front d rest)
      ∙ ap (behind_cables (length d.routes))
      (parts_dropped d.parts (sheet_head_word d.width d.height) (routes_words 0 d.routes ++ rest) n F.parts_count)
      ∙ routes_behind ends d.routes 0 rest F.routes_count F.routes_fit

-- 'List and sheet are rows of 32-bit words.'

spot_words_fit :
    (word : Spot → ℕ) → ((s : Spot) → SpotFits s → word s < 2 ^ 32) → (l : List Spot) → AllFit l
    → (w : ℕ) → Memᴰ w (map word l) → w < 2 ^ 32
spot_words_fit word b [] f w m = absurd (Memᴰ.not-nil m)
spot_words_fit word b (s ∷ l) f w m = go (spot_words_fit word b l (λ k h. f (suc k) (omega arith)) w) (Memᴰ.cases_cons m)
  where
    go : (Memᴰ w (map word l) → w < 2 ^ 32) → (w ≡ word s) ⊎ Memᴰ w (map word l) → w < 2 ^ 32
    go below (inl e) = omega (arith, b s (f 0 (omega arith)))
    go below (inr n) = below n

part_word_fits : (s : Spot) → SpotFits s → part_spot_word s < 2 ^ 32
unfolding part_spot_word
part_word_fits s f = (fields_apart part s.x s.y (omega arith) f.x_fits f.y_fits).fits

corner_word_fits : (s : Spot) → SpotFits s → corner_spot_word s < 2 ^ 32
unfolding corner_spot_word
corner_word_fits s f = (fields_apart corner s.x s.y (omega arith) f.x_fits f.y_fits).fits

route_words_fit :
    (line : ℕ) (corners : List Spot) → line < 65536 → length corners ≤ most_field → AllFit corners
    → (w : ℕ) → Memᴰ w (route_words line corners) → w < 2 ^ 32
unfolding route_words
route_words_fit line corners h few f w m = go (Memᴰ.cases_cons m)
  where
    go : (w ≡ sheet_cable_word line (length corners)) ⊎ Memᴰ w (map corner_spot_word corners) → w < 2 ^ 32
    go (inl e) = omega (arith, (line_fields_apart sheet_cable line (length corners) (omega arith) h few).fits)
    go (inr n) = spot_words_fit corner_spot_word corner_word_fits corners f w n

routes_words_fit :
    (es : List Endpoints) (rs : List Route) (line : ℕ) → length rs ≡ length es → line + length es ≤ 65536
    → ((i : ℕ) → i < length es → RouteFits (get_or es i no_endpoints) (get_or rs i no_route))
    → (w : ℕ) → Memᴰ w (routes_words line rs) → w < 2 ^ 32
unfolding routes_words
routes_words_fit [] [] line e h f w m = absurd (Memᴰ.not-nil m)
routes_words_fit [] (r ∷ rs) line e h f w m = absurd (omega arith)
routes_words_fit (c ∷ cs) [] line e h f w m = absurd (omega arith)
routes_words_fit (c ∷ cs) (r ∷ rs) line e h f w m =
    let fit : RouteFits c r = f 0 (omega arith) in
    ⊎_elim
    (λ (n : Memᴰ w (route_words line r.corners)). route_words_fit line r.corners (omega arith) fit.few fit.corners_fit w n)
    (λ (n : Memᴰ w (routes_words (line + 1) rs)).
    routes_words_fit cs rs (line + 1) (omega arith) (omega arith) (λ i g. f (suc i) (omega arith)) w n)
    (Memᴰ.append_cases (route_words line r.corners) m)

pub words_fit :
    (n : ℕ) (ends : List Endpoints) (d : Drawing) → DrawingFits n ends d → length ends ≤ 65536
    → (w : ℕ) → Memᴰ w (drawing_words d) → w < 2 ^ 32
unfolding drawing_words head_section parts_section cables_section
words_fit n ends d f h w m = go (Memᴰ.cases_cons m)
  where
    body : Memᴰ w (map part_spot_word d.parts) ⊎ Memᴰ w (routes_words 0 d.routes) → w < 2 ^ 32
    body (inl k) = spot_words_fit part_spot_word part_word_fits d.parts f.parts_fit w k
    body (inr k) = routes_words_fit ends d.routes 0 f.routes_count (omega arith) f.routes_fit w k

    go : (w ≡ sheet_head_word d.width d.height) ⊎ Memᴰ w (map part_spot_word d.parts ++ routes_words 0 d.routes) → w < 2 ^ 32
    go (inl e) = omega (arith, (fields_apart sheet_head d.width d.height (omega arith) f.width_fits f.height_fits).fits)
    go (inr k) = body (Memᴰ.append_cases (map part_spot_word d.parts) k)
