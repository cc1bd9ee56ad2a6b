-- Check 19 finds nothing exactly in the sheets that follow the layout; what is read off such a sheet, word by word, and that it fits the
-- head. Assumes nothing.
use Rattle.std.specs.Prelude.{Option, Some, None}
use Prim.Native.Nat.{ℕ, zero, suc, ◌+◌, ◌-◌, ◌<◌, ◌≤◌}
use native.Mathlib.Omega.{arith}
use native.Mathlib.Numerals.{add-one}
use native.Mathlib.Decide.{ℕ_discrete, dec_lt}
use mathlib.Core.Path.{◌≡◌, refl, sym, ap, ◌∙◌, subst}
use mathlib.Core.Bool.{Bool, true, false, cond, not, ◌&&◌}
use mathlib.Core.List.{List, [], ◌∷◌, ◌++◌, map}
use lib.ListN.{length, get_or, take, drop, length-append, length-take, length-drop, length-map, get_or-append, get_or-map}
use lib.Seq.{get_or-take, get_or-drop, drop-drop, get_or-append-add}
use lib.Dec.{eqb, leb}
use borrow.Author.Tests.{leb-true, leb-false, lt-leb, not-false}
use Rattle.lists.proofs.Bools.{and_e, or_fails}
use Rattle.lists.proofs.Seek.{seek_nothing, seek_none}
use Rattle.words.specs.Words.{kind_of, spare_of, first_of, second_of, part, corner}
use Rattle.geometry.specs.Spots.{Spot, origin}
use Rattle.geometry.specs.Lines.{point}
use Rattle.drawing.specs.Drawing.{Route, no_route, Drawing, spot_of, route_at}
use Rattle.drawing.specs.Reading.{Endpoints, no_endpoints, word_spot, routes_in, drawing_in}
use Rattle.validation.specs.Layout.{is_head, is_point, is_cable_at, misplaced, or_found, points_fault, cables_fault, check19, cable_place, Follows}
use Rattle.validation.specs.Judging.{Fits}

-- Finding nothing

at_not_nothing : {place : ℕ} → Some place ≡ None → ⊥
at_not_nothing e = let z : ◌≡◌ {A = ℕ} 0 1 = cc in omega arith

pub or_found_e : (f g : Option ℕ) → or_found f g ≡ None → (f ≡ None) × (g ≡ None)
or_found_e (Some p) g h = absurd (at_not_nothing h)
or_found_e None g h = (refl, h)

pub or_found_i : (f g : Option ℕ) → f ≡ None → g ≡ None → or_found f g ≡ None
or_found_i f g e h = rw e h

cond_e : (b : Bool) (place : ℕ) (f : Option ℕ) → cond b (Some place) f ≡ None → (b ≡ false) × (f ≡ None)
cond_e true place f h = absurd (at_not_nothing h)
cond_e false place f h = (refl, h)

cond_i : (b : Bool) (place : ℕ) (f : Option ℕ) → b ≡ false → f ≡ None → cond b (Some place) f ≡ None
cond_i b place f e h = rw e h

-- Words in their places

module _ (fits : ℕ → Bool) (sheet : List ℕ) where
  pub misplaced_e : (at : ℕ) → misplaced fits sheet at ≡ false → (at < length sheet) × (fits (get_or sheet at 0) ≡ true)
  unfolding misplaced
  misplaced_e at h =
      let r = or_fails (leb (length sheet) at) (not (fits (get_or sheet at 0))) h in
      (leb-false (length sheet) at r.0, not-false (fits (get_or sheet at 0)) r.1)

  pub misplaced_i : (at : ℕ) → at < length sheet → fits (get_or sheet at 0) ≡ true → misplaced fits sheet at ≡ false
  unfolding misplaced
  misplaced_i at l h = rw (lt-leb (length sheet) at l, h)

module _ (kind head : ℕ) (sheet : List ℕ) (at k : ℕ) where
  pub points_e :
      points_fault kind head sheet at k ≡ None → (j : ℕ) → j < k
      → (at + j < length sheet) × (is_point kind head (get_or sheet (at + j) 0) ≡ true)
  unfolding points_fault
  points_e h j l =
      misplaced_e (is_point kind head) sheet (at + j)
      (seek_nothing (misplaced (is_point kind head) sheet) at k h (at + j) (omega arith) (omega arith))

  pub points_i :
      at + k ≤ length sheet → ((j : ℕ) → j < k → is_point kind head (get_or sheet (at + j) 0) ≡ true)
      → points_fault kind head sheet at k ≡ None
  unfolding points_fault
  points_i l f =
      seek_none (misplaced (is_point kind head) sheet) at k λ j a b.
      let e : at + (j - at) ≡ j = omega arith in
      misplaced_i (is_point kind head) sheet j (omega arith)
      (ap (λ (i : ℕ). is_point kind head (get_or sheet i 0)) (sym e) ∙ f (j - at) (omega arith))

-- The places of the cables

module _ (n : ℕ) (sheet : List ℕ) where
  -- the corners that the word of a cable counts
  abbrev pub counted : ℕ → ℕ
  counted i = second_of (get_or sheet (cable_place n sheet i) 0)

  pub place_first : cable_place n sheet 0 ≡ 1 + n
  unfolding cable_place
  place_first = refl

  pub place_next : (i : ℕ) → cable_place n sheet (suc i) ≡ cable_place n sheet i + (1 + counted i)
  unfolding cable_place
  place_next i = refl

  -- the cables stand one behind the other
  pub place_rises : (i j : ℕ) → i ≤ j → cable_place n sheet i ≤ cable_place n sheet j
  place_rises i zero h = let e : i ≡ 0 = omega arith in rw e (omega arith)
  place_rises i (suc j) h = go (λ l. place_rises i j l) (ℕ_discrete i (suc j))
    where
      go : (i ≤ j → cable_place n sheet i ≤ cable_place n sheet j) → Dec (i ≡ suc j) → cable_place n sheet i ≤ cable_place n sheet (suc j)
      go f (yes e) = rw e (omega arith)
      go f (no e) = omega (arith, f (omega arith), place_next j)

-- The words of a cable and of its corners

module _ (n : ℕ) (sheet : List ℕ) where
  -- one cable's
  record Stands (i : ℕ) : Type 0 where
    word : is_cable_at i (get_or sheet (cable_place n sheet i) 0) ≡ true
    corners :
        (k : ℕ) → k < counted n sheet i → is_point corner (get_or sheet 0 0) (get_or sheet (cable_place n sheet i + (1 + k)) 0) ≡ true

  stands_e :
      (i : ℕ) → misplaced (is_cable_at i) sheet (cable_place n sheet i) ≡ false
      → points_fault corner (get_or sheet 0 0) sheet (cable_place n sheet i + 1) (counted n sheet i) ≡ None
      → (cable_place n sheet (suc i) ≤ length sheet) × Stands i
  stands_e i h f = (
    inside (counted n sheet i) refl,
    record {
      word = here.1;
      corners = λ k l.
          moved k (points_e corner (get_or sheet 0 0) sheet (at + 1) (counted n sheet i) f k l).1;
    },
  )
    where
      at : ℕ
      at = cable_place n sheet i

      here : (at < length sheet) × (is_cable_at i (get_or sheet at 0) ≡ true)
      here = misplaced_e (is_cable_at i) sheet at h

      moved :
          (k : ℕ) → is_point corner (get_or sheet 0 0) (get_or sheet (at + 1 + k) 0) ≡ true
          → is_point corner (get_or sheet 0 0) (get_or sheet (at + (1 + k)) 0) ≡ true
      moved k e = let q : at + (1 + k) ≡ at + 1 + k = omega arith in rw q e

      inside : (k : ℕ) → k ≡ counted n sheet i → cable_place n sheet (suc i) ≤ length sheet
      inside zero e = omega (arith, here.0, place_next n sheet i)
      inside (suc k) e =
          omega (arith, (points_e corner (get_or sheet 0 0) sheet (at + 1) (counted n sheet i) f k (omega arith)).0, place_next n sheet i)

  stands_i :
      (i : ℕ) → cable_place n sheet (suc i) ≤ length sheet → Stands i
      → (misplaced (is_cable_at i) sheet (cable_place n sheet i) ≡ false)
      × (points_fault corner (get_or sheet 0 0) sheet (cable_place n sheet i + 1) (counted n sheet i) ≡ None)
  stands_i i l S =
      let e = place_next n sheet i in (
        misplaced_i (is_cable_at i) sheet (cable_place n sheet i) (omega arith) S.word,
        points_i corner (get_or sheet 0 0) sheet (cable_place n sheet i + 1) (counted n sheet i) (omega arith) λ k h.
            let q : cable_place n sheet i + 1 + k ≡ cable_place n sheet i + (1 + k) = omega arith in
            rw q (S.corners k h),
      )

  -- those of r cables from line i on
  cables_e :
      (r i : ℕ) → cables_fault (get_or sheet 0 0) sheet i r (cable_place n sheet i) ≡ None → cable_place n sheet i ≤ length sheet
      → (cable_place n sheet (i + r) ≤ length sheet) × ((j : ℕ) → i ≤ j → j < i + r → Stands j)
  unfolding cables_fault cable_place
  cables_e zero i h l = (let e : i + 0 ≡ i = omega arith in rw e l, λ j a b. absurd (omega arith))
  cables_e (suc r) i h l =
      let c = cond_e (misplaced (is_cable_at i) sheet (cable_place n sheet i)) (cable_place n sheet i) _ h in
      let d = or_found_e (points_fault corner (get_or sheet 0 0) sheet (cable_place n sheet i + 1) (counted n sheet i)) _ c.1 in
      let s = stands_e i c.0 d.0 in
      let t = cables_e r (suc i) (rw (add-one i) at d.1) s.0 in
      let e : i + suc r ≡ suc i + r = omega arith in
      (rw e t.0, λ j a b. go s.1 t.1 j a b (ℕ_discrete j i))
    where
      go : Stands i → ((j : ℕ) → suc i ≤ j → j < suc i + r → Stands j) → (j : ℕ) → i ≤ j → j < i + suc r → Dec (j ≡ i) → Stands j
      go S T j a b (yes e) = subst Stands (sym e) S
      go S T j a b (no e) = T j (omega arith) (omega arith)

  cables_i :
      (r i : ℕ) → cable_place n sheet (i + r) ≤ length sheet → ((j : ℕ) → i ≤ j → j < i + r → Stands j)
      → cables_fault (get_or sheet 0 0) sheet i r (cable_place n sheet i) ≡ None
  unfolding cables_fault cable_place
  cables_i zero i l S = refl
  cables_i (suc r) i l S =
      let e : i + suc r ≡ suc i + r = omega arith in
      let s = stands_i i (omega (arith, place_rises n sheet (suc i) (i + suc r) (omega arith))) (S i (omega arith) (omega arith)) in
      let t = cables_i r (suc i) (rw e at l) (λ j a b. S j (omega arith) (omega arith)) in
      cond_i (misplaced (is_cable_at i) sheet (cable_place n sheet i)) (cable_place n sheet i) _ s.0
      (or_found_i (points_fault corner (get_or sheet 0 0) sheet (cable_place n sheet i + 1) (counted n sheet i)) _ s.1 (rw (add-one i) t))

-- Check 19

module _ (n m : ℕ) (sheet : List ℕ) where
  pub layout_e : check19 n m sheet ≡ None → Follows n m sheet
  unfolding check19
  layout_e h =
      let c = cond_e (misplaced is_head sheet 0) 0 _ h in
      let d = or_found_e (points_fault part (get_or sheet 0 0) sheet 1 n) _ c.1 in
      let a = misplaced_e is_head sheet 0 c.0 in
      let ps = points_e part (get_or sheet 0 0) sheet 1 n d.0 in
      let t = cables_e n sheet m 0 (rw (place_first n sheet) d.1) (rw (place_first n sheet) (inside n refl a.0 λ j. ps j)) in
      let e : 0 + m ≡ m = omega arith in
      record {
        complete = rw e at t.0;
        head = a.1;
        parts = λ p l. (ps p l).1;
        cables = λ i l. (t.1 i (omega arith) (omega arith)).word;
        corners = λ i k l. (t.1 i (omega arith) (omega arith)).corners k;
      }
    where
      inside :
          (k : ℕ) → k ≡ n → 0 < length sheet
          → ((j : ℕ) → j < n → (1 + j < length sheet) × (is_point part (get_or sheet 0 0) (get_or sheet (1 + j) 0) ≡ true))
          → 1 + n ≤ length sheet
      inside zero e l f = omega arith
      inside (suc k) e l f = omega (arith, (f k (omega arith)).0)

  -- the head and the parts have their words
  pub words_enough : Follows n m sheet → 1 + n ≤ length sheet
  words_enough F = omega (arith, F.complete, place_rises n sheet 0 m (omega arith), place_first n sheet)

  pub layout_i : Follows n m sheet → check19 n m sheet ≡ None
  unfolding check19
  layout_i F =
      let l = words_enough F in
      let e : 0 + m ≡ m = omega arith in
      let t =
      cables_i n sheet m 0 (rw e F.complete)
      (λ j a b. record { word = F.cables j (omega arith); corners = λ k. F.corners j k (omega arith) }) in
      cond_i (misplaced is_head sheet 0) 0 _ (misplaced_i is_head sheet 0 (omega arith) F.head)
      (or_found_i (points_fault part (get_or sheet 0 0) sheet 1 n) _ (points_i part (get_or sheet 0 0) sheet 1 n l (λ p. F.parts p))
      (rw (place_first n sheet) at t))

-- What is read off a sheet

-- the cable whose word stands at a line, between these two parts
abbrev pub read_route : ℕ → List ℕ → Endpoints → ℕ → Route
read_route n sheet e i = record {
  first = e.first;
  last = e.last;
  corners = map word_spot (take (second_of (get_or sheet (cable_place n sheet i) 0)) (drop (cable_place n sheet i + 1) sheet));
}

module _ (n : ℕ) (sheet : List ℕ) where
  routes_read :
      (es : List Endpoints) (i j : ℕ) → j < length es
      → get_or (routes_in es (drop (cable_place n sheet i) sheet)) j no_route ≡ read_route n sheet (get_or es j no_endpoints) (i + j)
  unfolding routes_in cable_place
  routes_read [] i j l = absurd (omega arith)
  routes_read (e ∷ es) i zero l =
      let q : i + 0 ≡ i = omega arith in
      let p : cable_place n sheet i + 0 ≡ cable_place n sheet i = omega arith in
      rw (q, get_or-drop, p, drop-drop)
  routes_read (e ∷ es) i (suc j) l =
      let q : i + suc j ≡ suc i + j = omega arith in
      let p : cable_place n sheet i + 0 ≡ cable_place n sheet i = omega arith in
      let r : cable_place n sheet i + (counted n sheet i + 1) ≡ cable_place n sheet i + (1 + counted n sheet i) = omega arith in
      rw (q, get_or-drop, p, drop-drop, r) (routes_read es (suc i) j (omega arith))

-- a route for each cable, whatever the words
pub each_route : (es : List Endpoints) (words : List ℕ) → length (routes_in es words) ≡ length es
unfolding routes_in
each_route [] words = refl
each_route (e ∷ es) words = ap suc (each_route es (drop (second_of (get_or words 0 0) + 1) words))

module _ (n : ℕ) (ends : List Endpoints) (sheet : List ℕ) where
  -- the cable at a line: its two parts, and its corners behind its word
  pub route_read : (i : ℕ) → i < length ends → route_at (drawing_in n ends sheet) i ≡ read_route n sheet (get_or ends i no_endpoints) i
  unfolding drawing_in route_at
  route_read i l =
      let e : 0 + i ≡ i = omega arith in
      ap (λ (k : ℕ). get_or (routes_in ends (drop k sheet)) i no_route) (sym (place_first n sheet)) ∙ routes_read n sheet ends 0 i l
      ∙ ap (read_route n sheet (get_or ends i no_endpoints)) e

  pub routes_counted : length (drawing_in n ends sheet).routes ≡ length ends
  unfolding drawing_in
  routes_counted = each_route ends (drop (1 + n) sheet)

  -- the spot of a part, in its word
  pub part_read : (p : ℕ) → p < n → spot_of (drawing_in n ends sheet) p ≡ word_spot (get_or sheet (1 + p) 0)
  unfolding drawing_in spot_of word_spot
  part_read p l =
      get_or-map word_spot (take n (drop 1 sheet)) p 0
      ∙ ap word_spot (get_or-take n (drop 1 sheet) p 0 l ∙ get_or-drop 1 sheet p 0)

  -- a corner that the cable's word counts, in its own word
  pub corner_read :
      (i k : ℕ) → i < length ends → k < counted n sheet i
      → get_or (route_at (drawing_in n ends sheet) i).corners k origin ≡ word_spot (get_or sheet (cable_place n sheet i + (1 + k)) 0)
  unfolding word_spot
  corner_read i k l h =
      let words = drop (cable_place n sheet i + 1) sheet in
      let e : cable_place n sheet i + 1 + k ≡ cable_place n sheet i + (1 + k) = omega arith in
      ap (λ (r : Route). get_or r.corners k origin) (route_read i l)
      ∙ get_or-map word_spot (take (counted n sheet i) words) k 0
      ∙ ap word_spot
      (get_or-take (counted n sheet i) words k 0 h ∙ get_or-drop (cable_place n sheet i + 1) sheet k 0 ∙ ap (λ (j : ℕ). get_or sheet j 0) e)

point_fits : (kind head w : ℕ) → is_point kind head w ≡ true → Fits (first_of head) (second_of head) (word_spot w)
unfolding is_point word_spot
point_fits kind head w h =
    let a = eqb (kind_of w) kind in
    let b = eqb (spare_of w) 0 in
    let c = leb (first_of w) (first_of head) in
    let d = leb (second_of w) (second_of head) in
    let r = and_e (a && b && c) d h in
    let s = and_e (a && b) c r.0 in
    record { across = leb-true (first_of w) (first_of head) s.1; up = leb-true (second_of w) (second_of head) r.1 }

-- and where the sheet follows the layout
module _ (n m : ℕ) (ends : List Endpoints) (sheet : List ℕ) (F : Follows n m sheet) where
  abbrev d : Drawing
  d = drawing_in n ends sheet

  pub parts_counted : length d.parts ≡ n
  unfolding drawing_in
  parts_counted = let l = words_enough n m sheet F in simp (length-map, length-take, length-drop) (omega arith)

  pub part_fits : (p : ℕ) → p < n → Fits d.width d.height (spot_of d p)
  unfolding drawing_in
  part_fits p l =
      subst (Fits d.width d.height) (sym (part_read n ends sheet p l))
      (point_fits part (get_or sheet 0 0) (get_or sheet (1 + p) 0) (F.parts p l))

  module _ (all : length ends ≡ m) where
    pub corners_counted : (i : ℕ) → i < m → length (route_at d i).corners ≡ counted n sheet i
    corners_counted i l =
        let g = F.complete in
        let h = place_rises n sheet (suc i) m l in
        let e = place_next n sheet i in
        ap (λ (r : Route). length r.corners) (route_read n ends sheet i (omega arith))
        ∙ simp (length-map, length-take, length-drop) (omega arith)

    pub corner_fits :
        (i k : ℕ) → i < m → k < length (route_at d i).corners → Fits d.width d.height (get_or (route_at d i).corners k origin)
    unfolding drawing_in
    corner_fits i k l h =
        let g = corners_counted i l in
        subst (Fits d.width d.height) (sym (corner_read n ends sheet i k (omega arith) (omega arith)))
        (point_fits corner (get_or sheet 0 0) (get_or sheet (cable_place n sheet i + (1 + k)) 0) (F.corners i k l (omega arith)))

    -- so every point of a line with the corners of a cable from a part to a part
    pub points_fit :
        (i a b k : ℕ) → i < m → a < n → b < n → k < length (spot_of d a ∷ ((route_at d i).corners ++ spot_of d b ∷ []))
        → Fits d.width d.height (point (spot_of d a ∷ ((route_at d i).corners ++ spot_of d b ∷ [])) k)
    unfolding point
    points_fit i a b zero l f g h = part_fits a f
    points_fit i a b (suc k) l f g h = go (dec_lt k (length cs))
      where
        cs : List Spot
        cs = (route_at d i).corners

        go : Dec (k < length cs) → Fits d.width d.height (get_or (cs ++ spot_of d b ∷ []) k origin)
        go (yes q) = subst (Fits d.width d.height) (sym (get_or-append cs (spot_of d b ∷ []) origin k q)) (corner_fits i k l q)
        go (no q) =
            let e : k ≡ length cs + 0 = omega (arith, length-append cs (spot_of d b ∷ [])) in
            subst (Fits d.width d.height)
            (sym (ap (λ (j : ℕ). get_or (cs ++ spot_of d b ∷ []) j origin) e ∙ get_or-append-add cs (spot_of d b ∷ []) 0 origin)) (part_fits b g)
