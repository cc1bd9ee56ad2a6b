-- What lies at a spot, as a pass over the parts and one over the cables name it. Assumes nothing.
use Rattle.std.specs.Prelude.{Option, Some, None}
use Prim.Native.Nat.{ℕ, ◌+◌, ◌-◌, ◌<◌, ◌≤◌}
use native.Mathlib.Omega.{arith}
use native.Mathlib.Numerals.{add-one}
use mathlib.Core.Path.{◌≡◌, refl, sym, ap, ◌∙◌}
use mathlib.Core.Bool.{Bool, true, false, cond}
use mathlib.Core.List.{List, [], ◌∷◌, ◌++◌, map}
use lib.ListN.{length, get_or, take, drop, length-take, length-drop, get_or-map}
use Rattle.lists.specs.Search.{seek}
use Rattle.lists.specs.Select.{up_from, cons_if, filter, range}
use Rattle.lists.proofs.Seek.{seek_found}
use Rattle.lists.proofs.Sums.{range_suc}
use Rattle.words.specs.Words.{second_of}
use Rattle.words.specs.Limits.{most_parts}
use Rattle.station.specs.Station.{Station, station_of}
use Rattle.order.proofs.Passed.{list_wired}
use Rattle.geometry.specs.Spots.{Spot, same_spot, origin}
use Rattle.drawing.specs.Drawing.{Drawing, spot_of, route_points}
use Rattle.drawing.specs.Reading.{word_spot, drawing_in}
use Rattle.validation.specs.Alone.{on_line}
use Rattle.validation.specs.Directions.{shown}
use Rattle.validation.specs.Rules.{points_read, points_right}
use Rattle.validation.proofs.Following.{words_enough}
use Rattle.directions.proofs.Choosing.{AtCable, cable_first, cable_inside, cable_corners, cable_next}
use Rattle.directions.specs.Code.{corner_words, CornersOf, Trace, points_along, trace_at}
use Rattle.location.specs.declared.Hit.{Hit}
use Rattle.location.specs.declared.Hit.TheVariants.{Blank, Part, Cable, Crossing}
use Rattle.location.specs.Hits.{part_at, cables_at, named, hit_at}
use Rattle.location.proofs.Locating.{Below, hit_below}
use Rattle.locating.specs.Code.{Readable, with_cable, Fits}
use Rattle.locating.proofs.Reading.{list_passes, sheet_follows, flag_line}

-- Parts

-- the words that are looked at are the parts'
pub parts_looked :
    (ws : List ℕ) (s : Spot)
    → seek (λ p. same_spot (word_spot (get_or ws p 0)) s) 0 (length ws) ≡ seek (λ p. same_spot (get_or (map word_spot ws) p origin) s) 0 (length ws)
unfolding word_spot
parts_looked ws s = sym (λ i. seek (λ p. same_spot (get_or-map word_spot ws p 0 i) s) 0 (length ws))

-- Cables

filter_append : {A : Type 0} (p : A → Bool) (l : List A) (x : A) → filter p (l ++ x ∷ []) ≡ filter p l ++ cons_if (p x) x []
unfolding filter
filter_append p [] x = refl
filter_append {A} p (y ∷ ys) x = go (p y) (filter_append p ys x)
  where
    go :
        (b : Bool) → filter p (ys ++ x ∷ []) ≡ filter p ys ++ cons_if (p x) x []
        → cons_if b y (filter p (ys ++ x ∷ [])) ≡ cons_if b y (filter p ys) ++ cons_if (p x) x []
    go true e = ap (λ (l : List A). y ∷ l) e
    go false e = e

-- one more cable, of the highest line
named_more : (l : List ℕ) (b : Bool) (i : ℕ) → named (l ++ cons_if b i []) ≡ cond b (with_cable (named l) i) (named l)
named_more [] true i = refl
named_more [] false i = refl
named_more (x ∷ []) true i = refl
named_more (x ∷ []) false i = refl
named_more (x ∷ y ∷ l) true i = refl
named_more (x ∷ y ∷ l) false i = refl

-- the cables before line i are named
pub record Naming (list sheet : List ℕ) (s : Spot) (hit : Hit) (at i : ℕ) : Type 0 where
  pub few : i ≤ length (station_of list).cables
  pub here : AtCable list sheet at i
  pub so_far : hit ≡ named (filter (λ j. on_line (points_right (station_of list) (shown (station_of list) sheet) j) s) (range i))

pub naming_start :
    {list sheet : List ℕ} {forward : List Bool} (s : Spot) {n : ℕ} → Readable list sheet forward → n ≡ (station_of list).parts
    → Naming list sheet s Blank (1 + n) 0
unfolding filter range up_from
naming_start {list} {sheet} s R f = record { few = omega arith; here = cable_first (sheet_follows list sheet R.passed) f; so_far = refl }

module _ {list sheet : List ℕ} {s : Spot} {hit : Hit} {at i : ℕ} (N : Naming list sheet s hit at i) where
  abbrev st : Station
  st = station_of list

  abbrev d : Drawing
  d = shown st sheet

  pub naming_inside : i < length (station_of list).cables → at + 1 + second_of (get_or sheet at 0) ≤ length sheet
  naming_inside h = cable_inside N.here h

  module _ {forward : List Bool} (R : Readable list sheet forward) (h : i < length (station_of list).cables) {corners : List ℕ} (e : corners ≡ corner_words sheet at) where
    pub naming_corners : CornersOf list sheet i corners
    naming_corners = cable_corners N.here e (list_passes list sheet R.passed) h

    -- one more cable, whose line has the spot or not
    module _ {t : Trace} (f : t ≡ trace_at (station_of list) (shown (station_of list) sheet) (get_or forward i false) i) {r : Bool}
        (g : r ≡ on_line (points_along t) s) where
      pub naming_next :
          {hit' : Hit} → hit' ≡ cond r (with_cable hit i) hit → Naming list sheet s hit' (at + (1 + length corners)) (i + 1)
      unfolding points_read route_points
      naming_next k = record {
        few = omega arith;
        here = cable_next N.here e h;
        so_far =
            let test : ℕ → Bool = λ j. on_line (points_right st d j) s in
            let q : r ≡ test i = g ∙ ap (λ (u : Trace). on_line (points_along u) s) f ∙ flag_line R i h s in
            k ∙ rw (N.so_far, q) (sym (named_more (filter test (range i)) (test i) i))
            ∙ ap named (sym (filter_append test (range i) i) ∙ ap (filter test) (sym (range_suc i) ∙ ap range (sym (add-one i))));
      }

      pub naming_has : {hit' : Hit} → r ≡ true → hit' ≡ with_cable hit i → Naming list sheet s hit' (at + (1 + length corners)) (i + 1)
      naming_has k l = naming_next (rw k l)

      pub naming_same : {hit' : Hit} → r ≡ false → hit' ≡ hit → Naming list sheet s hit' (at + (1 + length corners)) (i + 1)
      naming_same k l = naming_next (rw k l)

  pub naming_end : length (station_of list).cables ≤ i → hit ≡ named (cables_at (station_of list) (shown (station_of list) sheet) s)
  unfolding cables_at
  naming_end h =
      let e : i ≡ length st.cables = omega (arith, N.few) in
      N.so_far ∙ ap (λ (k : ℕ). named (filter (λ j. on_line (points_right st d j) s) (range k))) e

-- Parts before cables

module _ {list sheet : List ℕ} {forward : List Bool} (R : Readable list sheet forward) where
  abbrev parts : ℕ
  parts = (station_of list).parts

  pub parts_inside : 1 + (station_of list).parts ≤ length sheet
  parts_inside = words_enough parts (length (station_of list).cables) sheet (sheet_follows list sheet R.passed)

  module _
      {n : ℕ} (b : n ≡ (station_of list).parts) (s : Spot) {found : Option ℕ}
      (e : found
      ≡ seek (λ p. same_spot (get_or (map word_spot (take (1 + n - 1) (drop 1 sheet))) p origin) s) 0
      (length (take (1 + n - 1) (drop 1 sheet)))) where
    found_part : found ≡ part_at parts (shown (station_of list) sheet) s
    unfolding part_at shown drawing_in spot_of
    found_part =
        let q : 1 + n - 1 ≡ parts = omega arith in
        let l : length (take parts (drop 1 sheet)) ≡ parts = simp (length-take, length-drop) (omega (arith, parts_inside)) in
        e ∙ rw (q, l)

    -- the part that is found is one of the list's
    pub part_few : {p : ℕ} → found ≡ Some p → p < most_parts
    unfolding part_at
    part_few {p} h =
        let F = seek_found (λ p. same_spot (spot_of (shown (station_of list) sheet) p) s) 0 parts (sym found_part ∙ h) in
        omega (arith, F.below, (list_wired list (list_passes list sheet R.passed)).most)

    pub part_named : {p : ℕ} → found ≡ Some p → Part (record { 0 = p }) ≡ hit_at (station_of list) sheet s
    unfolding hit_at
    part_named h = rw (sym found_part ∙ h)

    pub cables_named :
        found ≡ None → {hit : Hit} → hit ≡ named (cables_at (station_of list) (shown (station_of list) sheet) s)
        → hit ≡ hit_at (station_of list) sheet s
    unfolding hit_at
    cables_named h e = e ∙ rw (sym found_part ∙ h)

-- The numbers of an answer fit its word

below_fits : (hit : Hit) → Below hit → Fits hit
below_fits Blank h = tt
below_fits (Part p) h = omega arith
below_fits (Cable i) h = omega arith
below_fits (Crossing i j) h = omega arith

pub hit_fits :
    {list sheet : List ℕ} {forward : List Bool} → Readable list sheet forward → (s : Spot) {hit : Hit}
    → hit ≡ hit_at (station_of list) sheet s → Fits hit
hit_fits {list} {sheet} R s e =
    rw e (below_fits (hit_at (station_of list) sheet s) (hit_below list sheet (list_passes list sheet R.passed) s))
