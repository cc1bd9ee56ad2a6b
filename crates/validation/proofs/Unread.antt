-- 'reading stops behind the last cable's word and the corners that it counts': what stands behind a sheet that follows the layout changes no
-- answer. Assumes nothing.
use Rattle.std.specs.Prelude.{Option, Ok, Err}
use Prim.Native.Nat.{ℕ, zero, suc, ◌+◌, ◌<◌, ◌≤◌}
use native.Mathlib.Omega.{arith}
use mathlib.Core.Path.{◌≡◌, refl, sym, ap, ap₂, ◌∙◌}
use mathlib.Core.Bool.{true}
use mathlib.Core.List.{List, [], ◌∷◌, ◌++◌, map}
use lib.ListN.{length, get_or, take, drop, length-append, length-take, length-drop, length-map, take-append-drop, get_or-append}
use lib.Seq.{get_or-take, get_or-drop, drop-drop, take-append-le, drop-append-le}
use Rattle.checks.specs.declared.Fault.TheVariants as faults
use Rattle.checks.specs.Checks.{first_refusal, or_else, Verdict, passed}
use Rattle.station.specs.Station.{Station, station_of}
use Rattle.order.specs.Checks.{all_checks}
use Rattle.words.specs.Words.{second_of}
use Rattle.drawing.specs.Reading.{Endpoints, routes_in, drawing_in}
use Rattle.validation.specs.Layout.{check19, cable_place, Follows}
use Rattle.validation.specs.Directions.{directed, shown}
use Rattle.validation.specs.Rules.{check20}
use Rattle.validation.specs.Outcome.{sheet_verdict}
use Rattle.validation.proofs.Following.{counted, place_first, place_next, place_rises, words_enough, layout_i}
use Rattle.validation.proofs.Accepting.{list_refuses, sheet_decides}

-- Another sheet with the same words up to behind the last cable's corners

module _ (n m : ℕ) (sheet other : List ℕ) (same : (k : ℕ) → k < cable_place n sheet m → get_or other k 0 ≡ get_or sheet k 0) where
  -- the word of a cable and those of its corners are among these
  cable_within : (i : ℕ) → i < m → cable_place n sheet i + (1 + counted n sheet i) ≤ cable_place n sheet m
  cable_within i l = omega (arith, place_next n sheet i, place_rises n sheet (suc i) m l)

  pub same_place : (i : ℕ) → i ≤ m → cable_place n other i ≡ cable_place n sheet i
  same_place zero l = place_first n other ∙ sym (place_first n sheet)
  same_place (suc i) l =
      let e = same_place i (omega arith) in
      let word = same (cable_place n sheet i) (omega (arith, cable_within i l)) in
      place_next n other i
      ∙ ap₂ (λ (p w : ℕ). p + (1 + second_of w)) e (ap (λ (p : ℕ). get_or other p 0) e ∙ word)
      ∙ sym (place_next n sheet i)

  -- follows the layout too
  module _ (enough : cable_place n sheet m ≤ length other) (F : Follows n m sheet) where
    front_within : 1 + n ≤ cable_place n sheet m
    front_within = omega (arith, place_first n sheet, place_rises n sheet 0 m (omega arith))

    head_same : get_or other 0 0 ≡ get_or sheet 0 0
    head_same = same 0 (omega (arith, front_within))

    cable_same : (i : ℕ) → i < m → get_or other (cable_place n other i) 0 ≡ get_or sheet (cable_place n sheet i) 0
    cable_same i l =
        ap (λ (p : ℕ). get_or other p 0) (same_place i (omega arith)) ∙ same (cable_place n sheet i) (omega (arith, cable_within i l))

    corner_same :
        (i k : ℕ) → i < m → k < counted n sheet i
        → get_or other (cable_place n other i + (1 + k)) 0 ≡ get_or sheet (cable_place n sheet i + (1 + k)) 0
    corner_same i k l h =
        ap (λ (p : ℕ). get_or other (p + (1 + k)) 0) (same_place i (omega arith))
        ∙ same (cable_place n sheet i + (1 + k)) (omega (arith, cable_within i l))

    pub same_follows : Follows n m other
    same_follows = record {
      complete = rw (same_place m (omega arith)) enough;
      head = rw head_same F.head;
      parts = λ p l. rw (head_same, same (1 + p) (omega (arith, front_within))) (F.parts p l);
      cables = λ i l. rw (cable_same i l) (F.cables i l);
      corners = λ i k l h.
          let g : k < counted n sheet i = rw (cable_same i l) at h in
          rw (head_same, corner_same i k l g) (F.corners i k l g);
    }

module _ (n m : ℕ) (sheet : List ℕ) (F : Follows n m sheet) where
  pub longer_follows : (rest : List ℕ) → Follows n m (sheet ++ rest)
  longer_follows rest =
      same_follows n m sheet (sheet ++ rest) (λ k h. get_or-append sheet rest 0 k (omega (arith, F.complete)))
      (rw length-append (omega (arith, F.complete))) F

  pub cut_follows : Follows n m (take (cable_place n sheet m) sheet)
  cut_follows =
      same_follows n m sheet (take (cable_place n sheet m) sheet) (λ k h. get_or-take (cable_place n sheet m) sheet k 0 h)
      (rw length-take (omega (arith, F.complete))) F

-- The same drawing

inside_unread : (at k : ℕ) (words rest : List ℕ) → at + k ≤ length words → take k (drop at (words ++ rest)) ≡ take k (drop at words)
inside_unread at k words rest h =
    ap (take k) (drop-append-le at words rest (omega arith)) ∙ take-append-le k (drop at words) rest (rw length-drop (omega arith))

module _ (n : ℕ) (sheet rest : List ℕ) where
  -- the cables from line i on
  routes_unread :
      (es : List Endpoints) (i : ℕ) → cable_place n sheet (i + length es) ≤ length sheet
      → routes_in es (drop (cable_place n sheet i) sheet ++ rest) ≡ routes_in es (drop (cable_place n sheet i) sheet)
  unfolding routes_in
  routes_unread [] i l = refl
  routes_unread (e ∷ es) i l =
      let here = cable_place n sheet i in
      let next = cable_place n sheet (suc i) in
      let k = counted n sheet i in
      let words = drop here sheet in
      let q : i + suc (length es) ≡ suc i + length es = omega arith in
      let all : cable_place n sheet (suc i + length es) ≤ length sheet = rw q at l in
      let rises = place_rises n sheet (suc i) (suc i + length es) (omega arith) in
      let room : 1 + k ≤ length words = rw length-drop (omega (arith, place_next n sheet i)) in
      let p : here + 0 ≡ here = omega arith in
      let word : get_or words 0 0 ≡ get_or sheet here 0 = get_or-drop here sheet 0 0 ∙ ap (λ (j : ℕ). get_or sheet j 0) p in
      let r : here + (k + 1) ≡ next = omega (arith, place_next n sheet i) in
      let behind : drop (k + 1) words ≡ drop next sheet = drop-drop (k + 1) here sheet ∙ ap (λ (j : ℕ). drop j sheet) r in
      let moved = drop-append-le (k + 1) words rest (omega arith) in
      rw (get_or-append words rest 0 0 (omega arith), word, inside_unread 1 k words rest room, moved, behind, routes_unread es (suc i) all)

pub drawing_unread :
    (n : ℕ) (ends : List Endpoints) (sheet rest : List ℕ) → Follows n (length ends) sheet
    → drawing_in n ends (sheet ++ rest) ≡ drawing_in n ends sheet
unfolding drawing_in
drawing_unread n ends sheet rest F =
    let l = words_enough n (length ends) sheet F in
    let e : 0 + length ends ≡ length ends = omega arith in
    let routes = rw (place_first n sheet) at (routes_unread n sheet rest ends 0 (rw e F.complete)) in
    rw (get_or-append sheet rest 0 0 (omega arith), inside_unread 1 n sheet rest l, drop-append-le (1 + n) sheet rest l, routes)

-- The same answer

module _ (st : Station) (sheet rest : List ℕ) (F : Follows st.parts (length st.cables) sheet) where
  pub layout_unread : check19 st.parts (length st.cables) (sheet ++ rest) ≡ check19 st.parts (length st.cables) sheet
  layout_unread =
      layout_i st.parts (length st.cables) (sheet ++ rest) (longer_follows st.parts (length st.cables) sheet F rest)
      ∙ sym (layout_i st.parts (length st.cables) sheet F)

  pub rules_unread : check20 st (sheet ++ rest) ≡ check20 st sheet
  unfolding check20 shown
  rules_unread =
      let ends = map (directed true) st.cables in
      let e : length ends ≡ length st.cables = length-map st.cables (directed true) in
      rw (drawing_unread st.parts ends sheet rest (rw e F))

-- of the sheet with words put behind it
pub rest_unread :
    (list sheet rest : List ℕ) → Follows (station_of list).parts (length (station_of list).cables) sheet
    → sheet_verdict list (sheet ++ rest) ≡ sheet_verdict list sheet
rest_unread list sheet rest F = go (first_refusal all_checks list) refl
  where
    go : (v : Verdict) → first_refusal all_checks list ≡ v → sheet_verdict list (sheet ++ rest) ≡ sheet_verdict list sheet
    go (Ok u) h =
        sheet_decides list (sheet ++ rest) h
        ∙ ap₂ (λ (f g : Option ℕ). or_else faults.OutOfLayout f (or_else faults.BrokenRule g passed)) (layout_unread (station_of list) sheet rest F)
        (rules_unread (station_of list) sheet rest F)
        ∙ sym (sheet_decides list sheet h)
    go (Err r) h = list_refuses list (sheet ++ rest) r.fault r.place h ∙ sym (list_refuses list sheet r.fault r.place h)

-- and of the sheet cut off behind the last cable's corners
pub cut_unread :
    (list sheet : List ℕ) → Follows (station_of list).parts (length (station_of list).cables) sheet
    → sheet_verdict list (take (cable_place (station_of list).parts sheet (length (station_of list).cables)) sheet) ≡ sheet_verdict list sheet
cut_unread list sheet F =
    let k = cable_place (station_of list).parts sheet (length (station_of list).cables) in
    sym (rest_unread list (take k sheet) (drop k sheet) (cut_follows (station_of list).parts (length (station_of list).cables) sheet F))
    ∙ ap (sheet_verdict list) (take-append-drop k sheet)
