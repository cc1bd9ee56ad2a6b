-- Each mark on an accepted sheet is answered as if alone, by what lies there, in numbers that a word holds; and which numbers the refusals
-- have. Assumes nothing.
use Rattle.checks.specs.declared.Fault.{Fault}
use Rattle.checks.specs.declared.Fault.TheVariants as faults
use Rattle.std.specs.Prelude.{Option, Some, None}
use Prim.Native.Nat.{ℕ, ◌<◌}
use native.Mathlib.Omega.{arith}
use mathlib.Core.Path.{◌≡◌, refl, sym, ap, ◌∙◌, subst}
use mathlib.Core.Bool.{Bool}
use mathlib.Core.Logic.{◌⊎◌, inl, inr}
use mathlib.Core.List.{List, [], ◌∷◌, Memᴰ}
use lib.ListN.{length, get_or, drop, get_or-append}
use Rattle.lists.specs.Select.{filter, range}
use Rattle.lists.proofs.Bools.{not_e}
use Rattle.lists.proofs.Seek.{seek_found, seek_nothing}
use Rattle.lists.proofs.Select.{get_d_map, filter_e, range_e}
use Rattle.words.specs.Limits.{most_parts, most_cables}
use Rattle.checks.specs.Checks.{Clear, Verdict, passed, refused}
use Rattle.checks.specs.Outcome.{Outcome, sent_back, row_after}
use Rattle.checks.proofs.FirstRefusal.{same_fault}
use Rattle.station.specs.Station.{Station, station_of}
use Rattle.order.specs.Checks.{all_checks}
use Rattle.order.proofs.Passed.{list_wired, lines_most}
use Rattle.geometry.specs.Spots.{Spot, same_spot}
use Rattle.geometry.proofs.Spots.{same_spot_e}
use Rattle.drawing.specs.Drawing.{Drawing, spot_of}
use Rattle.validation.specs.Alone.{on_line}
use Rattle.validation.specs.Directions.{shown}
use Rattle.validation.specs.Rules.{points_right}
use Rattle.validation.specs.Outcome.{Accepted, sheet_verdict}
use Rattle.validation.proofs.Alone.{same_spot_i}
use Rattle.validation.proofs.Accepting.{validates}
use Rattle.location.specs.declared.Hit.{Hit}
use Rattle.location.specs.declared.Hit.TheVariants.{Blank, Part, Cable, Crossing}
use Rattle.location.specs.Hits.{mark_spot, part_at, cables_at, named, part_or, hit_at, word_to, hit_words}
use Rattle.location.specs.Lying.{NoPart, Lies}
use Rattle.location.specs.Outcome.{locate_outcome, verdict_to, drawing_of, Locates, selected, bounded}
use Rattle.location.proofs.Sharing.{filtered_lies}
use Rattle.location.proofs.SameLine.{accepted_parts, accepted_routes, accepted_part, accepted_line}
use Rattle.location.proofs.Answers.{hits_counted, mark_refuses_21, mark_refuses_22, mark_refuses_11, mark_passes, mark_passed}
use Rattle.location.proofs.Answers.{MarkStep, many, sheet_refused, short, answered, mark_step}
use Rattle.location.proofs.Answers.{selected_refuses_22, selected_refuses_23, selected_words, bounded_refuses_22, bounded_refuses_23}
use Rattle.location.proofs.Answers.{bounded_box, CableStep, not_accepted_lem, no_line, chosen, cable_step}

-- What lies at a spot

module _ (list sheet : List ℕ) (pass : Clear all_checks list) (a : Accepted list sheet) (s : Spot) where
  abbrev st : Station
  st = station_of list

  abbrev d : Drawing
  d = shown st sheet

  abbrev here : ℕ → Bool
  here p = same_spot (spot_of d p) s

  -- where no part's spot is found to be it, there is none
  none_there : part_at st.parts d s ≡ None → NoPart (drawing_of a) s
  unfolding part_at
  none_there e p l q =
      not_e (here p)
      (rw (seek_nothing here 0 st.parts e p (omega arith) (omega (arith, accepted_parts list sheet pass a))))
      (same_spot_i (spot_of d p) s (sym (accepted_part list sheet pass a p) ∙ q))

  cables_there : NoPart (drawing_of a) s → Lies (drawing_of a) s (named (cables_at st d s))
  unfolding cables_at
  cables_there N =
      let few = accepted_routes list sheet pass a in
      subst (λ (m : ℕ). Lies (drawing_of a) s (named (filter (λ i. on_line (points_right st d i) s) (range m)))) few
      (filtered_lies (drawing_of a) a.meetings s N (λ i. on_line (points_right st d i) s)
      (λ i l. (accepted_line list sheet pass a i (omega arith) s).0) (λ i l. (accepted_line list sheet pass a i (omega arith) s).1))

  -- 'the screen names what lies there'
  pub hit_lies : Lies (drawing_of a) s (hit_at (station_of list) sheet s)
  unfolding hit_at part_at
  hit_lies = go (part_at st.parts d s) refl
    where
      go : (f : Option ℕ) → part_at st.parts d s ≡ f → Lies (drawing_of a) s (part_or f (named (cables_at st d s)))
      go (Some p) e =
          let F = seek_found here 0 st.parts e in
          record {
            is_part = omega (arith, F.below, accepted_parts list sheet pass a);
            its_spot = accepted_part list sheet pass a p ∙ same_spot_e (spot_of d p) s F.passes;
          }
      go None e = cables_there (none_there e)

-- The numbers of an answer

-- a part's number and a cable's line
abbrev pub Below : Hit → Type 0
Below Blank = Unit
Below (Part p) = p.0 < most_parts
Below (Cable i) = i < most_cables
Below (Crossing i j) = (i < most_cables) × (j < most_cables)

named_below : (lines : List ℕ) → ((i : ℕ) → Memᴰ i lines → i < most_cables) → Below (named lines)
named_below [] f = tt
named_below (i ∷ []) f = f i (Memᴰ.head refl)
named_below (i ∷ j ∷ more) f = (f i (Memᴰ.head refl), f j (Memᴰ.tail (Memᴰ.head refl)))

pub hit_below : (list sheet : List ℕ) → Clear all_checks list → (s : Spot) → Below (hit_at (station_of list) sheet s)
unfolding hit_at part_at cables_at
hit_below list sheet pass s = go (part_at st.parts d s) refl
  where
    st : Station
    st = station_of list

    d : Drawing
    d = shown st sheet

    test : ℕ → Bool
    test i = on_line (points_right st d i) s

    go : (f : Option ℕ) → part_at st.parts d s ≡ f → Below (part_or f (named (cables_at st d s)))
    go (Some p) e =
        let F = seek_found (λ p. same_spot (spot_of d p) s) 0 st.parts e in
        omega (arith, F.below, (list_wired list pass).most)
    go None e =
        named_below (cables_at st d s) λ i m.
        let l = range_e (length st.cables) (filter_e test (range (length st.cables)) m).0 in
        omega (arith, lines_most list pass)

-- Marks

-- the word for each mark
pub hit_at_lem :
    (st : Station) (sheet marks : List ℕ) (k : ℕ) → k < length marks
    → get_or (hit_words st sheet marks) k 0 ≡ word_to (hit_at st sheet (mark_spot (get_or marks k 0)))
unfolding hit_words
hit_at_lem st sheet marks k l = get_d_map (λ w. word_to (hit_at st sheet (mark_spot w))) marks k 0 0 l

-- 'Each mark on an accepted sheet is answered as if alone, in the marks' sequence'
pub as_if_alone :
    (st : Station) (sheet marks : List ℕ) (k : ℕ) → k < length marks
    → hit_words st sheet (get_or marks k 0 ∷ []) ≡ get_or (hit_words st sheet marks) k 0 ∷ []
unfolding hit_words
as_if_alone st sheet marks k l = ap (λ (w : ℕ). w ∷ []) (sym (hit_at_lem st sheet marks k l))

-- what makes a call right
pub locates :
    (list sheet marks before after : List ℕ) (answer : Verdict) → answer ≡ verdict_to (locate_outcome list sheet marks (length before))
    → after ≡ row_after (locate_outcome list sheet marks (length before)) before → Locates list sheet marks before after answer
locates list sheet marks before after answer e o = record {
  answers = e;
  output = o;
  accepted = λ p. taken p;
  hits = λ p a k l.
      let s = mark_spot (get_or marks k 0) in
      (hit_at (station_of list) sheet s, at p k l, hit_lies list sheet (taken p).0 a s);
}
  where
    taken : answer ≡ passed → Clear all_checks list × Accepted list sheet
    taken p =
        let r = mark_passed list sheet marks (length before) (sym e ∙ p) in
        (validates list sheet (sheet_verdict list sheet) refl).accepts r.1

    words : List ℕ
    words = hit_words (station_of list) sheet marks

    at :
        answer ≡ passed → (k : ℕ) → k < length marks
        → get_or after k 0 ≡ word_to (hit_at (station_of list) sheet (mark_spot (get_or marks k 0)))
    at p k l =
        let r = mark_passed list sheet marks (length before) (sym e ∙ p) in
        let whole = mark_passes list sheet marks (length before) r.0 r.1 r.2 in
        ap (λ (row : List ℕ). get_or row k 0) (o ∙ ap (λ (x : Outcome ℕ Unit). row_after x before) whole)
        ∙ get_or-append words (drop (length words) before) 0 k (omega (arith, hits_counted list sheet marks))
        ∙ hit_at_lem (station_of list) sheet marks k l

-- Refusals

-- of marks: 21, 22, and 11 for a row that is too short
pub located_numbers :
    (list sheet marks : List ℕ) (room : ℕ) (check : Fault) (place : ℕ) → verdict_to (locate_outcome list sheet marks room) ≡ refused check place
    → (check ≡ faults.TooManyMarks) ⊎ (check ≡ faults.SheetRefused) ⊎ (check ≡ faults.OutputTooShort)
located_numbers list sheet marks room check place h = go (mark_step list sheet marks room)
  where
    number : {c : Fault} {p : ℕ} → locate_outcome list sheet marks room ≡ sent_back c p → check ≡ c
    number e = same_fault (sym h ∙ ap verdict_to e)

    go : MarkStep list sheet marks room → (check ≡ faults.TooManyMarks) ⊎ (check ≡ faults.SheetRefused) ⊎ (check ≡ faults.OutputTooShort)
    go (many l) = inl (number (mark_refuses_21 list sheet marks room l))
    go (sheet_refused l c p e) = inr (inl (number (mark_refuses_22 list sheet marks room l c p e)))
    go (short l e k) = inr (inr (number (mark_refuses_11 list sheet marks room l e k)))
    go (answered l e k) =
        let q = mark_passes list sheet marks room l e k in
        let r = sym h ∙ ap verdict_to q in
        let z : ◌≡◌ {A = ℕ} 0 1 = cc in absurd (omega arith)

-- of a chosen cable: 22 and 23
module _ (list sheet : List ℕ) (line : ℕ) (check : Fault) (place : ℕ) where
  pub selected_numbers : selected list sheet line ≡ refused check place → (check ≡ faults.SheetRefused) ⊎ (check ≡ faults.NoSuchLine)
  selected_numbers h = go (cable_step list sheet line)
    where
      go : CableStep list sheet line → (check ≡ faults.SheetRefused) ⊎ (check ≡ faults.NoSuchLine)
      go (not_accepted_lem c p e) = inl (same_fault (sym h ∙ selected_refuses_22 list sheet line c p e))
      go (no_line e l) = inr (same_fault (sym h ∙ selected_refuses_23 list sheet line e l))
      go (chosen e l) = let q = selected_words list sheet line e l in let z : ◌≡◌ {A = ℕ} 0 1 = cc in absurd (omega arith)

  pub bounded_numbers : bounded list sheet line ≡ refused check place → (check ≡ faults.SheetRefused) ⊎ (check ≡ faults.NoSuchLine)
  bounded_numbers h = go (cable_step list sheet line)
    where
      go : CableStep list sheet line → (check ≡ faults.SheetRefused) ⊎ (check ≡ faults.NoSuchLine)
      go (not_accepted_lem c p e) = inl (same_fault (sym h ∙ bounded_refuses_22 list sheet line c p e))
      go (no_line e l) = inr (same_fault (sym h ∙ bounded_refuses_23 list sheet line e l))
      go (chosen e l) = let q = bounded_box list sheet line e l in let z : ◌≡◌ {A = ℕ} 0 1 = cc in absurd (omega arith)
