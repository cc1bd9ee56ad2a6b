-- What each call answers, step by step as its checks are made: of marks, of a cable's own words and of its box; and what a pass leaves.
-- Assumes nothing.
use Rattle.checks.specs.declared.Fault.{Fault}
use Rattle.std.specs.Prelude.{Ok, Err}
use Prim.Native.Nat.{ℕ, ◌<◌, ◌≤◌}
use native.Mathlib.Omega.{arith}
use native.Mathlib.Decide.{dec_lt}
use mathlib.Core.Path.{◌≡◌, refl, sym, ap, ◌∙◌}
use mathlib.Core.List.{List}
use lib.ListN.{length, length-map}
use borrow.Author.Tests.{lt-ltb, le-ltb, le-leb, lt-leb}
use Rattle.words.specs.Limits.{most_marks}
use Rattle.checks.specs.declared.Fault.TheVariants as faults
use Rattle.checks.specs.Checks.{Clear, or_else, first_refusal, at_when, Verdict, passed, refused}
use Rattle.checks.specs.Outcome.{written, sent_back, fitted}
use Rattle.checks.proofs.Outcome.{verdict_refused, verdict_passed, fitted_short, fitted_whole}
use Rattle.station.specs.Station.{station_of}
use Rattle.validation.specs.Outcome.{sheet_verdict}
use Rattle.bounds.specs.declared.Bounds.{Bounds}
use Rattle.location.specs.Hits.{mark_spot, word_to, hit_at, hit_words}
use Rattle.location.specs.Selection.{own_start, own_count, cable_box}
use Rattle.location.specs.Outcome.{mark_checks, cable_checks, locate_outcome, verdict_to, words_at, selected, start_in, count_in, Bounded, bounded}

-- Marks

module _ (list sheet marks : List ℕ) where
  -- a word for each mark
  pub hits_counted : length (hit_words (station_of list) sheet marks) ≡ length marks
  unfolding hit_words
  hits_counted = length-map marks (λ w. word_to (hit_at (station_of list) sheet (mark_spot w)))

  -- the checks: 21 first
  pub marks_21 : most_marks < length marks → first_refusal (mark_checks sheet marks) list ≡ refused faults.TooManyMarks (length marks)
  unfolding mark_checks first_refusal or_else at_when
  marks_21 h = rw (lt-ltb most_marks (length marks) h)

  module _ (few : length marks ≤ most_marks) where
    pub marks_22 :
        (c : Fault) (p : ℕ) → sheet_verdict list sheet ≡ refused c p → first_refusal (mark_checks sheet marks) list ≡ refused faults.SheetRefused p
    unfolding mark_checks first_refusal or_else at_when
    marks_22 c p e = rw (le-ltb most_marks (length marks) few, e)

    pub marks_clear : sheet_verdict list sheet ≡ passed → Clear (mark_checks sheet marks) list
    unfolding mark_checks first_refusal or_else at_when
    marks_clear e = rw (le-ltb most_marks (length marks) few, e)

  module _ (room : ℕ) where
    pub mark_refuses_21 : most_marks < length marks → locate_outcome list sheet marks room ≡ sent_back faults.TooManyMarks (length marks)
    unfolding locate_outcome
    mark_refuses_21 h = verdict_refused (fitted (hit_words (station_of list) sheet marks) tt room) (marks_21 h)

    module _ (few : length marks ≤ most_marks) where
      pub mark_refuses_22 :
          (c : Fault) (p : ℕ) → sheet_verdict list sheet ≡ refused c p → locate_outcome list sheet marks room ≡ sent_back faults.SheetRefused p
      unfolding locate_outcome
      mark_refuses_22 c p e = verdict_refused (fitted (hit_words (station_of list) sheet marks) tt room) (marks_22 few c p e)

      module _ (pass : sheet_verdict list sheet ≡ passed) where
        pub mark_refuses_11 : room < length marks → locate_outcome list sheet marks room ≡ sent_back faults.OutputTooShort (length marks)
        unfolding locate_outcome
        mark_refuses_11 h =
            let words = hit_words (station_of list) sheet marks in
            let e = hits_counted in
            verdict_passed (fitted words tt room) (marks_clear few pass) ∙ fitted_short words tt room (omega arith) ∙ ap (sent_back faults.OutputTooShort) e

        pub mark_passes :
            length marks ≤ room → locate_outcome list sheet marks room ≡ written (hit_words (station_of list) sheet marks) tt
        unfolding locate_outcome
        mark_passes h =
            let words = hit_words (station_of list) sheet marks in
            let e = hits_counted in
            verdict_passed (fitted words tt room) (marks_clear few pass) ∙ fitted_whole words tt room (omega arith)

    -- which of these steps is taken
    pub data MarkStep : Type 0 where
      many : most_marks < length marks → MarkStep
      sheet_refused : length marks ≤ most_marks → (c : Fault) (p : ℕ) → sheet_verdict list sheet ≡ refused c p → MarkStep
      short : length marks ≤ most_marks → sheet_verdict list sheet ≡ passed → room < length marks → MarkStep
      answered : length marks ≤ most_marks → sheet_verdict list sheet ≡ passed → length marks ≤ room → MarkStep

    pub mark_step : MarkStep
    mark_step = go (dec_lt most_marks (length marks)) (sheet_verdict list sheet) refl (dec_lt room (length marks))
      where
        go : Dec (most_marks < length marks) → (v : Verdict) → sheet_verdict list sheet ≡ v → Dec (room < length marks) → MarkStep
        go (yes l) v e k = many l
        go (no l) (Err r) e k = sheet_refused (omega arith) r.fault r.place e
        go (no l) (Ok u) e (yes k) = short (omega arith) e k
        go (no l) (Ok u) e (no k) = answered (omega arith) e (omega arith)

    -- a pass is a pass of each
    pub mark_passed :
        verdict_to (locate_outcome list sheet marks room) ≡ passed
        → (length marks ≤ most_marks) × (sheet_verdict list sheet ≡ passed) × (length marks ≤ room)
    mark_passed h = go mark_step
      where
        sent : {c : Fault} {p : ℕ} → locate_outcome list sheet marks room ≡ sent_back c p → ⊥
        sent {c} {p} e = let q = sym h ∙ ap verdict_to e in let z : ◌≡◌ {A = ℕ} 0 1 = cc in omega arith

        go : MarkStep → (length marks ≤ most_marks) × (sheet_verdict list sheet ≡ passed) × (length marks ≤ room)
        go (many l) = absurd (sent (mark_refuses_21 l))
        go (sheet_refused l c p e) = absurd (sent (mark_refuses_22 l c p e))
        go (short l e k) = absurd (sent (mark_refuses_11 l e k))
        go (answered l e k) = (l, e, k)

-- A chosen cable

module _ (list sheet : List ℕ) (line : ℕ) where
  -- the checks: 22 first
  pub cable_22 :
      (c : Fault) (p : ℕ) → sheet_verdict list sheet ≡ refused c p → first_refusal (cable_checks sheet line) list ≡ refused faults.SheetRefused p
  unfolding cable_checks first_refusal or_else
  cable_22 c p e = rw e

  module _ (pass : sheet_verdict list sheet ≡ passed) where
    pub cable_23 : length (station_of list).cables ≤ line → first_refusal (cable_checks sheet line) list ≡ refused faults.NoSuchLine line
    unfolding cable_checks first_refusal or_else at_when
    cable_23 h = rw (pass, le-leb (length (station_of list).cables) line h)

    pub cable_clear : line < length (station_of list).cables → Clear (cable_checks sheet line) list
    unfolding cable_checks first_refusal or_else at_when
    cable_clear h = rw (pass, lt-leb (length (station_of list).cables) line h)

  -- its own words
  pub selected_refuses_22 : (c : Fault) (p : ℕ) → sheet_verdict list sheet ≡ refused c p → selected list sheet line ≡ refused faults.SheetRefused p
  unfolding selected
  selected_refuses_22 c p e = rw (cable_22 c p e)

  module _ (pass : sheet_verdict list sheet ≡ passed) where
    pub selected_refuses_23 : length (station_of list).cables ≤ line → selected list sheet line ≡ refused faults.NoSuchLine line
    unfolding selected
    selected_refuses_23 h = rw (cable_23 pass h)

    pub selected_words :
        line < length (station_of list).cables
        → selected list sheet line ≡ words_at (own_start (station_of list).parts sheet line) (own_count (station_of list).parts sheet line)
    unfolding selected
    selected_words h = rw (cable_clear pass h)

  -- its box
  pub bounded_refuses_22 : (c : Fault) (p : ℕ) → sheet_verdict list sheet ≡ refused c p → bounded list sheet line ≡ refused faults.SheetRefused p
  unfolding bounded
  bounded_refuses_22 c p e = rw (cable_22 c p e)

  module _ (pass : sheet_verdict list sheet ≡ passed) where
    pub bounded_refuses_23 : length (station_of list).cables ≤ line → bounded list sheet line ≡ refused faults.NoSuchLine line
    unfolding bounded
    bounded_refuses_23 h = rw (cable_23 pass h)

    pub bounded_box : line < length (station_of list).cables → bounded list sheet line ≡ Ok (cable_box (station_of list) sheet line)
    unfolding bounded
    bounded_box h = rw (cable_clear pass h)

  -- which of these steps is taken
  pub data CableStep : Type 0 where
    not_accepted_lem : (c : Fault) (p : ℕ) → sheet_verdict list sheet ≡ refused c p → CableStep
    no_line : sheet_verdict list sheet ≡ passed → length (station_of list).cables ≤ line → CableStep
    chosen : sheet_verdict list sheet ≡ passed → line < length (station_of list).cables → CableStep

  pub cable_step : CableStep
  cable_step = go (sheet_verdict list sheet) refl (dec_lt line (length (station_of list).cables))
    where
      go : (v : Verdict) → sheet_verdict list sheet ≡ v → Dec (line < length (station_of list).cables) → CableStep
      go (Err r) e k = not_accepted_lem r.fault r.place e
      go (Ok u) e (yes k) = chosen e k
      go (Ok u) e (no k) = no_line e (omega arith)

  -- Words and a box are given of a cable of an accepted sheet alone.
  abbrev pub Given : Type 0
  Given = (sheet_verdict list sheet ≡ passed) × (line < length (station_of list).cables)

  pub selected_given :
      (start count : ℕ) → selected list sheet line ≡ words_at start count
      → Given × (start ≡ own_start (station_of list).parts sheet line) × (count ≡ own_count (station_of list).parts sheet line)
  selected_given start count h = go cable_step
    where
      go : CableStep → Given × (start ≡ own_start (station_of list).parts sheet line) × (count ≡ own_count (station_of list).parts sheet line)
      go (not_accepted_lem c p e) = let z : ◌≡◌ {A = ℕ} 0 1 = cc (selected_refuses_22 c p e) in absurd (omega arith)
      go (no_line e l) = let z : ◌≡◌ {A = ℕ} 0 1 = cc (selected_refuses_23 e l) in absurd (omega arith)
      go (chosen e l) = let q = sym h ∙ selected_words e l in ((e, l), ap start_in q, ap count_in q)

  abbrev box_in : Bounds → Bounded → Bounds
  box_in d (Ok b) = b
  box_in d (Err r) = d

  pub bounded_given : (bounds : Bounds) → bounded list sheet line ≡ Ok bounds → Given × (bounds ≡ cable_box (station_of list) sheet line)
  bounded_given bounds h = go cable_step
    where
      go : CableStep → Given × (bounds ≡ cable_box (station_of list) sheet line)
      go (not_accepted_lem c p e) = let z : ◌≡◌ {A = ℕ} 0 1 = cc (bounded_refuses_22 c p e) in absurd (omega arith)
      go (no_line e l) = let z : ◌≡◌ {A = ℕ} 0 1 = cc (bounded_refuses_23 e l) in absurd (omega arith)
      go (chosen e l) = ((e, l), ap (box_in bounds) (sym h ∙ bounded_box e l))
