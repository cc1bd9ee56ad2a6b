-- Request 2026-10: the checks of the calls, and what each answers. Assumes nothing.
use Rattle.location.specs.declared.Section.{Section}
use Rattle.checks.specs.declared.Refusal.{Refusal}
use Rattle.std.specs.Prelude.{ℕ, ◌+◌, ◌<◌, ◌≤◌, ◌≡◌, true, List, [], ◌∷◌, length, get_or, leb, ltb, Option, Some, None, Ok, Err, Result}
use Rattle.std.specs.Borrow.{Bor}
use Rattle.words.specs.Limits.{most_marks}
use Rattle.checks.specs.declared.Fault.TheVariants as faults
use Rattle.checks.specs.Checks.{Check, Clear, first_refusal, at_when, Verdict, passed, refused}
use Rattle.checks.specs.Outcome.{Outcome, written, sent_back, fitted, if_passed, row_after}
use Rattle.station.specs.Station.{station_of}
use Rattle.order.specs.Checks.{all_checks}
use Rattle.drawing.specs.Drawing.{Drawing, points_at}
use Rattle.drawing.specs.Reading.{drawing_in}
use Rattle.validation.specs.Layout.{is_cable_at}
use Rattle.validation.specs.Outcome.{Accepted, sheet_verdict}
use Rattle.bounds.specs.declared.Bounds.{Bounds}
use Rattle.bounds.specs.Boxes.{Smallest}
use Rattle.location.specs.declared.Hit.{Hit}
use Rattle.location.specs.Hits.{mark_spot, word_to, hit_words}
use Rattle.location.specs.Lying.{Lies}
use Rattle.location.specs.Selection.{own_start, own_count, PartOf, cable_box}

-- The checks

-- the place of a refusal, whatever its number
abbrev pub place_in : Verdict → Option ℕ
place_in (Ok u) = None
place_in (Err r) = Some r.place

-- '21, more than 64 marks, .. place their number'
abbrev pub too_many_marks : List ℕ → Check
too_many_marks marks = record { fault = faults.TooManyMarks; finds = λ list. at_when (ltb most_marks (length marks)) (length marks) }

-- '22, a list or sheet that 2026-09 would send back, place as given there'
abbrev pub not_accepted : List ℕ → Check
not_accepted sheet = record { fault = faults.SheetRefused; finds = λ list. place_in (sheet_verdict list sheet) }

-- '23, a cable line of m or more, .. place that line'
abbrev pub no_such_line : ℕ → Check
no_such_line line = record { fault = faults.NoSuchLine; finds = λ list. at_when (leb (length (station_of list).cables) line) line }

-- of marks: 21 'tested first'
unfoldable pub mark_checks : List ℕ → List ℕ → List Check
mark_checks sheet marks = too_many_marks marks ∷ not_accepted sheet ∷ []

-- of a chosen cable: 23 'tested last'
unfoldable pub cable_checks : List ℕ → ℕ → List Check
cable_checks sheet line = not_accepted sheet ∷ no_such_line line ∷ []

-- Marks

-- the answers for a list, a sheet, a row of marks and a length of the row for the answers, which gets 11 where it is shorter than the marks
unfoldable pub locate_outcome : List ℕ → List ℕ → List ℕ → ℕ → Outcome ℕ Unit
locate_outcome list sheet marks room = if_passed (first_refusal (mark_checks sheet marks) list) (fitted (hit_words (station_of list) sheet marks) tt room)

-- the answer that an outcome asks for
abbrev pub verdict_to : Outcome ℕ Unit → Verdict
verdict_to (written words result) = passed
verdict_to (sent_back check place) = refused check place

-- the drawing that a sheet is accepted as
abbrev pub drawing_of : {list sheet : List ℕ} → Accepted list sheet → Drawing
drawing_of {list} {sheet} accepted = drawing_in (station_of list).parts accepted.ends sheet

-- A call, with what stood in the row for the answers before and after. Where it passes, the sheet is accepted, and each word of an answer
-- names what lies at its mark.
pub record Locates (list sheet marks before after : List ℕ) (answer : Verdict) : Type 0 where
  pub answers : answer ≡ verdict_to (locate_outcome list sheet marks (length before))
  pub output : after ≡ row_after (locate_outcome list sheet marks (length before)) before
  pub accepted : answer ≡ passed → Clear all_checks list × Accepted list sheet
  pub hits :
      answer ≡ passed → (a : Accepted list sheet) (k : ℕ) → k < length marks
      → (hit : Hit) × (get_or after k 0 ≡ word_to hit) × Lies (drawing_of a) (mark_spot (get_or marks k 0)) hit

-- A cable's own words

-- where a cable's own words stand, or a refusal, which 'gives number and place'
abbrev pub Selected : Type 0
Selected = Result Section Refusal

abbrev pub words_at : ℕ → ℕ → Selected
words_at start count = Ok (record { start = start; count = count })

abbrev pub selected_by : Verdict → Selected → Selected
selected_by (Ok u) words = words
selected_by (Err r) words = refused r.fault r.place

unfoldable pub selected : List ℕ → List ℕ → ℕ → Selected
selected list sheet line =
    selected_by (first_refusal (cable_checks sheet line) list)
    (words_at (own_start (station_of list).parts sheet line) (own_count (station_of list).parts sheet line))

-- 'On a refusal that part is empty'
abbrev pub start_in : Selected → ℕ
start_in (Ok s) = s.start
start_in (Err r) = 0

abbrev pub count_in : Selected → ℕ
count_in (Ok s) = s.count
count_in (Err r) = 0

-- 'a call beside it gives number and place': and where it passes, the words are there, the cable's own first
pub record Selects (list sheet : List ℕ) (line : ℕ) (answer : Selected) : Type 0 where
  pub answers : answer ≡ selected list sheet line
  pub inside : start_in answer + count_in answer ≤ length sheet
  pub own : (start count : ℕ) → answer ≡ words_at start count → is_cable_at line (get_or sheet start 0) ≡ true

-- the part of the lent sheet that is returned
abbrev pub OwnWords : Bor (List ℕ) → Bor (List ℕ) → Bor (List ℕ) → ℕ → Type 0
OwnWords list sheet part line =
    let answer = selected list.now sheet.now line in PartOf sheet part (start_in answer) (count_in answer)

-- The box

-- the box around a cable, or a refusal
abbrev pub Bounded : Type 0
Bounded = Result Bounds Refusal

abbrev pub bounded_by : Verdict → Bounds → Bounded
bounded_by (Ok u) bounds = Ok bounds
bounded_by (Err r) bounds = refused r.fault r.place

unfoldable pub bounded : List ℕ → List ℕ → ℕ → Bounded
bounded list sheet line = bounded_by (first_refusal (cable_checks sheet line) list) (cable_box (station_of list) sheet line)

-- a call: its answer, and that its box 'ends as the smallest that holds all points of that cable'
pub record Encloses (list sheet : List ℕ) (line : ℕ) (answer : Bounded) : Type 0 where
  pub answers : answer ≡ bounded list sheet line
  pub smallest :
      (bounds : Bounds) → answer ≡ Ok bounds → (a : Accepted list sheet)
      → (line < length (station_of list).cables) × Smallest (points_at (drawing_of a) line) bounds
