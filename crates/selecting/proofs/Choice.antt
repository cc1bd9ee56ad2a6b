-- What each call makes of the answers that it is given: of the check of a sheet, the answer for a cable's words; of that answer, the part
-- that is returned, and the answer for its box. Assumes nothing.
use Rattle.checks.specs.declared.Fault.{Fault}
use Rattle.std.specs.Prelude.{Ok, Err}
use Rattle.checks.specs.declared.Fault.TheVariants as faults
use Rattle.checks.specs.Checks.{Clear, passed, Verdict, refused}
use Prim.Native.Nat.{ℕ, ◌+◌, ◌<◌, ◌≤◌}
use native.Mathlib.Omega.{arith}
use mathlib.Core.Path.{◌≡◌, sym, ap, ◌∙◌}
use mathlib.Core.Bool.{true}
use mathlib.Core.List.{List}
use lib.ListN.{length, get_or}
use Rattle.words.specs.Words.{second_of}
use Rattle.station.specs.Station.{station_of}
use Rattle.order.specs.Checks.{all_checks}
use Rattle.validation.specs.Layout.{Follows, cable_place}
use Rattle.validation.specs.Outcome.{Validates}
use Rattle.validation.specs.Directions.{shown}
use Rattle.validation.specs.Rules.{points_read}
use Rattle.directions.specs.Code.{corner_words, CornersOf, Trace, trace_at, points_along}
use Rattle.directions.proofs.Choosing.{AtCable, cable_inside, cable_corners}
use Rattle.drawing.specs.Drawing.{route_points}
use Rattle.std.specs.Result.{IsErrAnd}
use Rattle.checks.specs.declared.Refusal.{Refusal}
use Rattle.location.specs.declared.Section.{Section}
use Rattle.bounds.specs.declared.Bounds.{Bounds}
use Rattle.bounds.specs.Boxes.{box_of}
use Rattle.location.specs.Outcome.{Selected, words_at, Selects, Bounded, Encloses}
use Rattle.location.proofs.Answers.{Given, selected_refuses_22, selected_refuses_23, selected_words, selected_given, bounded_box}
use Rattle.location.proofs.Selecting.{given_passed, given_layout, own_inside, box_forward, refused_alike, selects, encloses}

-- The cable's words, from the check of the sheet

module _ {list sheet : List ℕ} {v : Verdict} (W : Validates list sheet v) where
  pub select_refused :
      (line : ℕ) (check : Fault) (place : ℕ) → v ≡ refused check place → Selects list sheet line (refused faults.SheetRefused place)
  select_refused line check place e =
      selects list sheet line (refused faults.SheetRefused place) (sym (selected_refuses_22 list sheet line check place (sym W.answers ∙ e)))

  module _ (p : v ≡ passed) where
    pub list_clear : Clear all_checks list
    list_clear = (W.accepts p).0

    pub sheet_layout : Follows (station_of list).parts (length (station_of list).cables) sheet
    sheet_layout = (W.accepts p).1.layout

    module _ {m : ℕ} (e : m ≡ length (station_of list).cables) (line : ℕ) where
      pub select_no_line : m ≤ line → Selects list sheet line (refused faults.NoSuchLine line)
      select_no_line h =
          selects list sheet line (refused faults.NoSuchLine line) (sym (selected_refuses_23 list sheet line (sym W.answers ∙ p) (omega arith)))

      module _ (h : line < m) where
        pub is_line : line < length (station_of list).cables
        is_line = omega arith

        given : Given list sheet line
        given = (sym W.answers ∙ p, is_line)

        -- where its word stands
        module _ {start : ℕ} (s : start ≡ cable_place (station_of list).parts sheet line) where
          pub start_inside : start < length sheet
          start_inside = omega (arith, own_inside list sheet line given)

          pub select_found : {k : ℕ} → k ≡ second_of (get_or sheet start 0) → Selects list sheet line (words_at start (1 + k))
          select_found {k} q =
              selects list sheet line (words_at start (1 + k)) (rw (q, s) (sym (selected_words list sheet line given.0 is_line)))

-- The box, from the cable's words

module _ {list sheet : List ℕ} {line : ℕ} {a : Selected} (S : Selects list sheet line a) where
  pub box_refused : (r : Bounded) {e : Refusal} → a ≡ Err e → IsErrAnd r (λ x. x ≡ e) → Encloses list sheet line r
  box_refused (Err x) {e} h s =
      encloses list sheet line (Err x)
      (ap Err s ∙ sym (refused_alike list sheet line e.fault e.place (sym S.answers ∙ h)))
  box_refused (Ok b) h s = absurd s

  module _ {s : Section} (e : a ≡ Ok s) where
    words_given :
        Given list sheet line × (s.start ≡ cable_place (station_of list).parts sheet line)
        × (s.count ≡ 1 + second_of (get_or sheet (cable_place (station_of list).parts sheet line) 0))
    words_given = selected_given list sheet line s.start s.count (sym S.answers ∙ e)

    here : AtCable list sheet s.start line
    here = record { layout = given_layout list sheet line words_given.0; place = words_given.1 }

    -- and its corners stand behind its own word
    pub corners_inside : s.start + 1 + second_of (get_or sheet s.start 0) ≤ length sheet
    corners_inside = cable_inside here words_given.0.1

    module _ {corners : List ℕ} (f : corners ≡ corner_words sheet s.start) where
      pub own_corners : CornersOf list sheet line corners
      own_corners = cable_corners here f (given_passed list sheet line words_given.0) words_given.0.1

      -- the box over what the code reads is the cable's
      pub box_found :
          {t : Trace} → t ≡ trace_at (station_of list) (shown (station_of list) sheet) true line → {bounds : Bounds} → bounds ≡ box_of (points_along t)
          → Encloses list sheet line (Ok bounds)
      unfolding points_read route_points
      box_found g {bounds} r =
          let given = words_given.0 in
          encloses list sheet line (Ok bounds)
          (ap Ok (r ∙ ap (λ (t : Trace). box_of (points_along t)) g ∙ sym (box_forward list sheet line given))
          ∙ sym (bounded_box list sheet line given.0 given.1))
