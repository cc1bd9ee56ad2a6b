-- On an accepted sheet each cable has its direction, and its line is read in the direction of its flag. Assumes nothing.
use Prim.Native.Nat.{ℕ, ◌<◌, ◌≤◌}
use native.Mathlib.Omega.{arith}
use native.Mathlib.Decide.{dec_lt}
use mathlib.Core.Path.{◌≡◌, sym, ap, ◌∙◌, subst}
use mathlib.Core.Bool.{Bool, true, false, true≢false}
use mathlib.Core.List.{List}
use lib.ListN.{length, get_or}
use borrow.Author.Tests.{not-false}
use Rattle.checks.specs.Checks.{Clear, passed}
use Rattle.station.specs.Station.{Station, station_of}
use Rattle.order.specs.Checks.{all_checks}
use Rattle.geometry.specs.Spots.{Spot}
use Rattle.drawing.specs.Drawing.{Drawing}
use Rattle.validation.specs.Alone.{on_line}
use Rattle.validation.specs.Directions.{shown}
use Rattle.validation.specs.Layout.{Follows}
use Rattle.validation.specs.Outcome.{sheet_verdict}
use Rattle.validation.specs.Rules.{points_read, right_read, wrong_alone, points_right}
use Rattle.validation.proofs.Accepting.{rules_alone, passed_all}
use Rattle.validation.proofs.Following.{layout_e}
use Rattle.sweep.specs.Judged.{facing, Faced}
use Rattle.sweep.proofs.SweptSheet.{wrong_faced, unsteady_wrong}
use Rattle.location.proofs.SameLine.{right_line}
use Rattle.locating.specs.Code.{Readable}

-- A sheet that passes

module _ (list sheet : List ℕ) (pass : sheet_verdict list sheet ≡ passed) where
  abbrev st : Station
  st = station_of list

  abbrev d : Drawing
  d = shown st sheet

  pub list_passes : Clear all_checks list
  list_passes = (passed_all list sheet pass).0

  pub sheet_follows : Follows (station_of list).parts (length (station_of list).cables) sheet
  sheet_follows = layout_e st.parts (length st.cables) sheet (passed_all list sheet pass).1

  not_wrong : (i : ℕ) → i < length st.cables → wrong_alone st d i ≡ false
  not_wrong = rules_alone st sheet (passed_all list sheet pass).2

  -- each cable is right in the direction that it faces
  faced_right : (i : ℕ) → i < length st.cables → right_read st d (facing st d i) i ≡ true
  faced_right i l = not-false (right_read st d (facing st d i) i) (sym (wrong_faced st d i) ∙ not_wrong i l)

  -- every cable has its direction
  all_faced : {forward : List Bool} {lines : ℕ} → Faced (station_of list) sheet forward lines → length (station_of list).cables ≤ lines
  all_faced {forward} {lines} F = go (dec_lt lines (length st.cables))
    where
      go : Dec (lines < length st.cables) → length st.cables ≤ lines
      go (yes l) = absurd (true≢false (sym (unsteady_wrong st d lines (F.next l)) ∙ not_wrong lines l))
      go (no l) = omega arith

  pub readable :
      {forward : List Bool} {lines : ℕ} → length (station_of list).cables ≤ length forward → Faced (station_of list) sheet forward lines
      → Readable list sheet forward
  readable {forward} {lines} room F =
      let e : lines ≡ length st.cables = omega (arith, F.few, all_faced F) in
      record { passed = pass; flags = room; faced = subst (Faced st sheet forward) e F }

-- the line of the cable, read in the direction of its flag
pub flag_line :
    {list sheet : List ℕ} {forward : List Bool} → Readable list sheet forward → (i : ℕ) → i < length (station_of list).cables → (s : Spot)
    → on_line (points_read (station_of list) (shown (station_of list) sheet) (get_or forward i false) i) s
    ≡ on_line (points_right (station_of list) (shown (station_of list) sheet) i) s
flag_line {list} {sheet} {forward} R i l s =
    let st = station_of list in
    let d = shown st sheet in
    let e = R.faced.flags i l in
    right_line st d (get_or forward i false) i (ap (λ (f : Bool). right_read st d f i) e ∙ faced_right list sheet R.passed i l) s
