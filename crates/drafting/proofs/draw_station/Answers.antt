-- The stages' values in a row are the sheet of the list's station, or its numbers are too large, or its words too many. Assumes nothing.
use Rattle.std.specs.Prelude.{None}
use native.Mathlib.Omega.{arith}
use borrow.Author.Tests.{ltb-true, ltb-false}
use mathlib.Core.Path.{◌≡◌, ap, ◌∙◌}
use Prim.Native.Nat.{◌≤◌}
use lib.ListN.{length}
use lib.Dec.{ltb}
use Rattle.station.specs.Station.{station_of}
use Rattle.checks.specs.Checks.{Clear}
use Rattle.ranking.specs.Arrays.{graph_in}
use Rattle.order.specs.Checks.{all_checks}
use Rattle.order.specs.Orientation.{graph_of}
use Rattle.drawing.specs.Spacing.{spaced, check13, check14}
use Rattle.hookup.specs.Checks.{call_checks}
use Rattle.hookup.specs.Drawing.{drawing}
use Rattle.hookup.proofs.CallChecks.{list_clear, discount_clear, spacing_clear, call_clear}
use Rattle.drafting.proofs.Refusals.{found_nothing, failed, drew_14, drew_11}
use Rattle.drafting.proofs.Stages.{words_are, fourteen_is, writable, crossings_counted, inverse, sheet_is}
use Rattle.hookup.proofs.Answers.{drew_sheet}
use Rattle.drafting.proofs.draw_station.Goals as goal
use Rattle.drafting.proofs.draw_station.Goals.{After-lay_out-layout, After-check14, In_ok-refuse, In_ok-refuse-2, Start}

-- the list passed checks 1 to 10, and the spacing 13
clear : (s : Start) → Clear all_checks s.args.list.now
clear s = list_clear s.args.options s.args.list.now s.requires.clear

good : (s : Start) → check13 s.args.options.spacing ≡ None
good s = spacing_clear s.args.options s.args.list.now s.requires.clear

-- the layout is of the list's cables in ranks
graph_is : (l : After-lay_out-layout) → graph_in l.lay_out-layout.result.graph ≡ graph_of (station_of l.args.list.now)
graph_is l = ap graph_in l.lay_out-layout.ensures ∙ l.rank_cables.ensures.result_value

-- what the code tests of its head is check 14
fourteen : (c : After-check14) → c.check14.result ≡ check14 (spaced c.args.options.spacing (drawing (station_of c.args.list.now)))
fourteen c =
    let l = c.args.list.now in
    c.check14.ensures
    ∙ fourteen_is l (list_clear c.args.options l c.requires.clear) c.lay_out-layout.result.graph (ap graph_in c.lay_out-layout.ensures ∙ c.rank_cables.ensures.result_value)
    c.args.options.spacing (spacing_clear c.args.options l c.requires.clear)

none_14 : (c : In_ok-refuse) → check14 (spaced c.args.options.spacing (drawing (station_of c.args.list.now))) ≡ None
none_14 c =
    let l = c.args.list.now in
    found_nothing _ _
    (c.check14.ensures
    ∙ fourteen_is l (list_clear c.args.options l c.requires.clear) c.lay_out-layout.result.graph (ap graph_in c.lay_out-layout.ensures ∙ c.rank_cables.ensures.result_value)
    c.args.options.spacing (spacing_clear c.args.options l c.requires.clear))
    c.in_ok-refuse.ensures

passed : (c : In_ok-refuse) → Clear (call_checks c.args.options) c.args.list.now
passed c = call_clear c.args.options _ c.requires.clear (none_14 c)

pub rank_cables-requires-clause-clear : goal.rank_cables-requires-clause-clear
rank_cables-requires-clause-clear c = clear (goal.at.rank_cables-requires-clause-clear c).Start

pub check14-requires : goal.check14-requires
check14-requires c = good (goal.at.check14-requires c).Start

pub returns-in_err-refuse : goal.returns-in_err-refuse
returns-in_err-refuse c =
    drew_14 _ _ _ _ c.from_residual.ensures.1 c.requires.clear (fourteen (goal.at.returns-in_err-refuse c).After-check14) c.in_err-refuse.ensures

pub returns-in_err-refuse-2 : goal.returns-in_err-refuse-2
returns-in_err-refuse-2 c =
    let j = goal.at.returns-in_err-refuse-2 c in
    let spacing = c.args.options.spacing in
    let words = c.count_quoted-words.result in
    drew_11 _ _ _ _ c.from_residual-in_err-refuse-2.ensures.1 (passed j.In_ok-refuse) (ltb (length c.args.sheet.now) words) words
    (λ b. ltb-true _ _ b)
    (c.count_quoted-words.ensures spacing
    ∙ words_are _ (clear j.Start) c.lay_out-layout.result.graph (graph_is j.After-lay_out-layout) spacing c.args.options.discount)
    c.then_some.ensures c.in_err-refuse-2.ensures

-- the words fit the output
fits : (c : In_ok-refuse-2) → c.count_quoted-words.result ≤ length c.args.sheet.now
fits c =
    let b = failed (ltb (length c.args.sheet.now) c.count_quoted-words.result) _ (found_nothing _ _ c.then_some.ensures c.in_ok-refuse-2.ensures) in
    ltb-false _ _ b

pub put_quoted-requires-clause-inverse : goal.put_quoted-requires-clause-inverse
put_quoted-requires-clause-inverse c =
    let j = goal.at.put_quoted-requires-clause-inverse c in
    inverse _ (clear j.Start) c.lay_out-layout.result.graph (graph_is j.After-lay_out-layout) c.requires.ranking_of

pub put_quoted-requires-clause-fits : goal.put_quoted-requires-clause-fits
put_quoted-requires-clause-fits c =
    let j = goal.at.put_quoted-requires-clause-fits c in
    writable _ (clear j.Start) c.lay_out-layout.result.graph (graph_is j.After-lay_out-layout) c.args.options.spacing (good j.Start) (none_14 j.In_ok-refuse)

pub put_quoted-requires-clause-discount_value : goal.put_quoted-requires-clause-discount_value
put_quoted-requires-clause-discount_value c = discount_clear c.args.options c.args.list.now c.requires.clear

pub put_quoted-requires-clause-layout_in_bounds : goal.put_quoted-requires-clause-layout_in_bounds
put_quoted-requires-clause-layout_in_bounds c =
    omega (arith, c.count_quoted-words.ensures c.args.options.spacing, fits (goal.at.put_quoted-requires-clause-layout_in_bounds c).In_ok-refuse-2)

pub returns : goal.returns
returns c =
    let j = goal.at.returns c in
    let g = c.lay_out-layout.result.graph in
    let spacing = c.args.options.spacing in
    let discount = c.args.options.discount in
    let same = graph_is j.After-lay_out-layout in
    drew_sheet c.args.options _ _ _ _ _ _ (passed j.In_ok-refuse) (sheet_is _ (clear j.Start) g same c.requires.ranking_of spacing discount)
    (omega (arith, c.count_quoted-words.ensures spacing, words_are c.args.list.now (clear j.Start) g same spacing discount, fits j.In_ok-refuse-2))
    c.put_quoted.ensures (c.count_crossings.ensures ∙ crossings_counted _ (clear j.Start) g same)
