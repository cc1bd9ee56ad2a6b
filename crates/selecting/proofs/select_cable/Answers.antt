-- `selecting::select_cable` meets its contract. Assumes nothing.
use native.Mathlib.Omega.{arith}
use Rattle.order.proofs.Passed.{words_10}
use Rattle.selecting.proofs.Choice.{select_refused, list_clear, select_no_line, start_inside, select_found}
use Rattle.selecting.proofs.select_cable.Goals as goal

pub returns-in-Err : goal.returns-in-Err
returns-in-Err c = select_refused c.check_sheet.ensures _ _ _ c.in-Err.is

pub cable_count-requires : goal.cable_count-requires
cable_count-requires c = words_10 _ (list_clear c.check_sheet.ensures c.in_default.is)

pub returns-then-line-cable_count : goal.returns-then-line-cable_count
returns-then-line-cable_count c = select_no_line c.check_sheet.ensures c.in_default.is c.cable_count.ensures _
    (omega (arith, c.if-line-cable_count.true))

pub offset_bounds-sheet-start : goal.offset_bounds-sheet-start
offset_bounds-sheet-start c = omega (
  arith,
  start_inside c.check_sheet.ensures c.in_default.is c.cable_count.ensures _
      c.if-line-cable_count.false c.place_of-start.ensures,
)

pub bounds-sheet-start : goal.bounds-sheet-start
bounds-sheet-start c = start_inside c.check_sheet.ensures c.in_default.is
    c.cable_count.ensures _ c.if-line-cable_count.false c.place_of-start.ensures

pub returns : goal.returns
returns c = select_found c.check_sheet.ensures c.in_default.is c.cable_count.ensures _
    c.if-line-cable_count.false c.place_of-start.ensures c.second.ensures
