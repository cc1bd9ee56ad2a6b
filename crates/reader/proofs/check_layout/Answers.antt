-- `reader::check_layout` meets its contract. Assumes nothing.
use mathlib.Core.Path.{sym, ◌∙◌}
use native.Mathlib.Omega.{arith}
use Rattle.order.proofs.Passed.{list_wired}
use Rattle.reader.proofs.Faults.{placed_inside, points_inside, parts_read, layout_head, layout_part, layout_cables}
use Rattle.reader.proofs.check_layout.Goals as goal

pub returns-then-no_head : goal.returns-then-no_head
returns-then-no_head c = layout_head _ _ _ (sym c.no_head.ensures ∙ c.if-no_head.true)

pub points_fault-requires : goal.points_fault-requires
points_fault-requires c = let some = placed_inside _ _ _ (sym c.no_head.ensures ∙ c.if-no_head.false) in record {
  sheet_nonzero = some;
  at_in_bounds = omega (arith, some);
  count_bound = omega (arith, c.part_count-n.ensures, (list_wired _ c.requires).most);
}

pub returns-in-Some : goal.returns-in-Some
returns-in-Some c = layout_part _ _ _ (sym c.no_head.ensures ∙ c.if-no_head.false) _
    (parts_read c.args.sheet.now (sym c.part_count-n.ensures) (sym c.points_fault.ensures ∙ c.in-Some.is))

pub overflow_add-n : goal.overflow_add-n
overflow_add-n c = omega (arith, c.part_count-n.ensures, (list_wired _ c.requires).most)

pub cables_fault-requires : goal.cables_fault-requires
cables_fault-requires c = let some = placed_inside _ _ _ (sym c.no_head.ensures ∙ c.if-no_head.false) in record {
  sheet_nonzero = some;
  first_in_bounds = points_inside _ _ _ 1 _ (omega (arith, some)) (sym c.points_fault.ensures ∙ c.in_default.is);
}

pub returns : goal.returns
returns c = c.cables_fault.ensures
    ∙ rw (c.cable_count.ensures, c.part_count-n.ensures)
    (layout_cables _ _ _ (sym c.no_head.ensures ∙ c.if-no_head.false)
    (parts_read c.args.sheet.now (sym c.part_count-n.ensures) (sym c.points_fault.ensures ∙ c.in_default.is)))
