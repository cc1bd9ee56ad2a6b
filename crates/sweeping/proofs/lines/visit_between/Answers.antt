-- `sweeping::lines::visit_between` meets its contract. Assumes nothing.
use mathlib.Core.Path.{sym, ◌∙◌}
use Rattle.geometry.specs.Spots.{spot_in}
use Rattle.sweeping.proofs.LineSteps.{visited_as, visited_one, visited_none, open_upright, open_elsewhere, open_level, open_other_row}
use Rattle.sweeping.proofs.lines.visit_between.Goals as goal

pub returns-then-p-boards : goal.returns-then-p-boards
returns-then-p-boards c = let a = c.args in
    visited_as (open_level _ (spot_in a.p) (spot_in a.q) c.min.ensures c.max.ensures c.if-p-q.true c.if-p-boards.true) c.visit_columns.ensures

pub returns-else-p-boards : goal.returns-else-p-boards
returns-else-p-boards c = let a = c.args in
    visited_as (open_other_row _ (spot_in a.p) (spot_in a.q) c.if-p-q.true c.if-p-boards.false) (visited_none _)

pub returns-then-lies_between : goal.returns-then-lies_between
returns-then-lies_between c = let a = c.args in
    let v = c.visit.ensures in
    visited_as (open_upright _ (spot_in a.p) (spot_in a.q) c.if-p-q.false (sym c.lies_between.ensures ∙ c.if-lies_between.true))
    (visited_one _ v.row_stays v.alone_after v.pairs_after)

pub returns-else-lies_between : goal.returns-else-lies_between
returns-else-lies_between c = let a = c.args in
    visited_as (open_elsewhere _ (spot_in a.p) (spot_in a.q) c.if-p-q.false (sym c.lies_between.ensures ∙ c.if-lies_between.false)) (visited_none _)
