-- `sweeping::check_lines` meets its contract. Assumes nothing.
use mathlib.Core.Path.{◌∙◌}
use Rattle.sweeping.proofs.Judges.{swept_lines}
use Rattle.sweeping.proofs.check_lines.Goals as goal

pub returns : goal.returns
returns c = let z = c.choose_directions-lines in
    let w = c.sweep_rows in
    let b = c.blank-boards.ensures in
    c.judge.ensures
    ∙ rw c.cable_count.ensures
    (swept_lines c.args.list.now c.args.sheet.now z.new.forward z.result w.new.boards.alone w.new.boards.pairs
    c.requires.clear c.requires.follows z.ensures
    (rw (← b.alone_blank) w.ensures.alone_after) (rw (← b.pairs_blank) w.ensures.pairs_after))
