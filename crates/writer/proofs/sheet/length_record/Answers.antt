-- The cable's run, which fits its field. Assumes nothing.
use native.Mathlib.Omega.{arith}
use mathlib.Core.Path.{ap, ◌∙◌}
use Rattle.words.specs.Words.{cable_length_word}
use Rattle.placement.proofs.Layouts.{length_small}
use Rattle.writer.proofs.Layouts.{run_is}
use Rattle.writer.proofs.sheet.length_record.Goals as goal

pub line_length-steps-requires : goal.line_length-steps-requires
line_length-steps-requires c = length_small c.args.layout.now c.args.line c.requires

pub cable_length-requires : goal.cable_length-requires
cable_length-requires c = omega (arith, c.line_length-steps.ensures, (length_small c.args.layout.now c.args.line c.requires).length)

pub returns : goal.returns
returns c =
    let e = c.line_length-steps.ensures ∙ run_is c.args.layout.now c.args.line c.requires in
    record { word = c.cable_length.ensures ∙ ap (cable_length_word c.args.line) e; number = c.from.ensures ∙ e }
