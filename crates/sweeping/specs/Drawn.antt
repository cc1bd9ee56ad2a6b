-- The drawing that is swept. Assumes nothing.
use Rattle.drawing.specs.Drawing.{Drawing}
use Rattle.sweeping.specs.declared.rows.Sweep.{Sweep}
use Rattle.sweeping.specs.Code.{drawn_in}

abbrev pub drawn : Sweep → Drawing
drawn s = drawn_in s.list.now s.sheet.now s.forward.now s.lines
