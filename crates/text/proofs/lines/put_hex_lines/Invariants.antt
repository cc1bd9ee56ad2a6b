-- The lines of the words before i are stored. Assumes nothing.
use Rattle.std.proofs.Common.{length, ◌-◌, ◌≤◌, take}
use Rattle.lists.specs.Stores.{Stored}
use Rattle.text.specs.Lines.{hex_lines}
use Rattle.text.proofs.lines.put_hex_lines.Given as goal

abbrev pub invariant-loop-word : goal.invariant-loop-word
invariant-loop-word l = (l.word-index ≤ length l.words) × Stored l.initial.out l.at (hex_lines (take l.word-index l.words)) l.out l.next

abbrev pub decreases-loop-word : goal.decreases-loop-word
decreases-loop-word l = length l.words - l.word-index
