-- `editing::list::list_length` meets its contract. Assumes nothing.
use Rattle.std.proofs.Common.{rules, ◌≡◌, length}
use native.Mathlib.Omega.{arith}
use Rattle.editor.proofs.Rows.{length_is}
use Rattle.editing.proofs.list.list_length.Goals as goal

pub returns-then-is_empty : goal.returns-then-is_empty
returns-then-is_empty c = let none : length c.args.row.now ≡ 0 = search rules in omega (arith, length_is c.args.row.now, none)

pub returns : goal.returns
returns c = omega (arith, length_is c.args.row.now, c.cables_present.ensures, c.min.ensures)
