-- `editing::list::store_cable` meets its contract. Assumes nothing.
use native.Mathlib.Omega.{arith}
use mathlib.Core.Path.{refl}
use Rattle.editor.specs.Rows.{present, raised_by}
use Rattle.editor.specs.Operations.{stored}
use Rattle.editing.proofs.list.store_cable.Goals as goal

pub bounds-row-m : goal.bounds-row-m
unfolding present
bounds-row-m c = omega (arith, c.cables-m.ensures, c.requires)

pub overflow_add-m : goal.overflow_add-m
unfolding present
overflow_add-m c = omega (arith, c.cables-m.ensures, c.requires)

pub returns : goal.returns
unfolding stored present raised_by
returns c = rw (c.cable.ensures, c.list_head.ensures, c.parts-n.ensures, c.cables-m.ensures) refl
