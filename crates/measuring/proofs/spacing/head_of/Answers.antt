-- The grid's width and height over the layout's own numbers, each as it is spaced, and the margin. Assumes nothing.
use Prim.Native.Nat.{ℕ, ◌+◌, ◌-◌}
use native.Mathlib.Omega.{arith}
use mathlib.Core.Path.{sym, ap, ◌∙◌}
use Rattle.drawing.specs.Spacing.{column_at, row_at, spaced}
use Rattle.drawing.proofs.Spaced.{passed_13, column_small, row_small}
use Rattle.placement.proofs.Layouts.{parts_few, bottom_small, top_small, width_is, height_is}
use Rattle.measuring.proofs.spacing.head_of.Goals as goal

pub overflow_sub-width : goal.overflow_sub-width
overflow_sub-width c = parts_few c.args.layout.now

pub overflow_add-height : goal.overflow_add-height
overflow_add-height c = omega (arith, bottom_small c.args.layout.now)

pub overflow_add-height-2 : goal.overflow_add-height-2
overflow_add-height-2 c = omega (arith, bottom_small c.args.layout.now, top_small c.args.layout.now)

pub overflow_add-result : goal.overflow_add-result
overflow_add-result c = let P = passed_13 c.args.spacing c.requires in
    let l = c.args.layout.now in
    omega (arith, c.column_at.ensures, column_small c.args.spacing P (l.graph.cables + 1 - l.graph.parts), P.margin_most, l.graph.is_ranked.few_cables)

pub overflow_add-result-2 : goal.overflow_add-result-2
overflow_add-result-2 c = let P = passed_13 c.args.spacing c.requires in
    let l = c.args.layout.now in
    omega (
      arith,
      c.row_at.ensures,
      row_small c.args.spacing P (l.graph.parts - 1 + l.bottom_rows + l.top_rows),
      P.margin_most,
      l.graph.is_ranked.few_parts,
      bottom_small l,
      top_small l,
    )

pub returns : goal.returns
unfolding spaced
returns c = record {
  width = ap (λ (x : ℕ). x + c.args.spacing.margin) (c.column_at.ensures ∙ ap (column_at c.args.spacing) (sym (width_is c.args.layout.now)));
  height = ap (λ (y : ℕ). y + c.args.spacing.margin) (c.row_at.ensures ∙ ap (row_at c.args.spacing) (sym (height_is c.args.layout.now)));
}
