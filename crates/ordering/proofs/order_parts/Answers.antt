-- `ordering::order_parts` meets its contract. The loop's invariant is `Ordering`: the parts ranked so far, and the rest of the order from
-- the unranked parts. Assumes nothing.
use mathlib.Core.Path.{◌≡◌, ap, ◌∙◌}
use mathlib.Core.Bool.{Bool, false}
use lib.ListN.{set}
use mathlib.Core.List.{List}
use Rattle.reachability.specs.declared.walk.Walker.{Walker}
use Rattle.ordering.specs.Choices.{chosen_part}
use Rattle.ordering.proofs.PartsByRank.{ordering_start, ordering_next, ordering_end, chosen_below}
use Rattle.ordering.proofs.order_parts.Goals as goal
use Rattle.ordering.proofs.order_parts.Goals.{After-choose-w}
use Rattle.ordering.proofs.order_parts.Goals as goal

-- the chosen part is that of the walker as it was lent
chosen : (c : After-choose-w) → c.choose-w.result.0 ≡ chosen_part c.args.walker.now.list.now c.loop-k.unranked.flags
chosen c = c.choose-w.ensures.value ∙ ap (λ (v : Walker). chosen_part v.list.now c.loop-k.unranked.flags) c.loop-k.invariant.1

pub loop-k-init : goal.loop-k-init
loop-k-init c =
    (ordering_start c.args.walker.now.adjacent.wired c.source-part.ensures.value c.all_but_source-unranked.ensures.flags, c.all_but_source-unranked.ensures.walker)

pub remove-requires : goal.remove-requires
remove-requires c = chosen_below _ _ c.args.walker.now.adjacent.wired (chosen (goal.at.remove-requires c).After-choose-w)

pub loop-k-preserved : goal.loop-k-preserved
loop-k-preserved c = (
  ordering_next c.loop-k.invariant.0 c.parts-k-end.ensures.value c.args.walker.now.adjacent.wired c.loop-k-test.true (chosen (goal.at.loop-k-preserved c).After-choose-w)
      (c.remove.ensures.flags ∙ ap (λ (f : List Bool). set f c.choose-w.result.0 false) c.choose-w.ensures.flags),
  c.remove.ensures.walker ∙ c.choose-w.ensures.walker ∙ c.loop-k.invariant.1,
)

pub returns-clause-by_rank : goal.returns-clause-by_rank
returns-clause-by_rank c = ordering_end c.loop-k.invariant.0 c.parts-k-end.ensures.value c.loop-k-test.false
