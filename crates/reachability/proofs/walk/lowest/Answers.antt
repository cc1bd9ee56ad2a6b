-- `reachability::walk::lowest` meets its contract. Assumes nothing.
use Rattle.std.proofs.Common.{rules}
use native.Mathlib.Omega.{arith}
use mathlib.Core.Path.{ap, ◌∙◌}
use mathlib.Core.Bool.{false}
use borrow.Author.Tests.{tests}
use lib.Seq.{get_or-take, length-take-le}
use Rattle.lists.specs.Search.{seek}
use Rattle.lists.proofs.Searches.{found_by_position}
use Rattle.lists.proofs.Filters.{seek_same}
use Rattle.reachability.proofs.walk.lowest.Goals as goal

pub returns : goal.returns
returns c =
    found_by_position false (λ inside. inside) _ _ _ _ _ c.position.ensures.ran c.iter.ensures.rest (λ x b q k. search (rules, tests))
    ∙ ap (seek _ 0) (length-take-le c.args.n c.args.set.now (omega arith))
    ∙ seek_same _ _ 0 c.args.n (λ j a b. get_or-take c.args.n c.args.set.now j false (omega arith))
