-- A search of the whole row. Assumes nothing.
use Rattle.std.proofs.Common.{rules}
use borrow.Author.Tests.{tests}
use Rattle.lists.proofs.Searches.{found_by_position}
use Rattle.levels.specs.Sorts.{misnumbered, check18}
use Rattle.signals.proofs.sorts.misnumbered_part.Goals as goal

pub returns : goal.returns
unfolding check18
returns c = found_by_position 0 misnumbered c.args.row.now _ _ _ _ c.position.ensures.ran c.iter.ensures.rest (λ x b q k. search (rules, tests))
