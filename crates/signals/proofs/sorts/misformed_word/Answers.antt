-- A search of the whole row. Assumes nothing.
use Rattle.std.proofs.Common.{rules}
use borrow.Author.Tests.{tests}
use Rattle.lists.proofs.Searches.{found_by_position}
use Rattle.levels.specs.Sorts.{misformed, check17}
use Rattle.signals.proofs.sorts.misformed_word.Goals as goal

pub returns : goal.returns
unfolding check17
returns c = found_by_position 0 misformed c.args.row.now _ _ _ _ c.position.ensures.ran c.iter.ensures.rest (λ x b q k. search (rules, tests))
