-- A search from 1 on. Assumes nothing.
use Rattle.std.proofs.Common.{rules}
use borrow.Author.Tests.{tests}
use Rattle.lists.proofs.Searches.{found_by_find}
use Rattle.station.specs.Checks.{check5}
use Rattle.listing.proofs.parts.outside_word.Goals as goal

pub returns : goal.returns
unfolding check5
returns c = found_by_find _ _ _ _ _ c.find.ensures.ran (λ x b q k. search (rules, tests, c.parts-n.ensures))
