-- `reader::points_fault` meets its contract. Assumes nothing.
use Rattle.std.proofs.Common.{rules}
use native.Mathlib.Omega.{arith}
use mathlib.Core.Path.{ap, ◌∙◌}
use borrow.Author.Tests.{tests}
use Rattle.lists.specs.Search.{seek}
use Rattle.lists.proofs.Searches.{found_by_find}
use Rattle.validation.specs.Layout.{points_fault}
use Rattle.reader.proofs.points_fault.Goals as goal

pub returns : goal.returns
unfolding points_fault
returns c = found_by_find _ _ _ _ _ c.find.ensures.ran (λ x b q k. search (rules, tests)) ∙ ap (seek _ c.args.at) (omega arith)
