-- `locating::hits::part_at` meets its contract. Assumes nothing.
use Rattle.std.proofs.Common.{rules}
use mathlib.Core.Path.{◌∙◌}
use borrow.Author.Tests.{tests}
use Rattle.geometry.specs.Spots.{spot_in, same_spot}
use Rattle.drawing.specs.Reading.{word_spot}
use Rattle.lists.proofs.Searches.{found_by_position}
use Rattle.locating.proofs.Naming.{parts_looked}
use Rattle.locating.proofs.hits.part_at.Goals as goal

pub returns : goal.returns
returns c =
    found_by_position 0 (λ w. same_spot (word_spot w) (spot_in c.args.spot)) _ _ _ _ _ c.position.ensures.ran c.iter.ensures.rest
    (λ x b q k. search (rules, tests))
    ∙ parts_looked c.args.parts.now (spot_in c.args.spot)
