-- A search from 0 on. Assumes nothing.
use Rattle.std.proofs.Common.{rules, length, ap, ◌∙◌, get_or}
use native.Mathlib.Nat.{sub-zero}
use borrow.Author.Tests.{tests}
use Rattle.lists.proofs.Searches.{found_by_find}
use Rattle.lists.specs.Search.{seek}
use Rattle.station.specs.Checks.{misplaced, check2}
use Rattle.listing.proofs.form.misplaced_word.Goals as goal

pub returns : goal.returns
unfolding check2
returns c =
    found_by_find (λ i. misplaced i (get_or c.args.list.now i 0)) _ _ _ _ c.find.ensures.ran (λ x b q k. search (rules, tests))
    ∙ ap (seek (λ i. misplaced i (get_or c.args.list.now i 0)) 0) (sub-zero (length c.args.list.now))
