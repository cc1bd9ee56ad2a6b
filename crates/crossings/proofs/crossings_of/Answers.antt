-- The cables behind a line whose courses cross its course are those that cross its cable. Assumes nothing.
use Rattle.std.proofs.Common.{arith, rules, sym, ◌∙◌}
use borrow.Author.Tests.{tests}
use Rattle.std.proofs.lemmas.Iterator.{YieldsList-from_slice}
use Rattle.std.proofs.lemmas.Iterator.Consumers.{YieldsList-from_filter, count_from_yields_List}
use Rattle.std.proofs.lemmas.List.Sums.{length-filter}
use Rattle.lists.proofs.StdWords.{count_is_count_by}
use Rattle.crossings.proofs.CrossingCounts.{behind, crosses, count_behind}
use Rattle.crossings.proofs.crossings_of.Goals as goal

pub returns : goal.returns
returns c =
    let l = c.args.layout.now in
    let i = c.args.line in
    count_from_yields_List c.filter.result c.count.result c.count.ensures.ran
    (YieldsList-from_filter _ (crosses l i) (YieldsList-from_slice (behind l i) cc) c.filter.ensures.closure (λ x b q k. search (rules, tests)))
    ∙ length-filter (crosses l i) (behind l i) ∙ sym (count_is_count_by (crosses l i) (behind l i))
    ∙ count_behind l (omega arith) i c.requires
