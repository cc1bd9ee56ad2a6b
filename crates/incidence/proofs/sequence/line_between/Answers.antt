-- The first line that joins the two ranks, or the count of lines. Assumes nothing.
use Rattle.std.proofs.Common.{rules, arith, ◌-◌, ◌≡◌, ℕ, ◌&&◌}
use borrow.Author.Tests.{tests}
use lib.ListN.{length, get_or}
use lib.Dec.{eqb}
use Rattle.lists.proofs.Searches.{found_by_find}
use Rattle.ranking.proofs.GraphArrays.{no_span}
use Rattle.incidence.proofs.LineSearch.{between_found}
use Rattle.incidence.proofs.sequence.line_between.Goals as goal

pub returns : goal.returns
returns c =
    let cables = c.lines-cables.result.now in
    let joins = λ (i : ℕ). eqb (get_or cables i no_span).lower.0 c.args.low.0 && eqb (get_or cables i no_span).upper.0 c.args.high.0 in
    let n : length cables - 0 ≡ length cables = omega arith in
    between_found c.args.graph.now _ _ c.lines-cables.ensures c.unwrap_or.ensures
    (rw n at (found_by_find joins _ _ _ _ c.find.ensures.ran (λ x b q k. search (rules, tests))))
