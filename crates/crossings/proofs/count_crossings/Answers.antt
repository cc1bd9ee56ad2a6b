-- The counts of all lines, added, are all crossings. Assumes nothing.
use Rattle.std.proofs.Common.{◌^◌, arith, rules, sym, ◌∙◌}
use borrow.Author.Tests.{tests}
use Rattle.std.specs.List.{range_with_len}
use Rattle.std.proofs.lemmas.Iterator.{YieldsList-from_range, YieldsList-from_map}
use Rattle.std.proofs.lemmas.Iterator.Consumers.{sum_by_from_yields_List, fits_by_from_yields_list}
use Rattle.placement.specs.Arrays.{layout_in}
use Rattle.placement.proofs.Layouts.{route_count}
use Rattle.crossings.proofs.CrossingCounts.{crossed, crossed_all, crossed_fits}
use Rattle.crossings.proofs.count_crossings.Goals as goal

pub sum-requires-clause-fits : goal.sum-requires-clause-fits
sum-requires-clause-fits c =
    let d = layout_in c.args.layout.now in
    let n = c.args.layout.now.graph.cables in
    fits_by_from_yields_list (crossed d) (range_with_len 0 n) c.map.result (2 ^ 64)
    (YieldsList-from_map _ (crossed d) (YieldsList-from_range 0 n n c.map.ensures.source (omega arith)) c.map.ensures.closure (λ x r q k. search (rules, tests)))
    (crossed_fits d n (sym (route_count c.args.layout.now)) c.args.layout.now.graph.is_ranked.few_cables)

pub returns : goal.returns
returns c =
    let d = layout_in c.args.layout.now in
    let n = c.args.layout.now.graph.cables in
    sum_by_from_yields_List (crossed d) (range_with_len 0 n) c.map.result c.sum.result c.sum.ensures.ran
    (YieldsList-from_map _ (crossed d) (YieldsList-from_range 0 n n c.map.ensures.source (omega arith)) c.map.ensures.closure (λ x r q k. search (rules, tests)))
    ∙ crossed_all d n (sym (route_count c.args.layout.now))
