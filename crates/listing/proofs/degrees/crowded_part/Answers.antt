-- `listing::degrees::crowded_part` meets its contract: a search over the parts. Assumes nothing.
use Rattle.std.proofs.Common.{rules, ◌≡◌, ◌<◌, ℕ, length, take, ltb, arith, sym, ap, ◌∙◌, ◌+◌}
use borrow.Author.Tests.{tests}
use Rattle.std.proofs.lemmas.List.{length-take-le, get_or-take}
use Rattle.std.proofs.Math.ListN.{get_or}
use Rattle.lists.specs.Search.{seek}
use Rattle.lists.proofs.Filters.{seek_same}
use Rattle.lists.proofs.Searches.{found_by_position}
use Rattle.words.specs.Limits.{most_degree}
use Rattle.station.specs.Station.{station_of, degree}
use Rattle.station.specs.Checks.{check8}
use Rattle.station.proofs.Each.{two_words, parts_between}
use Rattle.station.proofs.Cables.{parts_are}
use Rattle.listing.proofs.degrees.crowded_part.Goals.{After-cables_per_part-counts}
use Rattle.listing.proofs.degrees.crowded_part.Goals as goal

pub part_count-n-requires : goal.part_count-n-requires
part_count-n-requires c = two_words _ 6 c.requires (omega arith)

pub slice_bounds-counts-end : goal.slice_bounds-counts-end
slice_bounds-counts-end c = omega (arith, parts_are c.args.list.now, c.part_count-n.ensures, (parts_between _ 6 c.requires (omega arith)).1)

counted : (c : After-cables_per_part-counts) → length (take c.part_count-n.result c.cables_per_part-counts.result) ≡ c.part_count-n.result
counted c = length-take-le _ _ (slice_bounds-counts-end (goal.at.slice_bounds-counts-end c).After-cables_per_part-counts)

pub slice_bounds-iter-end : goal.slice_bounds-iter-end
slice_bounds-iter-end c = sym (counted (goal.at.slice_bounds-iter-end c).After-cables_per_part-counts)

below : (c : goal.After-position) (p : ℕ) → p < 0 + length (take c.part_count-n.result c.cables_per_part-counts.result) → p < c.part_count-n.result
below c p h = omega (arith, h, counted (goal.at.returns c).After-cables_per_part-counts)

pub returns : goal.returns
unfolding check8
returns c =
    let counts = take c.part_count-n.result c.cables_per_part-counts.result in
    let st = station_of c.args.list.now in
    found_by_position 0 (λ w. ltb most_degree w) counts _ _ _ _ c.position.ensures.ran c.iter.ensures.rest (λ x b q k. search (rules, tests))
    ∙ seek_same (λ p. ltb most_degree (get_or counts p 0)) (λ p. ltb most_degree (degree st.cables p)) 0 (length counts) (λ p l h. ap (ltb most_degree) (get_or-take _ _ _ 0 (below c p h) ∙ c.cables_per_part-counts.ensures p (omega (arith, below c p h, parts_are c.args.list.now, c.part_count-n.ensures, (parts_between _ 6 c.requires (omega arith)).1))))
    ∙ ap (seek (λ p. ltb most_degree (degree st.cables p)) 0) (counted (goal.at.returns c).After-cables_per_part-counts ∙ c.part_count-n.ensures)
