-- The drawing of rank k is chosen, and cables and parts stand as it says. Assumes nothing.
use native.Mathlib.Omega.{arith}
use Prim.Native.Nat.{ℕ, ◌<◌}
use mathlib.Core.Path.{sym, subst}
use lib.Seq.{get_or-take}
use Rattle.ranking.specs.Arrays.{graph_in}
use Rattle.ranking.proofs.GraphArrays.{graph_fits, lines_count}
use Rattle.placement.specs.Placements.{Opens}
use Rattle.placement.proofs.Standing.{StandsAt, has_drawing, stands, count_small, cable_small, part_small, room, lent, opens, columns_stand}
use Rattle.placement.proofs.placing.add_rank.Goals as goal
use Rattle.placement.proofs.placing.add_rank.Goals.{After-placement_of-placement}

pub placement_of-placement-requires : goal.placement_of-placement-requires
placement_of-placement-requires c =
    has_drawing (graph_fits c.args.graph.now) c.requires.columns_of c.incoming_cables-ins.ensures c.outgoing_cables-outs.ensures c.requires.k_lt_parts

stood : (c : After-placement_of-placement) → StandsAt (graph_in c.args.graph.now) c.args.k.0 c.placement_of-placement.result
stood c = stands (graph_fits c.args.graph.now) c.requires.columns_of c.incoming_cables-ins.ensures c.outgoing_cables-outs.ensures c.placement_of-placement.ensures

pub place_cables-requires : goal.place_cables-requires
place_cables-requires c =
    let g = c.args.graph.now in
    let v = graph_fits g in
    let s = c.requires.columns_of in
    let q = stood (goal.at.place_cables-requires c).After-placement_of-placement in
    record {
      placement_fits = room v s c.requires.k_lt_parts q;
      by_index = λ i b.
          let h : i < g.cables = omega (arith, lent v s) in
          omega (arith, get_or-take g.cables c.args.columns.now.cables i 0 h, cable_small v s c.requires.k_lt_parts i h);
      opens = subst (λ (n : ℕ). Opens n c.outgoing_cables-outs.result c.placement_of-placement.result) (sym (lent v s))
          (opens v c.args.k.0 q c.outgoing_cables-outs.ensures (lines_count g));
    }

pub place_part-requires-clause-placement_fits : goal.place_part-requires-clause-placement_fits
place_part-requires-clause-placement_fits c =
    room (graph_fits c.args.graph.now) c.requires.columns_of c.requires.k_lt_parts (stood (goal.at.place_part-requires-clause-placement_fits c).After-placement_of-placement)

pub place_part-requires-clause-by_index : goal.place_part-requires-clause-by_index
place_part-requires-clause-by_index c = λ i b. omega (arith, part_small (graph_fits c.args.graph.now) c.requires.columns_of c.requires.k_lt_parts i b)

pub overflow_add-columns-2 : goal.overflow_add-columns-2
overflow_add-columns-2 c =
    let v = graph_fits c.args.graph.now in
    let s = c.requires.columns_of in
    let r = room v s c.requires.k_lt_parts (stood (goal.at.overflow_add-columns-2 c).After-placement_of-placement) in
    omega (arith, count_small v s c.requires.k_lt_parts, r.left, r.right)

pub returns : goal.returns
returns c =
    let v = graph_fits c.args.graph.now in
    columns_stand v c.args.k.0 (stood (goal.at.returns c).After-placement_of-placement) c.outgoing_cables-outs.ensures _
    c.requires.columns_of c.place_cables.auto.columns c.place_cables.ensures c.place_part.ensures
