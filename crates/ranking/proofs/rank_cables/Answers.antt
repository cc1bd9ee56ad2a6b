-- `ranking::rank_cables` meets its contract. Below line i, the arrays have the ranks of each cable's two parts. Assumes nothing.
use Prim.Native.Nat.{◌<◌, ◌≤◌}
use native.Mathlib.Omega.{arith}
use borrow.Author.Rules.{rules}
use lib.ListN.{length}
use Rattle.words.specs.Limits.{most_cables}
use Rattle.station.proofs.Cables.{line_word}
use Rattle.station.specs.Station.{station_of}
use mathlib.Core.Path.{◌≡◌, ◌∙◌, sym}
use Rattle.order.specs.Orientation.{graph_of}
use Rattle.order.proofs.Ranks.{graph_size}
use Rattle.order.proofs.Passed.{lines_most, words_10, list_ranked, list_wired}
use Rattle.ranking.specs.Spans.{graph_by}
use Rattle.ranking.proofs.GraphArrays.{is_ranked}
use Rattle.ranking.proofs.LineRanks.{blank, length_blank, lower_blank, upper_blank, lower_filled, upper_filled, one_below, other_below, lower_line, upper_line, lines_ranked}
use Rattle.ranking.proofs.rank_cables.Goals as goal
use Rattle.ranking.proofs.rank_cables.Goals.{In-loop-i, After-part_count}

line : (c : In-loop-i) → c.loop-i.i < length (station_of c.args.list.now).cables
line c = omega (arith, c.loop-i-test.true, c.cable_count-cables.ensures)

room : (c : In-loop-i) → c.loop-i.i < most_cables
room c = omega (arith, (line c), lines_most _ c.requires.clear)

place : (c : In-loop-i) → c.loop-i.i < length blank
place c = omega (arith, (room c), length_blank)

pub cable_count-cables-requires : goal.cable_count-cables-requires
cable_count-cables-requires c = words_10 _ c.requires.clear

pub loop-i-init : goal.loop-i-init
loop-i-init c = (omega arith, lower_blank _ _ c.of-none.ensures, upper_blank _ _ c.of-none.ensures)

pub one_part-requires : goal.one_part-requires
one_part-requires c = line_word _ _ (line (goal.at.one_part-requires c).In-loop-i)

pub bounds-ranking-one_part : goal.bounds-ranking-one_part
bounds-ranking-one_part c = one_below _ c.requires.clear _ c.one_part.ensures

pub other_part-requires : goal.other_part-requires
other_part-requires c = line_word _ _ (line (goal.at.other_part-requires c).In-loop-i)

pub bounds-ranking-other_part : goal.bounds-ranking-other_part
bounds-ranking-other_part c = other_below _ c.requires.clear _ c.other_part.ensures

pub offset_bounds-spans-i : goal.offset_bounds-spans-i
offset_bounds-spans-i c = omega (arith, room (goal.at.offset_bounds-spans-i c).In-loop-i)

pub bounds-spans-i : goal.bounds-spans-i
bounds-spans-i c = room (goal.at.bounds-spans-i c).In-loop-i

pub loop-i-preserved : goal.loop-i-preserved
loop-i-preserved c = let l = c.loop-i in (
  omega arith,
  lower_filled _ _ _ (place (goal.at.loop-i-preserved c).In-loop-i) (lower_line _ c.requires.clear c.requires.ranking_of l.i (line (goal.at.loop-i-preserved c).In-loop-i) c.one_part.ensures c.other_part.ensures (search rules)) l.invariant.1,
  upper_filled _ _ _ (place (goal.at.loop-i-preserved c).In-loop-i) (upper_line _ c.requires.clear c.requires.ranking_of l.i (line (goal.at.loop-i-preserved c).In-loop-i) c.one_part.ensures c.other_part.ensures (search rules)) l.invariant.2,
)

pub part_count-requires : goal.part_count-requires
part_count-requires c = words_10 _ c.requires.clear

same : (c : After-part_count) → graph_by c.part_count.result c.cable_count-cables.result c.loop-i.spans ≡ graph_of (station_of c.args.list.now)
same c = lines_ranked _ c.requires.clear c.part_count.ensures c.cable_count-cables.ensures c.loop-i-test.false c.loop-i.invariant.1 c.loop-i.invariant.2

few : (c : After-part_count) → c.cable_count-cables.result ≤ most_cables
few c = omega (arith, c.cable_count-cables.ensures, lines_most _ c.requires.clear)

pub invariant_of-result : goal.invariant_of-result
invariant_of-result c =
    let l = c.args.list.now in
    let W = list_wired l c.requires.clear in
    let n = c.cable_count-cables.ensures ∙ sym (graph_size (station_of l)) in
    record {
      is_ranked = is_ranked _ _ _ (same c) (list_ranked l c.requires.clear) n (few c) (omega (arith, c.part_count.ensures, W.least)) (omega (arith, c.part_count.ensures, W.most));
    }

pub returns : goal.returns
returns c = record {
  result_value = same (goal.at.returns c).After-part_count;
  cables_le_most_cables = few (goal.at.returns c).After-part_count;
}
