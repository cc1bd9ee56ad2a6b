-- `reachability::adjacency::Adjacency::of` meets its contract. The loop's invariant is `TableUpTo`. Assumes nothing.
use borrow.Author.Rules.{rules}
use Rattle.reachability.proofs.AdjacencyTable.{table_start, line_word, first_fits, second_fits, table_next, table_end}
use Rattle.reachability.proofs.adjacency.Adjacency.of.Goals as goal

pub loop-line-init : goal.loop-line-init
loop-line-init c = search (table_start, rules)

pub one_part-a-requires : goal.one_part-a-requires
one_part-a-requires c = search (line_word, rules)

pub other_part-b-requires : goal.other_part-b-requires
other_part-b-requires c = search (line_word, rules)

pub join-requires : goal.join-requires
join-requires c = search (first_fits, rules)

pub join-requires-in-loop-line : goal.join-requires-in-loop-line
join-requires-in-loop-line c = search (second_fits, rules)

pub loop-line-preserved : goal.loop-line-preserved
loop-line-preserved c = table_next (search) (search) (search) (search) c.join.ensures c.join-in-loop-line.ensures

pub returns : goal.returns
returns c = search (table_end, rules)
