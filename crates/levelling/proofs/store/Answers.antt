-- `levelling::store` meets its contract. The loop's invariant is `Passing`. Assumes nothing.
use Rattle.levelling.proofs.Passing.{passing_start, passing_readable, passing_most, passing_sort, passing_pair, passing_next, passing_end}
use Rattle.levelling.proofs.store.Goals as goal

pub loop-part-init : goal.loop-part-init
loop-part-init c = passing_start _ c.requires.clear c.requires.row_fits c.part_count-n.ensures c.of-adjacency.ensures c.requires.ranking_of.part c.requires.output_len

pub incoming-before-requires : goal.incoming-before-requires
incoming-before-requires c = let inv = c.loop-part.invariant in
    record {
      readable = passing_readable inv;
      part = passing_most inv c.loop-part-test.true;
    }

pub bounds-sorts-p : goal.bounds-sorts-p
bounds-sorts-p c = passing_sort c.loop-part.invariant c.loop-part-test.true

pub put-requires : goal.put-requires
put-requires c = passing_pair c.loop-part.invariant c.loop-part-test.true

pub bounds-passed-p : goal.bounds-passed-p
bounds-passed-p c = passing_most c.loop-part.invariant c.loop-part-test.true

pub loop-part-preserved : goal.loop-part-preserved
loop-part-preserved c = rw c.put.ensures
    (passing_next c.loop-part.invariant c.loop-part-test.true c.incoming-before.ensures c.sort_of.ensures c.both_behind-behind.ensures)

pub returns : goal.returns
returns c = passing_end c.loop-part.invariant c.loop-part-test.false
