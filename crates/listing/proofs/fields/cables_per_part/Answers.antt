-- `listing::fields::cables_per_part` meets its contract. Assumes nothing.
use mathlib.Core.Path.{refl}
use native.Mathlib.Omega.{arith}
use Rattle.words.specs.Limits.{most_parts}
use Rattle.station.proofs.Each.{two_words}
use Rattle.listing.proofs.Counting.{CountStep, counted_start, count_step, counted_end}
use Rattle.listing.proofs.fields.cables_per_part.Goals as goal
use Rattle.listing.proofs.fields.cables_per_part.Goals.{After-second-b}

-- the cable at i can be counted
here : (c : After-second-b)
    → CountStep c.args.list.now c.loop-i.counts c.loop-i.i c.first-a.result c.second-b.result
here c = count_step _ _ _ c.loop-i.invariant (omega arith) c.requires _ _
    c.first-a.ensures c.second-b.ensures

pub loop-i-init : goal.loop-i-init
loop-i-init c = counted_start c.args.list.now most_parts refl (two_words _ 6 c.requires (omega arith))

pub bounds-counts-a : goal.bounds-counts-a
bounds-counts-a c = (here (goal.at.bounds-counts-a c).After-second-b).a_below

pub overflow_add-counts : goal.overflow_add-counts
overflow_add-counts c = record { fits = (here (goal.at.overflow_add-counts c).After-second-b).a_fits }

pub bounds-counts-a-in-loop-i : goal.bounds-counts-a-in-loop-i
bounds-counts-a-in-loop-i c = (here (goal.at.bounds-counts-a-in-loop-i c).After-second-b).a_below

pub bounds-counts-b : goal.bounds-counts-b
bounds-counts-b c = (here (goal.at.bounds-counts-b c).After-second-b).b_below

pub overflow_add-counts-in-loop-i : goal.overflow_add-counts-in-loop-i
overflow_add-counts-in-loop-i c = record { fits = (here (goal.at.overflow_add-counts-in-loop-i c).After-second-b).b_fits }

pub bounds-counts-b-in-loop-i : goal.bounds-counts-b-in-loop-i
bounds-counts-b-in-loop-i c = (here (goal.at.bounds-counts-b-in-loop-i c).After-second-b).b_below

pub loop-i-preserved : goal.loop-i-preserved
loop-i-preserved c = (here (goal.at.loop-i-preserved c).After-second-b).next

pub returns : goal.returns
returns c = counted_end _ _ _ c.loop-i.invariant (omega arith)
