-- `listing::fields::cables_per_part` meets its contract. Assumes nothing.
use Rattle.listing.proofs.Counting.{Counted}
use Rattle.listing.proofs.fields.cables_per_part.Given as goal

abbrev pub invariant-loop-i : goal.invariant-loop-i
invariant-loop-i l = Counted l.list l.counts l.i
