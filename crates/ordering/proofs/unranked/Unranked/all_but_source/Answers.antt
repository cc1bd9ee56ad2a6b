-- `ordering::unranked::Unranked::all_but_source` meets its contract. Assumes nothing.
use Rattle.ordering.proofs.Witnesses.{witness_start}
use Rattle.ordering.proofs.unranked.Unranked.all_but_source.Goals as goal

pub invariant_of-result : goal.invariant_of-result
invariant_of-result c = record { witnesses = witness_start c.source-s.result c.args.walker.now.adjacent.wired c.source-s.ensures.inside }
