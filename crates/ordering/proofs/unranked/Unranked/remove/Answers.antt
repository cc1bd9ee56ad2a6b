-- `ordering::unranked::Unranked::remove` meets its contract. Assumes nothing.
use Rattle.ordering.proofs.Witnesses.{witness_ranked}
use Rattle.ordering.proofs.unranked.Unranked.remove.Goals as goal

pub invariant_of-self : goal.invariant_of-self
invariant_of-self c = record { witnesses = witness_ranked c.args.self.now.witnesses c.args.w.0 }
