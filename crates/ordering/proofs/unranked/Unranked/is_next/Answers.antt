-- `ordering::unranked::Unranked::is_next` meets its contract. Assumes nothing.
use borrow.Author.Rules.{rules}
use Rattle.reachability.proofs.Separation.{cut_fits}
use Rattle.ordering.proofs.Witnesses.{witness_found}
use Rattle.ordering.proofs.Choices.{eligible_not, eligible_none, eligible_cut}
use Rattle.ordering.proofs.unranked.Unranked.is_next.Goals as goal

pub returns-then-not-may_be_next-clause-value : goal.returns-then-not-may_be_next-clause-value
returns-then-not-may_be_next-clause-value c = search (eligible_not, rules)

pub returns-in_default-clause-value : goal.returns-in_default-clause-value
returns-in_default-clause-value c = search (eligible_none, rules)

pub overflow_cast-self : goal.overflow_cast-self
overflow_cast-self c = search (cut_fits, rules)

pub invariant_of-self : goal.invariant_of-self
invariant_of-self c = record { witnesses = witness_found _ c.args.self.now.witnesses c.args.self.now.walker.now.adjacent.wired c.requires c.cut_off.ensures c.in-Some.is }

pub returns-clause-value : goal.returns-clause-value
returns-clause-value c = search (eligible_cut, rules)
