-- `ordering::unranked::Unranked::is_known_separator` meets its contract. Assumes nothing.
use Rattle.ordering.proofs.Witnesses.{witness_at}
use Rattle.ordering.proofs.Choices.{known_both, known_not}
use Rattle.ordering.proofs.unranked.Unranked.is_known_separator.Goals as goal

pub bounds-self-q : goal.bounds-self-q
bounds-self-q c = witness_at _ _ c.args.self.now.witnesses c.args.self.now.walker.now.adjacent.wired

pub returns-then-self-t : goal.returns-then-self-t
returns-then-self-t c = known_both _ _ _ _ c.analyser-t.ensures.value c.if-self-t.true

pub returns-else-self-t : goal.returns-else-self-t
returns-else-self-t c = known_not _ _ _ _ c.analyser-t.ensures.value c.if-self-t.false
