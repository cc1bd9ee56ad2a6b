-- `locating::hits::Screen::answer_all` meets its contract. The loop's invariant is `Answering`. Assumes nothing.
use Rattle.locating.proofs.Answering.{Answering}
use Rattle.locating.proofs.hits.Screen.answer_all.Given as goal

abbrev pub invariant-loop-k : goal.invariant-loop-k
invariant-loop-k l = Answering l.self.list.now l.self.sheet.now l.marks l.initial.hits l.hits l.k
