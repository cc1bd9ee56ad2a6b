-- `locating::hits::Screen::answer_all` meets its contract. The loop's invariant is `Answering`. Assumes nothing.
use Rattle.locating.proofs.Answering.{answering_start, answering_room, answering_next, answering_end}
use Rattle.locating.proofs.hits.Screen.answer_all.Goals as goal

pub returns : goal.returns
returns c = answering_end c.loop-k.invariant c.loop-k-test.false
