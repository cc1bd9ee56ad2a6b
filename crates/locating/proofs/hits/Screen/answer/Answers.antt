-- `locating::hits::Screen::answer` meets its contract. Assumes nothing.
use Rattle.locating.proofs.Naming.{hit_fits}
use Rattle.locating.proofs.Answering.{answered}
use Rattle.locating.proofs.hits.Screen.answer.Goals as goal

pub word_of-requires : goal.word_of-requires
word_of-requires c = hit_fits c.args.self.now.readable _ c.hit_at.ensures
