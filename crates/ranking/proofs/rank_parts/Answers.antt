-- `ranking::rank_parts` meets its contract. Assumes nothing.
use borrow.Author.Rules.{rules}
use Rattle.ranking.proofs.Rankings.{ranking_done}
use Rattle.ranking.proofs.rank_parts.Goals as goal

pub returns : goal.returns
returns c = search (ranking_done, rules)
