-- `ordering::unranked::Unranked::choose` meets its contract. The invariant: no part before w is eligible, and the parts without a rank are the same. Assumes nothing.
use mathlib.Core.Path.{◌≡◌}
use Rattle.lists.proofs.Seeking.{Seeking}
use Rattle.ordering.specs.Choices.{eligible}
use Rattle.ordering.proofs.unranked.Unranked.choose.Given as goal

abbrev pub invariant-loop-w : goal.invariant-loop-w
invariant-loop-w l =
    Seeking (eligible l.initial.self.walker.now.list.now l.initial.self.flags) l.w-end l.w × (l.self.walker.now ≡ l.initial.self.walker.now)
    × (l.self.flags ≡ l.initial.self.flags)
