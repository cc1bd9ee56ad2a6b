-- `locating::hits::Screen::cables_at` meets its contract. The loop's invariant is `Naming`. Assumes nothing.
use Rattle.geometry.specs.Spots.{spot_in}
use Rattle.locating.proofs.Naming.{Naming}
use Rattle.locating.proofs.hits.Screen.cables_at.Given as goal

abbrev pub invariant-loop-i : goal.invariant-loop-i
invariant-loop-i l = Naming l.self.list.now l.self.sheet.now (spot_in l.spot) l.hit l.at l.i
