-- `ordering::unranked::Unranked::choose` meets its contract. The invariant: no part before w is eligible, and the parts without a rank are the same. Assumes nothing.
use mathlib.Core.Path.{◌≡◌, ap, ap₂, ◌∙◌}
use mathlib.Core.Bool.{Bool}
use mathlib.Core.List.{List}
use Rattle.reachability.specs.declared.walk.Walker.{Walker}
use Rattle.station.specs.Station.{station_of}
use Rattle.ordering.specs.Choices.{eligible}
use Rattle.ordering.proofs.PartsByRank.{chosen_next, chosen_at, chosen_none}
use Rattle.ordering.proofs.unranked.Unranked.choose.Goals as goal
use Rattle.ordering.proofs.unranked.Unranked.choose.Goals.{After-is_next}
use Rattle.ordering.proofs.unranked.Unranked.choose.Goals as goal

-- what the test said of part w, of the parts as they were at first
tested : (c : After-is_next) → c.is_next.result ≡ eligible c.args.self.now.walker.now.list.now c.args.self.now.flags c.loop-w.w
tested c = let l = c.loop-w in
    c.is_next.ensures.value ∙ ap₂ (λ (v : Walker) (f : List Bool). eligible v.list.now f l.w) l.invariant.1 l.invariant.2

pub returns-then-is_next-clause-value : goal.returns-then-is_next-clause-value
returns-then-is_next-clause-value c =
    chosen_at _ _ c.loop-w.invariant.0 c.parts-w-end.ensures.value c.loop-w-test.true (tested (goal.at.returns-then-is_next-clause-value c).After-is_next) c.if-is_next.true

pub loop-w-preserved : goal.loop-w-preserved
loop-w-preserved c = let l = c.loop-w in (
  chosen_next _ _ l.invariant.0 c.loop-w-test.true (tested (goal.at.loop-w-preserved c).After-is_next) c.if-is_next.false,
  c.is_next.ensures.walker ∙ l.invariant.1,
  c.is_next.ensures.flags ∙ l.invariant.2,
)

pub returns-clause-value : goal.returns-clause-value
returns-clause-value c =
    chosen_none _ _ c.loop-w.invariant.0 c.parts-w-end.ensures.value (c.analyser.ensures.value ∙ ap (λ (v : Walker). (station_of v.list.now).analyser) c.loop-w.invariant.1)
    c.loop-w-test.false
