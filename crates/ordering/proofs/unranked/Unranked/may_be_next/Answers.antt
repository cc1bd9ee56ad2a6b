-- `ordering::unranked::Unranked::may_be_next` meets its contract. Assumes nothing.
use Rattle.std.proofs.lemmas.Grind.{common_steps}
use native.Mathlib.Omega.{arith}
use Rattle.ordering.specs.Choices.{may_be_next}
use Rattle.ordering.proofs.unranked.Unranked.may_be_next.Goals.{then-self-w, else-self-w, then-ne, else-ne}
use Rattle.ordering.proofs.unranked.Unranked.may_be_next.Goals as goal

pub returns-then-not-is_known_separator : goal.returns-then-not-is_known_separator
unfolding may_be_next
returns-then-not-is_known_separator c =
    elim c.if-ne.branch [
      | then-ne w ↦ elim c.if-self-w.branch [
        | then-self-w v ↦ grind (arith, common_steps, w.value-is, w.is_known_separator.ensures, w.if-ne.true, v.value-is, v.if-self-w.true, v.ne.ensures, v.analyser.ensures.value)
        | else-self-w v ↦ grind (arith, common_steps, w.value-is, w.if-ne.true, v.value-is, v.if-self-w.false)
      ]
      | else-ne w ↦ grind (arith, common_steps, w.value-is, w.if-ne.false)
    ]

pub returns-else-not-is_known_separator : goal.returns-else-not-is_known_separator
unfolding may_be_next
returns-else-not-is_known_separator c =
    elim c.if-self-w.branch [
      | then-self-w v ↦ elim c.if-ne.branch [
        | then-ne w ↦ grind (arith, common_steps, w.value-is, w.is_known_separator.ensures, w.if-ne.true, v.value-is, v.if-self-w.true, v.ne.ensures, v.analyser.ensures.value)
        | else-ne w ↦ grind (arith, common_steps, w.value-is, w.if-ne.false, v.value-is, v.if-self-w.true, v.ne.ensures, v.analyser.ensures.value)
      ]
      | else-self-w v ↦ elim c.if-ne.branch [
        | then-ne w ↦ grind (arith, common_steps, w.value-is, w.if-ne.true, v.value-is, v.if-self-w.false)
        | else-ne w ↦ grind (arith, common_steps, w.value-is, w.if-ne.false, v.value-is, v.if-self-w.false)
      ]
    ]
