-- `editing::cable::check_cable` meets its contract: the first of checks 5, 6 and 8 that the new cable fails. Assumes nothing.
use native.Mathlib.Omega.{arith}
use Prim.Native.Nat.{◌<◌}
use mathlib.Core.Path.{◌≡◌, sym, ◌∙◌}
use borrow.Author.Tests.{leb-false}
use lib.ListN.{get_or}
use lib.Dec.{leb}
use Rattle.lists.proofs.Bools.{or_fails}
use Rattle.words.specs.Words.{parts_of}
use Rattle.station.proofs.Cables.{parts_are}
use Rattle.editor.proofs.Longer.{two, between}
use Rattle.editor.proofs.Verdicts.{refused_5, refused_6, crowded_decides}
use Rattle.editing.proofs.cable.check_cable.Goals as goal
use Rattle.editing.proofs.cable.check_cable.Goals.{After-part_count, Else-is_outside}

count_is : (c : After-part_count) → c.part_count.result ≡ parts_of (get_or c.args.list.now 0 0)
count_is c = c.part_count.ensures ∙ parts_are _

count_is-Else-is_outside : (c : Else-is_outside) → c.part_count.result ≡ parts_of (get_or c.args.list.now 0 0)
count_is-Else-is_outside c = c.part_count.ensures ∙ parts_are _

-- both are numbers of parts
inside : (c : Else-is_outside) → (c.args.one < parts_of (get_or c.args.list.now 0 0))
    × (c.args.other < parts_of (get_or c.args.list.now 0 0))
inside c = let n = c.part_count.result in
    let one = c.args.one in
    let other = c.args.other in
    let f = or_fails (leb n one) (leb n other) (sym c.is_outside.ensures ∙ c.if-is_outside.false) in
    (omega (arith, count_is-Else-is_outside c, leb-false n one f.0), omega (arith, count_is-Else-is_outside c, leb-false n other f.1))

pub part_count-requires : goal.part_count-requires
part_count-requires c = two _ c.requires

pub overflow_cast-part_count : goal.overflow_cast-part_count
overflow_cast-part_count c = omega (arith, count_is (goal.at.overflow_cast-part_count c).After-part_count, (between _ c.requires).1)

pub returns-then-is_outside : goal.returns-then-is_outside
returns-then-is_outside c = sym (refused_5 _ c.requires _ _ (rw (← count_is (goal.at.returns-then-is_outside c).After-part_count) (sym c.is_outside.ensures ∙ c.if-is_outside.true)))

pub returns-then-one-other : goal.returns-then-one-other
returns-then-one-other c = let i = inside (goal.at.returns-then-one-other c).Else-is_outside in sym (refused_6 _ c.requires _ _ i.0 i.1 (omega arith))

pub returns : goal.returns
returns c = let i = inside (goal.at.returns c).Else-is_outside in
    c.refuse.ensures ∙ crowded_decides _ c.requires _ _ i.0 i.1 (λ e. c.if-one-other.false (omega arith)) c.crowded_end.ensures
