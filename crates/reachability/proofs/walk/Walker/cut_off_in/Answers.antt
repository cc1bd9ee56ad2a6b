-- `reachability::walk::Walker::cut_off_in` meets its contract. A part that the walk divides from t is cut off from it: the walk's start where t is
-- left, and else one that is left. Assumes nothing.
use borrow.Author.Rules.{rules}
use mathlib.Core.Path.{refl}
use Rattle.reachability.proofs.Separation.{found_inside, found_fits, cut_none, across_start, across_left, cut_not, cut_across}
use Rattle.reachability.proofs.walk.Walker.cut_off_in.Goals as goal

pub returns-in_err-p : goal.returns-in_err-p
returns-in_err-p c = search (cut_none, rules)

pub overflow_cast-p : goal.overflow_cast-p
overflow_cast-p c = search (found_fits, rules)

pub walk_from-left-requires : goal.walk_from-left-requires
walk_from-left-requires c = search (found_inside, rules)

pub beside-requires-clause-across : goal.beside-requires-clause-across
beside-requires-clause-across c = across_start _ _ c.parts-n.ensures.value c.in_ok-p.ensures refl _ c.walk_from-left.ensures c.analyser-t.ensures.value c.if-left-t.true

pub returns-then-left-t : goal.returns-then-left-t
returns-then-left-t c =
    cut_across _ _ c.parts-n.ensures.value c.in_ok-p.ensures refl _ c.walk_from-left.ensures c.args.self.now.adjacent.wired c.beside.ensures

pub returns-in_err-q : goal.returns-in_err-q
returns-in_err-q c =
    let joined = cut_not _ _ c.parts-n.ensures.value c.in_ok-p.ensures refl _ c.walk_from-left.ensures c.analyser-t.ensures.value c.if-left-t.false c.in_err-q.ensures refl in
    search rules

pub beside-requires-2-clause-across : goal.beside-requires-2-clause-across
beside-requires-2-clause-across c =
    across_left _ _ c.parts-n.ensures.value c.in_ok-p.ensures refl _ c.walk_from-left.ensures c.analyser-t.ensures.value c.if-left-t.false c.in_ok-q.ensures refl

pub returns : goal.returns
returns c = cut_across _ _ c.parts-n.ensures.value c.in_ok-p.ensures refl _ c.walk_from-left.ensures c.args.self.now.adjacent.wired c.beside-2.ensures
