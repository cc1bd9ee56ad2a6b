-- The words of the parts that are left go behind those that are written. Assumes nothing.
use Prim.Native.Nat.{ℕ}
use native.Mathlib.Omega.{arith}
use mathlib.Core.Path.{ap, ◌∙◌}
use mathlib.Core.List.{[], ◌∷◌}
use lib.ListN.{length}
use Rattle.lists.proofs.Stores.{stored_as}
use Rattle.lists.proofs.Storing.{storing_start, storing_next, storing_end, storing_kept}
use Rattle.drawing.specs.Spacing.{spaced}
use Rattle.drawing.specs.Sheet.{part_spot_word, parts_section}
use Rattle.drawing.proofs.WordCounts.{parts_length}
use Rattle.writer.specs.Values.{numbered_in}
use Rattle.writer.proofs.Sections.{parts_next, parts_end}
use Rattle.writer.proofs.Layouts.{number_count, rank_below, number_spot}
use Rattle.writer.proofs.sheet.put_parts.Goals as goal

pub loop-p-init : goal.loop-p-init
unfolding parts_section
loop-p-init c = (omega arith, storing_start _ _ _)

pub part_word-requires : goal.part_word-requires
part_word-requires c = record {
  fits = c.requires.fits;
  k_lt_parts = rank_below c.args.layout.now c.args.ranking.now c.requires.inverse _ (omega arith);
}

pub put-next-requires : goal.put-next-requires
put-next-requires c = let l = c.loop-p in
    let n = number_count c.args.layout.now c.args.ranking.now c.args.spacing in
    let d = spaced c.args.spacing (numbered_in c.args.ranking.now c.args.layout.now) in
    omega (arith, l.invariant.1.place, storing_kept l.invariant.1, c.requires.parts_in_bounds, parts_length d, n, ap length (parts_next d l.p (omega (arith, n, c.loop-p-test.true))))

pub loop-p-preserved : goal.loop-p-preserved
loop-p-preserved c = let l = c.loop-p in
    let h = c.loop-p-test.true in
    let n = number_count c.args.layout.now c.args.ranking.now c.args.spacing in
    let e = c.part_word.ensures ∙ ap part_spot_word (number_spot c.args.layout.now c.args.ranking.now c.requires.inverse c.args.spacing l.p h) in (
      omega arith,
      storing_next _ (parts_next (spaced c.args.spacing (numbered_in c.args.ranking.now c.args.layout.now)) l.p (omega (arith, n, h))) (stored_as (ap (λ (z : ℕ). z ∷ []) e) c.put-next.ensures) l.invariant.1,
    )

pub returns : goal.returns
returns c = storing_end
    (parts_end (spaced c.args.spacing (numbered_in c.args.ranking.now c.args.layout.now)) c.loop-p.p
    (omega (arith, c.loop-p-test.false, number_count c.args.layout.now c.args.ranking.now c.args.spacing)))
    c.loop-p.invariant.1
