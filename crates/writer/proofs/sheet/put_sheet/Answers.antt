-- Head, parts, cables and lengths, one behind the other. Assumes nothing.
use Prim.Native.Nat.{◌+◌, ◌≤◌}
use native.Mathlib.Omega.{arith}
use mathlib.Core.Path.{◌∙◌}
use lib.ListN.{length}
use Rattle.drawing.specs.Spacing.{spaced}
use Rattle.drawing.specs.Sheet.{cables_section, lengths_section}
use Rattle.drawing.proofs.WordCounts.{parts_length, section_lengths}
use Rattle.placement.specs.Arrays.{layout_in}
use Rattle.writer.specs.Values.{numbered_in}
use Rattle.writer.proofs.Sections.{sections_stored}
use Rattle.placement.proofs.Layouts.{part_count, layout_meets}
use Rattle.writer.proofs.Layouts.{number_count, names}
use Rattle.writer.proofs.sheet.put_sheet.Goals as goal
use Rattle.writer.proofs.sheet.put_sheet.Goals.{After-put_parts-cables}

pub put-parts-requires : goal.put-parts-requires
put-parts-requires c = omega (arith, section_lengths c.args.spacing (layout_in c.args.layout.now), c.requires.layout_in_bounds)

pub put_parts-cables-requires : goal.put_parts-cables-requires
put_parts-cables-requires c = let d = layout_in c.args.layout.now in
    record {
      fits = c.requires.fits;
      inverse = c.requires.inverse;
      parts_in_bounds = omega (arith, section_lengths c.args.spacing d, part_count c.args.layout.now, c.requires.layout_in_bounds, c.put-parts.ensures.place, c.put-parts.auto.sheet);
    }

-- behind the parts there is room for the cables and the lengths
room : (j : After-put_parts-cables) → let d = layout_in j.args.layout.now in
    j.put_parts-cables.result + length (cables_section (spaced j.args.spacing d)) + length (lengths_section d) ≤ length j.put_parts-cables.new.sheet
room j = let r = j.args.ranking.now in
    let l = j.args.layout.now in
    omega (
      arith,
      section_lengths j.args.spacing (layout_in l),
      part_count l,
      parts_length (spaced j.args.spacing (numbered_in r l)),
      number_count l r j.args.spacing,
      j.requires.layout_in_bounds,
      j.put-parts.ensures.place,
      j.put-parts.auto.sheet,
      j.put_parts-cables.ensures.place,
      j.put_parts-cables.auto.sheet,
    )

pub put_cables-lengths-requires : goal.put_cables-lengths-requires
put_cables-lengths-requires c = record {
  fits = c.requires.fits;
  layout_in_bounds = omega (arith, room (goal.at.put_cables-lengths-requires c).After-put_parts-cables);
}

pub put_lengths-requires : goal.put_lengths-requires
put_lengths-requires c = record {
  layout_in_bounds = omega (arith, room (goal.at.put_lengths-requires c).After-put_parts-cables, c.put_cables-lengths.ensures.place, c.put_cables-lengths.auto.sheet);
}

pub returns : goal.returns
returns c = let l = c.args.layout.now in
    sections_stored _ _ _ (names l c.args.ranking.now c.requires.inverse) (layout_meets l) c.head_word.ensures c.put-parts.ensures
    c.put_parts-cables.ensures c.put_cables-lengths.ensures c.put_lengths.ensures
