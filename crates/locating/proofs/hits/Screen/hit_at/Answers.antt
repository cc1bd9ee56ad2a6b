-- `locating::hits::Screen::hit_at` meets its contract. Assumes nothing.
use Rattle.std.proofs.Common.{rules}
use native.Mathlib.Omega.{arith}
use Rattle.order.proofs.Passed.{words_10, list_wired}
use Rattle.locating.proofs.Reading.{list_passes}
use Rattle.locating.proofs.Naming.{parts_inside, part_few, part_named, cables_named}
use Rattle.locating.proofs.hits.Screen.hit_at.Goals as goal

pub part_count-behind-requires : goal.part_count-behind-requires
part_count-behind-requires c = words_10 _ (list_passes _ _ c.args.self.now.readable.passed)

pub overflow_add-behind : goal.overflow_add-behind
overflow_add-behind c = omega (arith, c.part_count-behind.ensures, (list_wired _ (list_passes _ _ c.args.self.now.readable.passed)).most)

pub slice_bounds-part_at-end : goal.slice_bounds-part_at-end
slice_bounds-part_at-end c = omega (arith, c.part_count-behind.ensures, parts_inside c.args.self.now.readable)

pub overflow_cast-result : goal.overflow_cast-result
overflow_cast-result c = let few = part_few c.args.self.now.readable c.part_count-behind.ensures _ c.part_at.ensures c.in-Some.is in
    search rules

pub returns-in-Some : goal.returns-in-Some
returns-in-Some c = part_named c.args.self.now.readable c.part_count-behind.ensures _ c.part_at.ensures c.in-Some.is

pub returns-in-None : goal.returns-in-None
returns-in-None c = cables_named c.args.self.now.readable c.part_count-behind.ensures _ c.part_at.ensures c.in-None.is c.cables_at.ensures
