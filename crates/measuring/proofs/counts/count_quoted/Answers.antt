-- The words of the sheet, and those of the quote where there is one. Assumes nothing.
use Rattle.std.specs.Prelude.{Option, ℕ}
use Prim.Native.Nat.{◌+◌, ◌*◌, ◌≤◌}
use native.Mathlib.Omega.{arith}
use mathlib.Core.Path.{ap}
use lib.ListN.{length}
use Rattle.words.specs.Limits.{most_cables}
use Rattle.drawing.specs.Spacing.{on_grid}
use Rattle.drawing.specs.Counts.{quote_count}
use Rattle.drawing.proofs.Quoted.{quoted_length}
use Rattle.placement.specs.Arrays.{layout_in}
use Rattle.placement.proofs.Layouts.{route_count, word_count, bottom_small, top_small}
use Rattle.measuring.proofs.counts.count_quoted.Goals as goal
use Rattle.measuring.proofs.counts.count_quoted.Goals.{After-count_words-words}

few : (c : After-count_words-words) → c.count_words-words.result ≤ 4 * most_cables + 6
few c =
    let l = c.args.layout.now in
    omega (arith, c.count_words-words.ensures on_grid, word_count l on_grid, bottom_small l, top_small l, l.graph.is_ranked.few_cables)

pub overflow_add-result : goal.overflow_add-result
overflow_add-result c = omega (arith, few (goal.at.overflow_add-result c).After-count_words-words, c.args.layout.now.graph.is_ranked.few_cables)

pub overflow_add-result-in-Some : goal.overflow_add-result-in-Some
overflow_add-result-in-Some c = omega (arith, few (goal.at.overflow_add-result-in-Some c).After-count_words-words, c.args.layout.now.graph.is_ranked.few_cables)

pub returns-in-None : goal.returns-in-None
returns-in-None c = λ spacing. let d = layout_in c.args.layout.now in
    omega (arith, c.count_words-words.ensures spacing, quoted_length spacing c.args.discount d, ap (λ (x : Option ℕ). quote_count x (length d.routes)) c.in-None.is)

pub returns-in-Some : goal.returns-in-Some
returns-in-Some c = λ spacing. let d = layout_in c.args.layout.now in
    omega (
      arith,
      c.count_words-words.ensures spacing,
      quoted_length spacing c.args.discount d,
      ap (λ (x : Option ℕ). quote_count x (length d.routes)) c.in-Some.is,
      route_count c.args.layout.now,
    )
