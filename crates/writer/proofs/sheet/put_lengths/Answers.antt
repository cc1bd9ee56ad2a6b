-- The lengths by line, and behind them their sum. Assumes nothing.
use Rattle.std.proofs.Common.{rules}
use borrow.Author.Tests.{tests}
use Prim.Native.Nat.{ℕ, ◌+◌}
use native.Mathlib.Omega.{arith}
use mathlib.Core.Path.{◌≡◌, sym, ap, ◌∙◌}
use mathlib.Core.List.{[], ◌∷◌}
use lib.ListN.{length, get_or}
use Rattle.lists.specs.Select.{tabulate, sum}
use Rattle.lists.specs.Stores.{Stored}
use Rattle.lists.proofs.Select.{length_tabulate, get_d_tabulate}
use Rattle.lists.proofs.Stores.{stored_append, stored_as}
use Rattle.words.specs.Words.{cable_length_word, total_length_word}
use Rattle.drawing.specs.Sheet.{lengths_section, length_words}
use Rattle.writer.proofs.Layouts.{runs, run_count, run_small, runs_small, section_count}
use Rattle.writer.proofs.sheet.put_lengths.Goals as goal
use Rattle.writer.proofs.sheet.put_lengths.Goals.{After-put_records-total}

stored : (c : After-put_records-total) → let l = runs c.args.layout.now in
    Stored c.args.sheet.now c.args.at (tabulate (length l) (λ i. cable_length_word i (get_or l i 0))) c.put_records-total.new.sheet (c.args.at + c.args.layout.now.graph.cables)
    × (c.put_records-total.result ≡ sum l)
stored c =
    let l = c.args.layout.now in
    let word = λ (i : ℕ). cable_length_word i (get_or (runs l) i 0) in
    c.put_records-total.ensures (record { words = tabulate (length (runs l)) word; numbers = runs l })
    (length_tabulate (length (runs l)) word ∙ run_count l) (run_count l)
    (λ i r h p.
    let e : r.word.0 ≡ word i = search (rules, tests) in
    (e ∙ sym (get_d_tabulate (length (runs l)) word i 0 (omega (arith, run_count l))), search (rules, tests)))

pub put_records-total-requires : goal.put_records-total-requires
put_records-total-requires c =
    let l = c.args.layout.now in
    record {
      safe = search (rules, tests);
      small = λ i r h p.
          let e : r.number ≡ get_or (runs l) i 0 = search (rules, tests) in
          omega (arith, e, run_small l i h);
      few = l.graph.is_ranked.few_cables;
      room = omega (arith, c.requires, section_count l);
    }

pub total_length-requires : goal.total_length-requires
total_length-requires c =
    let l = c.args.layout.now in
    omega (arith, (stored (goal.at.total_length-requires c).After-put_records-total).1, runs_small l, l.graph.is_ranked.few_cables)

pub put-requires : goal.put-requires
put-requires c = omega (arith, c.requires, section_count c.args.layout.now, c.put_records-total.auto.sheet)

pub returns : goal.returns
unfolding lengths_section length_words
returns c =
    let s = stored (goal.at.returns c).After-put_records-total in
    stored_append s.0 (stored_as (ap (λ (z : ℕ). z ∷ []) (c.total_length.ensures ∙ ap total_length_word s.1)) c.put.ensures)
