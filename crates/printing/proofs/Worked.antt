-- Document 01's example of the sheet program with request 2026-01's lengths, from the bytes of the triangle's list to the text of its
-- sheet, and lines of the other kinds. Assumes nothing.
use Prim.Native.Nat.{ℕ}
use Rattle.std.specs.Prelude.{Ok}
use mathlib.Core.Path.{◌≡◌, refl, ◌∙◌}
use mathlib.Core.List.{List, [], ◌∷◌}
use Rattle.lists.specs.Select.{up_from, range, tabulate}
use Rattle.hookup.specs.Options.{plain}
use Rattle.hookup.specs.Outcome.{sheet_in, outcome}
use Rattle.checks.specs.Outcome.{fitted, if_passed}
use Rattle.order.proofs.Triangle.{triangle}
use Rattle.drawing.proofs.Worked.{thirteen}
use Rattle.hookup.proofs.Triangle.{triangle_called, triangle_words}
use Rattle.text.specs.Ascii.{ascii}
use Rattle.text.specs.Bytes.{words_in}
use Rattle.text.specs.Lines.{hex_digit, hex_half, hex_line, hex_lines, digits, decimal, refused_line}
use Rattle.printing.specs.Printed.{room, loaded, answer_text, printed}
use Rattle.hookup.proofs.Computing.{hookup_computing}

-- '`10030003 20000002 30000001 30001002 30000002`', 'each word most significant byte first'
abbrev pub triangle_file : List ℕ
triangle_file =
    0x10 ∷ 3 ∷ 0 ∷ 3
    ∷ 0x20 ∷ 0 ∷ 0 ∷ 2
    ∷ 0x30 ∷ 0 ∷ 0 ∷ 1
    ∷ 0x30 ∷ 0 ∷ 0x10 ∷ 2
    ∷ 0x30 ∷ 0 ∷ 0 ∷ 2
    ∷ []

file_words : words_in triangle_file ≡ triangle
unfolding words_in up_from range tabulate
file_words = refl

file_whole : loaded triangle_file ≡ Ok 5
unfolding loaded
file_whole = refl

triangle_text : hex_lines thirteen ≡ ascii "40001002\n50000000\n50000001\n50000002\n60000000\n60001000\n60002002\n70001000\n70001002\n80000001\n80001001\n80002004\na0000006\n"
unfolding hex_digit hex_half hex_line hex_lines
triangle_text = refl

answer_text_lem : answer_text (outcome plain triangle room) ≡ hex_lines thirteen
unfolding outcome if_passed sheet_in fitted
answer_text_lem = rw (triangle_called, triangle_words) refl

pub triangle_printed : printed triangle_file room ≡ ascii "40001002\n50000000\n50000001\n50000002\n60000000\n60001000\n60002002\n70001000\n70001002\n80000001\n80001001\n80002004\na0000006\n"
unfolding printed
triangle_printed = rw (file_whole, file_words) (answer_text_lem ∙ triangle_text)

-- 'no words: 0'
pub empty_printed : printed [] room ≡ ascii "refused 1 0\n"
unfolding hookup_computing printed loaded words_in refused_line decimal digits
empty_printed = refl

pub broken_printed : printed (0x10 ∷ 3 ∷ 0 ∷ 3 ∷ 0x20 ∷ []) room ≡ ascii "broken file\n"
unfolding printed loaded
broken_printed = refl

pub letters_printed : hex_line 0x89abcdef ≡ ascii "89abcdef\n"
unfolding hex_digit hex_half hex_line
letters_printed = refl

pub eleven_printed : refused_line 11 1541 ≡ ascii "refused 11 1541\n"
unfolding refused_line decimal digits
eleven_printed = refl
