-- The text for an answer: what it is in each case, and how long at most. Assumes nothing.
use Prim.Native.Nat.{ℕ, ◌*◌, ◌≤◌}
use mathlib.Core.Path.{◌≡◌, sym, ◌∙◌, ap, ap₂}
use mathlib.Core.List.{List, ◌++◌}
use native.Mathlib.Omega.{arith}
use lib.ListN.{length, take, drop}
use lib.Seq.{take-append_seam}
use Rattle.lists.specs.Stores.{Stored}
use Rattle.lists.proofs.Stores.{stored_as}
use Rattle.checks.specs.Checks.{first_refusal, number_of}
use Rattle.hookup.specs.declared.Options.{Options}
use Rattle.hookup.specs.Checks.{call_checks}
use Rattle.hookup.specs.Outcome.{Outcome, sheet_in, outcome}
use Rattle.checks.proofs.Outcome.{Within, passed_within, fitted_within}
use Rattle.checks.specs.Outcome.{row_after, sent_back, written}
use Rattle.text.specs.Lines.{hex_lines, refused_line}
use Rattle.printing.specs.Printed.{answer_text}
use Rattle.hookup.specs.Answer.{counts, refusal, reply}
use Rattle.text.proofs.LineLaws.{length_hex_lines, length_refused_line}

-- check 11: 'output shorter than the sheet'
pub outcome_within_lem : (options : Options) (list : List ℕ) (room : ℕ) → Within room (outcome options list room)
unfolding outcome sheet_in
outcome_within_lem options list room = passed_within (first_refusal (call_checks options) list) room _ (fitted_within _ _ room)

-- nine bytes a word are room enough where there are six words
pub length_answer_text : (room : ℕ) (o : Outcome) → 6 ≤ room → Within room o → length (answer_text o) ≤ 9 * room
length_answer_text room (written words x) h w = omega (arith, length_hex_lines words)
length_answer_text room (sent_back check place) h w = omega (arith, length_refused_line (number_of check) place)

-- The call's answer

pub sheet_within : (room : ℕ) (o : Outcome) {n x : ℕ} → Within room o → reply o ≡ counts n x → n ≤ room
sheet_within room (written words k) {n} {x} w e =
    let h : length words ≡ n = cc in
    omega arith
sheet_within room (sent_back check place) w e = let z : ◌≡◌ {A = ℕ} 0 1 = cc in absurd (omega arith)

-- the sheet's words stand in front
sheet_text : (o : Outcome) (n x : ℕ) (row : List ℕ) → reply o ≡ counts n x → hex_lines (take n (row_after o row)) ≡ answer_text o
sheet_text (written words k) n x row e =
    let h : length words ≡ n = cc in
    ap (λ (i : ℕ). hex_lines (take i (words ++ drop (length words) row))) (sym h) ∙ ap hex_lines (take-append_seam words (drop (length words) row))
sheet_text (sent_back check place) n x row e = let z : ◌≡◌ {A = ℕ} 0 1 = cc in absurd (omega arith)

refused_text : (o : Outcome) (check place : ℕ) → reply o ≡ refusal check place → refused_line check place ≡ answer_text o
refused_text (written words k) check place e = let z : ◌≡◌ {A = ℕ} 0 1 = cc in absurd (omega arith)
refused_text (sent_back c p) check place e =
    let g : number_of c ≡ check = cc in
    let h : p ≡ place = cc in
    ap₂ refused_line (sym g) (sym h)

pub sheet_stored : (o : Outcome) (n x : ℕ) (row : List ℕ) {sheet out last : List ℕ} {r : ℕ} → reply o ≡ counts n x → sheet ≡ row_after o row
    → Stored out 0 (hex_lines (take n sheet)) last r → Stored out 0 (answer_text o) last r
sheet_stored o n x row e f S = stored_as (ap (λ (l : List ℕ). hex_lines (take n l)) f ∙ sheet_text o n x row e) S

pub refused_stored : (o : Outcome) {check place : ℕ} {out last : List ℕ} {r : ℕ} → reply o ≡ refusal check place
    → Stored out 0 (refused_line check place) last r → Stored out 0 (answer_text o) last r
refused_stored o {check} {place} e S = stored_as (refused_text o check place e) S
