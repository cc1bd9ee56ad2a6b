-- The list in a row, its head and its length. Assumes nothing.
use Prim.Native.Nat.{ℕ, ◌+◌, ◌<◌, ◌≤◌, min}
use native.Mathlib.Omega.{arith}
use native.Mathlib.Decide.{dec_lt}
use mathlib.Core.Path.{◌≡◌, sym, ap, ◌∙◌}
use mathlib.Core.List.{List}
use lib.ListN.{length, get_or, take, length-take}
use lib.Seq.{get_or-take, length-take-le, take_all}
use Rattle.words.specs.Words.{cables_of}
use Rattle.checks.specs.Checks.{Clear}
use Rattle.station.specs.Checks.{list_checks}
use Rattle.station.proofs.UpTo.{clear_up_to}
use Rattle.station.proofs.Each.{words_due}
use Rattle.editor.specs.Rows.{present, list_in}

module _ (row : List ℕ) where
  -- the head is the row's first word
  pub head_is : get_or (list_in row) 0 0 ≡ get_or row 0 0
  unfolding list_in
  head_is = get_or-take (present row + 2) row 0 0 (omega arith)

  pub present_is : present (list_in row) ≡ present row
  unfolding present
  present_is = ap cables_of head_is

  pub length_is : length (list_in row) ≡ min (present row + 2) (length row)
  unfolding list_in
  length_is = length-take (present row + 2) row

  -- a list that passes checks 1 to 8 is there as a whole
  pub length_due : Clear list_checks (list_in row) → length (list_in row) ≡ present row + 2
  unfolding present
  length_due C = words_due (list_in row) 8 (clear_up_to (list_in row) 8 C) (omega arith) ∙ ap (λ (m : ℕ). m + 2) present_is

  pub row_long : Clear list_checks (list_in row) → present row + 2 ≤ length row
  row_long C = omega (arith, length_due C, length_is)

  -- as many of its first words
  pub taken : {k : ℕ} → k ≡ length (list_in row) → take k row ≡ list_in row
  unfolding list_in
  taken {k} e = go (dec_lt (length row) (present row + 2))
    where
      go : Dec (length row < present row + 2) → take k row ≡ take (present row + 2) row
      go (yes h) = take_all k row (omega (arith, length_is)) ∙ sym (take_all (present row + 2) row (omega arith))
      go (no h) = ap (λ (i : ℕ). take i row) (e ∙ length-take-le (present row + 2) row (omega arith))
