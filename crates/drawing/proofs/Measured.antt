-- What is read off the lengths on a sheet: the length of each line, in grid steps, and their sum. Assumes nothing.
use Prim.Native.Nat.{ℕ, ◌+◌, ◌<◌, ◌≤◌}
use native.Mathlib.Omega.{arith}
use mathlib.Core.Path.{◌≡◌, sym, ap, subst, ◌∙◌}
use mathlib.Core.List.{List, ◌++◌, append_assoc}
use lib.ListN.{length, take, drop}
use lib.Seq.{take_at, drop_at}
use Rattle.lists.specs.Select.{sum}
use Rattle.drawing.specs.declared.spacing.Spacing.{Spacing}
use Rattle.drawing.specs.Drawing.{Drawing, points_at, Meets}
use Rattle.drawing.specs.Lengths.{line_length, grid_length, cable_lengths, most_length}
use Rattle.drawing.specs.Spacing.{spaced}
use Rattle.drawing.specs.Sheet.{length_words, lengths_section, drawing_words, sheet_words}
use Rattle.drawing.specs.Reading.{Endpoints, drawing_in, behind_drawing, lengths_in, quote_in}
use Rattle.drawing.specs.Measured.{Measured}
use Rattle.drawing.proofs.Lengths.{lengths_count, length_at}
use Rattle.drawing.proofs.LengthWords.{LengthsFit, length_words_length, record_kind, record_line, record_length, records_read, total_kind, total_read}
use Rattle.drawing.proofs.ReadBack.{DrawingFits, read_back, behind_back}
use Rattle.drawing.proofs.Spaced.{Spreads, routes_spaced, points_spaced, length_spaced}

module _ (s : Spacing) (n : ℕ) (ends : List Endpoints) (d : Drawing) (F : DrawingFits n ends (spaced s d)) where
  -- Sections read back, whatever lies behind the lengths

  behind : (rest : List ℕ) → behind_drawing n (length d.routes) (sheet_words s d ++ rest) ≡ lengths_section d ++ rest
  unfolding sheet_words
  behind rest =
      ap (behind_drawing n (length d.routes)) (append_assoc (drawing_words (spaced s d)) (lengths_section d) rest)
      ∙ ap (λ (m : ℕ). behind_drawing n m (drawing_words (spaced s d) ++ (lengths_section d ++ rest))) (sym (routes_spaced s d))
      ∙ behind_back n ends (spaced s d) F (lengths_section d ++ rest)

  count_lengths : length (lengths_section d) ≡ length d.routes + 1
  unfolding lengths_section
  count_lengths = omega (arith, length_words_length (cable_lengths d), lengths_count d)

  pub lengths_back : (rest : List ℕ) → lengths_in n (length d.routes) (sheet_words s d ++ rest) ≡ lengths_section d
  unfolding lengths_in
  lengths_back rest = ap (take (length d.routes + 1)) (behind rest) ∙ take_at (lengths_section d) rest (length d.routes + 1) count_lengths

  pub quote_back : (rest : List ℕ) → quote_in n (length d.routes) (sheet_words s d ++ rest) ≡ rest
  unfolding quote_in
  quote_back rest = ap (drop (length d.routes + 1)) (behind rest) ∙ drop_at (lengths_section d) rest (length d.routes + 1) count_lengths

  pub sheet_back : (rest : List ℕ) → drawing_in n ends (sheet_words s d ++ rest) ≡ spaced s d
  unfolding sheet_words
  sheet_back rest = ap (drawing_in n ends) (append_assoc (drawing_words (spaced s d)) (lengths_section d) rest) ∙ read_back n ends (spaced s d) F (lengths_section d ++ rest)

  -- The lengths

  module _ (P : Spreads s) (M : Meets d) (L : LengthsFit (cable_lengths d)) (few : length ends ≤ 65536)
      (short : (i : ℕ) → i < length d.routes → line_length (points_at d i) ≤ most_length n) where
    few_lengths : length (cable_lengths d) ≤ 65536
    few_lengths = omega (arith, lengths_count d, routes_spaced s d, F.routes_count)

    record_is : (i : ℕ) (h : i < length (cable_lengths d)) → i < length d.routes
    record_is i h = omega (arith, lengths_count d)

    -- 'the grid steps', along the line as it is spaced
    sheet_length : (i : ℕ) → i < length d.routes → line_length (points_at d i) ≡ grid_length s (points_at (spaced s d) i)
    sheet_length i h = sym (ap (grid_length s) (points_spaced s d M i h) ∙ length_spaced s P (points_at d i))

    by_lengths : Measured s n (length (cable_lengths d)) d (spaced s d) (length_words (cable_lengths d))
    by_lengths = record {
      count = length_words_length (cable_lengths d);
      kinds = record_kind (cable_lengths d) L few_lengths;
      total_kind = total_kind (cable_lengths d) L few_lengths;
      lines = record_line (cable_lengths d) L few_lengths;
      lengths = λ i h. record_length (cable_lengths d) L few_lengths i h ∙ length_at d i (record_is i h);
      on_sheet = λ i h. record_length (cable_lengths d) L few_lengths i h ∙ length_at d i (record_is i h) ∙ sheet_length i (record_is i h);
      total = total_read (cable_lengths d) L few_lengths ∙ ap sum (sym (records_read (cable_lengths d) L few_lengths));
      most = λ i h. short i (record_is i h);
    }

    pub measured : (rest : List ℕ) → Measured s n (length d.routes) d (spaced s d) (lengths_in n (length d.routes) (sheet_words s d ++ rest))
    unfolding lengths_section
    measured rest =
        subst (λ (words : List ℕ). Measured s n (length d.routes) d (spaced s d) words) (sym (lengths_back rest))
        (subst (λ (m : ℕ). Measured s n m d (spaced s d) (length_words (cable_lengths d))) (lengths_count d) by_lengths)
