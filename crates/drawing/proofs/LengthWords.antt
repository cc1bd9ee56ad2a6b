-- The words of lengths that fit their fields: how many they are, that each has 32 bits, and what is read off them. Assumes nothing.
use Prim.Native.Nat.{ℕ, ◌+◌, ◌<◌, ◌≤◌, ◌^◌}
use native.Mathlib.Omega.{arith}
use mathlib.Core.Path.{◌≡◌, refl, sym, ap, ◌∙◌}
use mathlib.Core.Logic.{◌⊎◌, inl, inr}
use mathlib.Core.List.Memᴰ
use mathlib.Core.List.{List, [], ◌∷◌, map, Memᴰ}
use lib.ListN.{length, get_or, take, length-append, get_or-append}
use lib.Seq.{take_at, get_or_at}
use Rattle.words.specs.Limits.{most_field}
use Rattle.lists.specs.Select.{tabulate, sum}
use Rattle.lists.proofs.Select.{length_tabulate, get_d_tabulate}
use Rattle.lists.proofs.Places.{mem-place}
use Rattle.lists.proofs.Maps.{map_tabulate}
use Rattle.lists.proofs.Agree.{tabulate_same}
use Rattle.lists.proofs.Fill.{tabulate_of}
use Rattle.words.specs.Words.{kind_of, second_of, line_of, total_of, cable_length, cable_length_word, total_length, total_length_word}
use Rattle.words.proofs.Words.{LineFields, line_fields_apart, wide_field_apart}
use Rattle.drawing.specs.Sheet.{length_words}

pub record LengthsFit (lengths : List ℕ) : Type 0 where
  pub each : (i : ℕ) → i < length lengths → get_or lengths i 0 ≤ most_field
  pub total : sum lengths < 2 ^ 28

module _ (lengths : List ℕ) where
  -- the records, in front of the total
  abbrev pub records : List ℕ
  records = tabulate (length lengths) (λ i. cable_length_word i (get_or lengths i 0))

  records_count : length records ≡ length lengths
  records_count = length_tabulate (length lengths) _

  pub length_words_length : length (length_words lengths) ≡ length lengths + 1
  unfolding length_words
  length_words_length = length-append records (_ ∷ []) ∙ ap (λ (k : ℕ). k + 1) records_count

  pub record_at : (i : ℕ) → i < length lengths → get_or (length_words lengths) i 0 ≡ cable_length_word i (get_or lengths i 0)
  unfolding length_words
  record_at i h =
      get_or-append records (_ ∷ []) 0 i (omega (arith, records_count))
      ∙ get_d_tabulate (length lengths) _ i 0 h

  pub total_at : get_or (length_words lengths) (length lengths) 0 ≡ total_length_word (sum lengths)
  unfolding length_words
  total_at = get_or_at records _ [] 0 (length lengths) records_count

  module _ (F : LengthsFit lengths) (few : length lengths ≤ 65536) where
    pub record_fields : (i : ℕ) → i < length lengths → LineFields cable_length i (get_or lengths i 0) (cable_length_word i (get_or lengths i 0))
    record_fields i h = line_fields_apart cable_length i (get_or lengths i 0) (omega arith) (omega arith) (F.each i h)

    pub length_words_fit : (w : ℕ) → Memᴰ w (length_words lengths) → w < 2 ^ 32
    unfolding length_words
    length_words_fit w m = go (Memᴰ.append_cases records m)
      where
        go : Memᴰ w records ⊎ Memᴰ w (total_length_word (sum lengths) ∷ []) → w < 2 ^ 32
        go (inl k) =
            let t = mem-place records 0 k in
            let h : t.0 < length lengths = omega (arith, records_count, t.1) in
            omega (arith, t.2, get_d_tabulate (length lengths) (λ i. cable_length_word i (get_or lengths i 0)) t.0 0 h, (record_fields t.0 h).fits)
        go (inr k) = omega (arith, Memᴰ.eq_of_singleton k, (wide_field_apart total_length (sum lengths) (omega arith) F.total).fits)

    -- What is read off them

    pub record_kind : (i : ℕ) → i < length lengths → kind_of (get_or (length_words lengths) i 0) ≡ cable_length
    record_kind i h = ap kind_of (record_at i h) ∙ (record_fields i h).kind_is

    pub record_line : (i : ℕ) → i < length lengths → line_of (get_or (length_words lengths) i 0) ≡ i
    record_line i h = ap line_of (record_at i h) ∙ (record_fields i h).line_is

    pub record_length : (i : ℕ) → i < length lengths → second_of (get_or (length_words lengths) i 0) ≡ get_or lengths i 0
    record_length i h = ap second_of (record_at i h) ∙ (record_fields i h).second_is

    -- the records are the lengths
    pub records_read : map second_of (take (length lengths) (length_words lengths)) ≡ lengths
    unfolding length_words
    records_read =
        ap (map second_of) (take_at records (total_length_word (sum lengths) ∷ []) (length lengths) records_count)
        ∙ map_tabulate second_of (length lengths) (λ i. cable_length_word i (get_or lengths i 0))
        ∙ tabulate_same (length lengths) _ _ (λ i h. (record_fields i h).second_is)
        ∙ sym (tabulate_of (length lengths) (λ i. get_or lengths i 0) 0 lengths refl (λ i h. refl))

    pub total_kind : kind_of (get_or (length_words lengths) (length lengths) 0) ≡ total_length
    total_kind = ap kind_of total_at ∙ (wide_field_apart total_length (sum lengths) (omega arith) F.total).kind_is

    pub total_read : total_of (get_or (length_words lengths) (length lengths) 0) ≡ sum lengths
    total_read = ap total_of total_at ∙ (wide_field_apart total_length (sum lengths) (omega arith) F.total).wide_is
