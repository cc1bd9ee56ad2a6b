-- The three cases of a file, each by its test, and the text that is printed for each. Assumes nothing.
use Prim.Native.Nat.{ℕ, ◌*◌, ◌/◌, ◌%◌, ◌≤◌, ◌<◌}
use mathlib.Core.Path.{◌≡◌, refl, sym, ◌∙◌, ap}
use mathlib.Core.Bool.{Bool, true, false, cond}
use mathlib.Core.List.{List, ◌++◌}
use native.Mathlib.Omega.{arith}
use Rattle.std.specs.Prelude.{Result, Ok, Err}
use lib.ListN.{length, take, drop}
use lib.Seq.{take_at}
use lib.Dec.{ltb, eqb}
use borrow.Author.Tests.{ltb-false, lt-ltb, le-ltb, eq-eqb, ne_eqb}
use Rattle.lists.specs.Stores.{Stored}
use Rattle.lists.proofs.Stores.{stored_front}
use Rattle.lists.proofs.Select.{length_tabulate}
use Rattle.hookup.specs.Options.{plain}
use Rattle.hookup.specs.Outcome.{outcome}
use Rattle.text.specs.Bytes.{words_in}
use Rattle.printing.specs.Printed.{most_bytes, loaded, loaded_row, error_text, answer_text, file_text, printed}
use Rattle.printing.specs.declared.FileError.{FileError}
use Rattle.printing.specs.declared.FileError.TheVariants.{TooLarge, Broken}
use Rattle.printing.proofs.AnswerLaws.{outcome_within_lem, length_answer_text}

pub length_words_in : (bytes : List ℕ) → length (words_in bytes) ≡ length bytes / 4
unfolding words_in
length_words_in bytes = length_tabulate (length bytes / 4) _

module _ (bytes : List ℕ) where
  pub loaded_large : most_bytes < length bytes → loaded bytes ≡ Err TooLarge
  unfolding loaded
  loaded_large h = rw (lt-ltb most_bytes (length bytes) h) refl

  pub loaded_broken : length bytes ≤ most_bytes → (length bytes % 4 ≡ 0 → ⊥) → loaded bytes ≡ Err Broken
  unfolding loaded
  loaded_broken h n = rw (le-ltb most_bytes (length bytes) h, ne_eqb (length bytes % 4) 0 n) refl

  pub loaded_words : length bytes ≤ most_bytes → length bytes % 4 ≡ 0 → loaded bytes ≡ Ok (length bytes / 4)
  unfolding loaded
  loaded_words h e = rw (le-ltb most_bytes (length bytes) h, eq-eqb (length bytes % 4) 0 e) refl

  -- how many words there are, and at most
  pub loaded_count : {n : ℕ} → loaded bytes ≡ Ok n → (length bytes / 4 ≡ n) × (n ≤ most_bytes / 4)
  unfolding loaded
  loaded_count {n} e = go (ltb most_bytes (length bytes)) (eqb (length bytes % 4) 0) refl e
    where
      go : (a b : Bool) → ltb most_bytes (length bytes) ≡ a → cond a (Err TooLarge) (cond b (Ok (length bytes / 4)) (Err Broken)) ≡ Ok n → (length bytes / 4 ≡ n) × (n ≤ most_bytes / 4)
      go true b t f = let z : ◌≡◌ {A = ℕ} 0 1 = cc in absurd (omega arith)
      go false false t f = let z : ◌≡◌ {A = ℕ} 0 1 = cc in absurd (omega arith)
      go false true t f =
          let h : length bytes / 4 ≡ n = cc in
          (h, omega (arith, ltb-false most_bytes (length bytes) t))

  -- room for a sheet of so many words is room for every text
  pub length_printed : (words : ℕ) → 6 ≤ words → length (printed bytes words) ≤ 9 * words
  unfolding printed
  length_printed words h = go (loaded bytes)
    where
      go : (l : Result ℕ FileError) → length (file_text l (answer_text (outcome plain (words_in bytes) words))) ≤ 9 * words
      go (Err TooLarge) = omega arith
      go (Err Broken) = omega arith
      go (Ok n) = length_answer_text words (outcome plain (words_in bytes) words) h (outcome_within_lem plain (words_in bytes) words)

  module _ (words : ℕ) {out last : List ℕ} {r : ℕ} where
    pub error_stored : {error : FileError} → loaded bytes ≡ Err error → Stored out 0 (error_text error) last r → Stored out 0 (printed bytes words) last r
    unfolding printed
    error_stored e S = rw e S

    pub words_stored : {n : ℕ} (l : Result ℕ FileError) (row : List ℕ) {now : List ℕ} → l ≡ loaded bytes → l ≡ Ok n → now ≡ loaded_row l bytes row
        → Stored out 0 (answer_text (outcome plain (take n now) words)) last r → Stored out 0 (printed bytes words) last r
    unfolding printed
    words_stored {n} l row {now} k e f S =
        let g : now ≡ words_in bytes ++ drop n row = f ∙ ap (λ (x : Result ℕ FileError). loaded_row x bytes row) e in
        let h : take n now ≡ words_in bytes = ap (take n) g ∙ take_at (words_in bytes) (drop n row) n (length_words_in bytes ∙ (loaded_count (sym k ∙ e)).0) in
        rw (sym k ∙ e) (rw h at S)

    -- the text opens the output
    pub prints : 6 ≤ words → 9 * words ≤ length out → Stored out 0 (printed bytes words) last r → (r ≡ length (printed bytes words)) × (last ≡ printed bytes words ++ drop r out)
    prints h k S =
        let e : r ≡ length (printed bytes words) = omega (arith, S.place) in
        (e, stored_front S (omega (arith, length_printed words h)) ∙ ap (λ (i : ℕ). printed bytes words ++ drop i out) (sym e))
