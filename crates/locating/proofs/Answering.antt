-- The answers for a row of marks, one after the other, and the call as a whole. Assumes nothing.
use Rattle.checks.specs.declared.Fault.{Fault}
use Rattle.checks.specs.Checks.{passed, refused}
use Prim.Native.Nat.{ℕ, ◌+◌, ◌<◌, ◌≤◌}
use native.Mathlib.Omega.{arith}
use mathlib.Core.Path.{◌≡◌, refl, sym, ap, ap₂, ◌∙◌}
use mathlib.Core.List.{List, ◌++◌}
use lib.ListN.{length, get_or, set, drop}
use lib.Seq.{ext_get_or}
use Rattle.lists.proofs.Fill.{Filled, filled_none, filled_more}
use Rattle.words.specs.Words.{mark_x, mark_y}
use Rattle.words.specs.Limits.{most_marks}
use Rattle.checks.specs.declared.Fault.TheVariants as faults
use Rattle.checks.specs.Outcome.{Outcome, row_after}
use Rattle.station.specs.Station.{station_of}
use Rattle.geometry.specs.Spots.{spot_at}
use Rattle.validation.specs.Outcome.{sheet_verdict}
use Rattle.location.specs.declared.Hit.{Hit}
use Rattle.location.specs.Hits.{mark_spot, hit_at, word_to, hit_words}
use Rattle.location.specs.Outcome.{locate_outcome, verdict_to, Locates}
use Rattle.location.proofs.Answers.{hits_counted, mark_refuses_21, mark_refuses_22, mark_refuses_11, mark_passes}
use Rattle.location.proofs.Locating.{hit_at_lem, locates}

-- one mark
pub answered :
    (list sheet : List ℕ) (mark : ℕ) {w x y : ℕ} {hit : Hit} → w ≡ word_to hit → hit ≡ hit_at (station_of list) sheet (spot_at x y)
    → x ≡ mark_x mark → y ≡ mark_y mark → w ≡ word_to (hit_at (station_of list) sheet (mark_spot mark))
answered list sheet mark e f g h =
    e ∙ ap word_to f ∙ ap₂ (λ (a b : ℕ). word_to (hit_at (station_of list) sheet (spot_at a b))) g h

-- the word for the mark at a place
abbrev pub word_at : List ℕ → List ℕ → List ℕ → ℕ → ℕ
word_at list sheet marks j = word_to (hit_at (station_of list) sheet (mark_spot (get_or marks j 0)))

-- the marks before mark k are answered, in a row that is as long as the marks
pub record Answering (list sheet marks row hits : List ℕ) (k : ℕ) : Type 0 where
  pub long : length row ≡ length marks
  pub few : k ≤ length marks
  pub done : Filled (word_at list sheet marks) 0 k row hits

pub answering_start :
    (list sheet : List ℕ) {marks row : List ℕ} → length row ≡ length marks → Answering list sheet marks row row 0
answering_start list sheet {marks} {row} e =
    record { long = e; few = omega arith; done = filled_none (word_at list sheet marks) 0 row }

module _
    {list sheet marks row hits : List ℕ} {k : ℕ} (A : Answering list sheet marks row hits k) where
  pub answering_room : k < length marks → k < length hits
  answering_room h = omega (arith, A.long, A.done.same)

  pub answering_next :
      k < length marks → {w : ℕ} → w ≡ word_at list sheet marks k → Answering list sheet marks row (set hits k w) (k + 1)
  answering_next h {w} e = record {
    long = A.long;
    few = omega arith;
    done = filled_more (word_at list sheet marks) 0 w (omega (arith, A.long)) e A.done;
  }

  pub answering_end : length marks ≤ k → hits ≡ hit_words (station_of list) sheet marks
  answering_end h =
      let same = A.done.same ∙ A.long in
      ext_get_or 0 hits (hit_words (station_of list) sheet marks) (same ∙ sym (hits_counted list sheet marks))
      (λ j l. A.done.done j (omega arith) ∙ sym (hit_at_lem (station_of list) sheet marks j (omega arith)))

-- The call

module _ (list sheet marks before : List ℕ) where
  located :
      {o : Outcome ℕ Unit} {after : List ℕ} → locate_outcome list sheet marks (length before) ≡ o → after ≡ row_after o before
      → Locates list sheet marks before after (verdict_to o)
  located {o} {after} e f =
      locates list sheet marks before after (verdict_to o) (sym (ap verdict_to e))
      (f ∙ sym (ap (λ (x : Outcome ℕ Unit). row_after x before) e))

  pub locate_21 : most_marks < length marks → Locates list sheet marks before before (refused faults.TooManyMarks (length marks))
  locate_21 h = located (mark_refuses_21 list sheet marks (length before) h) refl

  module _ (few : length marks ≤ most_marks) where
    pub locate_22 : {c : Fault} {p : ℕ} → sheet_verdict list sheet ≡ refused c p → Locates list sheet marks before before (refused faults.SheetRefused p)
    locate_22 {c} {p} e = located (mark_refuses_22 list sheet marks (length before) few c p e) refl

    module _ (pass : sheet_verdict list sheet ≡ passed) where
      pub locate_11 : length before < length marks → Locates list sheet marks before before (refused faults.OutputTooShort (length marks))
      locate_11 h = located (mark_refuses_11 list sheet marks (length before) few pass h) refl

      -- behind the answers the row stays as it was
      pub locate_answers :
          length marks ≤ length before → {words : List ℕ} → words ≡ hit_words (station_of list) sheet marks
          → Locates list sheet marks before (words ++ drop (length marks) before) passed
      locate_answers h e =
          located (mark_passes list sheet marks (length before) few pass h)
          (ap (λ (ws : List ℕ). ws ++ drop (length marks) before) e
          ∙ ap (λ (k : ℕ). hit_words (station_of list) sheet marks ++ drop k before) (sym (hits_counted list sheet marks)))
