-- The C form of the calls that draw: how an answer is told, and which numbers stay. Assumes nothing.
use Rattle.std.specs.Prelude.{ℕ, ◌≡◌, List}
use Rattle.words.specs.Limits as limits
use Rattle.hookup.specs.declared.Options.{Options}
use Rattle.hookup.specs.declared.Sheet.{Sheet}
use Rattle.hookup.specs.Answer.{Answer, Drew}
use Rattle.exports.specs.Told.{Told}

-- an output of so many words is long enough for every sheet, and with a discount one of so many more (proofs/Bounds.antt)
abbrev pub most_words : ℕ
most_words = limits.most_words

abbrev pub most_quoted_words : ℕ
most_quoted_words = limits.most_quoted_words

-- the three numbers that a caller lends
pub record Lent : Type 0 where
  pub words : ℕ
  pub crossings : ℕ
  pub place : ℕ

abbrev pub lent : ℕ → ℕ → ℕ → Lent
lent words crossings place = record { words = words; crossings = crossings; place = place }

-- an answer by the numbers before and after, and a result: 0 is a sheet with its words and crossings, any other result a refusal with its
-- place, and then the words and the crossings stay
abbrev pub ToldSheet : Answer → Lent → Lent → ℕ → Type 0
ToldSheet answer numbers left result =
    Told (λ (s : Sheet). (left.words ≡ s.words) × (left.crossings ≡ s.crossings)) ((left.words ≡ numbers.words) × (left.crossings ≡ numbers.crossings))
    answer numbers.place left.place result

-- a call on what the caller gives and a list, with what stood in the output and in the numbers before and after, and its result
pub record Called (options : Options) (list before after : List ℕ) (numbers left : Lent) (result : ℕ) : Type 0 where
  pub answer : Answer
  pub drew : Drew options list before after answer
  pub told : ToldSheet answer numbers left result
