-- What a function promises that stores a list into a row, or values at places of it. Assumes nothing.
use Rattle.std.specs.Prelude.{ℕ, ◌+◌, ◌≡◌, List, [], ◌∷◌, length, set}
use Rattle.std.proofs.lemmas.List.Edits.{sets}

-- `after` is `before` with `written` stored from `at` on, and `next` is the place behind it
pub record Stored {A : Type 0} (before : List A) (at : ℕ) (written after : List A) (next : ℕ) : Type 0 where
  pub place : next ≡ at + length written
  pub row : after ≡ sets before at written

-- the list xs, with each of the values vs at the place beside it
unfoldable pub set_each : {A : Type 0} → List ℕ → List A → List A → List A
set_each [] vs xs = xs
set_each (i ∷ is) [] xs = xs
set_each (i ∷ is) (v ∷ vs) xs = set_each is vs (set xs i v)
