-- What document 01 asks of two cables may be asked of them either way round. Assumes nothing.
use Prim.Native.Nat.{ℕ}
use mathlib.Core.Logic.{inl, inr, ⊎_elim}
use mathlib.Core.List.{List}
use Rattle.geometry.specs.Spots.{Spot}
use Rattle.geometry.specs.Lines.{CrossingAt, Together}

crossing_back : (ps qs : List Spot) (s : Spot) → CrossingAt ps qs s → CrossingAt qs ps s
crossing_back ps qs s (inl X) = inr X
crossing_back ps qs s (inr X) = inl X

pub together_back :
    (spot : ℕ → Spot) (a b : ℕ) (ps : List Spot) (c d : ℕ) (qs : List Spot) → Together spot a b ps c d qs → Together spot c d qs a b ps
together_back spot a b ps c d qs T = record {
  once = λ s r f g. T.once s r (crossing_back qs ps s f) (crossing_back qs ps r g);
  shared = λ s f g. ⊎_elim (λ X. inl (crossing_back ps qs s X)) (λ C. inr (C.0, C.2, C.1, C.3)) (T.shared s g f);
}
