-- Values set at places: at each of the places its value, at every other place what stood there. Assumes nothing.
use Prim.Native.Nat.{ℕ, ◌+◌, ◌<◌}
use native.Mathlib.Omega.{arith}
use native.Mathlib.Decide.{ℕ_discrete}
use native.Mathlib.Numerals.{add-one}
use mathlib.Core.Path.{◌≡◌, refl, sym, ◌∙◌}
use mathlib.Core.Bool.{cond}
use mathlib.Core.List.Memᴰ
use mathlib.Core.List.{List, [], ◌∷◌, Memᴰ}
use mathlib.Core.Logic.{◌⊎◌, inl, inr}
use lib.ListN.{length, get_or, set, length-set}
use lib.Seq.{get_or-set_same, get_or-set_other}
use lib.Dec.{eqb}
use borrow.Author.Tests.{eq-eqb, ne_eqb}
use Rattle.lists.specs.Select.{index_of}
use Rattle.lists.specs.Stores.{set_each}
use Rattle.lists.proofs.Select.{Distinct}

pub length_set_each : (is vs xs : List ℕ) → length (set_each is vs xs) ≡ length xs
unfolding set_each
length_set_each [] vs xs = refl
length_set_each (i ∷ is) [] xs = refl
length_set_each (i ∷ is) (v ∷ vs) xs = length_set_each is vs (set xs i v) ∙ length-set xs i v

pub set_each_other : (is vs xs : List ℕ) (j : ℕ) → (Memᴰ j is → ⊥) → get_or (set_each is vs xs) j 0 ≡ get_or xs j 0
unfolding set_each
set_each_other [] vs xs j n = refl
set_each_other (i ∷ is) [] xs j n = refl
set_each_other (i ∷ is) (v ∷ vs) xs j n = set_each_other is vs (set xs i v) j (λ m. n (Memᴰ.tail m)) ∙ get_or-set_other xs i j v 0 (λ e. n (Memᴰ.head e))

pub set_each_there : (is vs xs : List ℕ) (j : ℕ) → Distinct is → length vs ≡ length is → j < length xs → Memᴰ j is → get_or (set_each is vs xs) j 0 ≡ get_or vs (index_of j is) 0
unfolding set_each index_of
set_each_there [] vs xs j u e h m = absurd (Memᴰ.not-nil m)
set_each_there (i ∷ is) [] xs j u e h m = absurd (omega arith)
set_each_there (i ∷ is) (v ∷ vs) xs j u e h m = go (ℕ_discrete j i) (λ n. set_each_there is vs (set xs i v) j u.1 (omega arith) (omega (arith, length-set xs i v)) n)
  where
    go : Dec (j ≡ i) → (Memᴰ j is → get_or (set_each is vs (set xs i v)) j 0 ≡ get_or vs (index_of j is) 0)
        → get_or (set_each is vs (set xs i v)) j 0 ≡ get_or (v ∷ vs) (cond (eqb j i) 0 (index_of j is + 1)) 0
    go (yes q) below =
        set_each_other is vs (set xs i v) j (λ n. u.0 (Memᴰ.cast (sym q) n)) ∙ rw (eq-eqb j i q) (rw q (get_or-set_same xs i v 0 (omega arith)))
    go (no q) below = rest (Memᴰ.cases_cons m)
      where
        rest : (j ≡ i) ⊎ Memᴰ j is → get_or (set_each is vs (set xs i v)) j 0 ≡ get_or (v ∷ vs) (cond (eqb j i) 0 (index_of j is + 1)) 0
        rest (inl r) = absurd (q r)
        rest (inr n) = rw (ne_eqb j i q, add-one) (below n)
