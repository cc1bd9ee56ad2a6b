-- The ranks by part, filled in from the last rank down. Assumes nothing.
use Prim.Native.Nat.{ℕ, suc, ◌+◌, ◌-◌, ◌<◌, ◌≤◌}
use native.Mathlib.Omega.{arith}
use native.Mathlib.Decide.{ℕ_discrete}
use mathlib.Core.Path.{◌≡◌, refl, ap, ◌∙◌}
use mathlib.Core.Logic.{◌⊎◌, inl, inr}
use mathlib.Core.Bool.{cond}
use mathlib.Core.List.{List, ◌∷◌}
use lib.ListN.{length, get_or, take, drop, set, replicate, length-set, length-drop, length-replicate}
use lib.Seq.{length-take-le, drop-cons, get_or-take}
use lib.Dec.{eqb}
use borrow.Author.Tests.{eq-eqb, ne_eqb}
use Rattle.words.specs.Limits.{most_parts}
use Rattle.lists.specs.Select.{index_of}
use Rattle.lists.proofs.Kept.{map_set_same, map_set_other}
use Rattle.words.specs.declared.Rank.{Rank}
use Rattle.order.specs.Order.{rank_in}
use Rattle.ordering.specs.Numbers.{rank_numbers, RanksOf}

rank_cons : (p x : ℕ) (xs : List ℕ) → ((p ≡ x) × (rank_in (x ∷ xs) p ≡ 0)) ⊎ ((p ≡ x → ⊥) × (rank_in (x ∷ xs) p ≡ rank_in xs p + 1))
unfolding rank_in index_of
rank_cons p x xs = go (ℕ_discrete p x)
  where
    go : Dec (p ≡ x) → ((p ≡ x) × (cond (eqb p x) 0 (index_of p xs + 1) ≡ 0)) ⊎ ((p ≡ x → ⊥) × (cond (eqb p x) 0 (index_of p xs + 1) ≡ index_of p xs + 1))
    go (yes e) = inl (e, rw (eq-eqb p x e) refl)
    go (no n) = inr (n, rw (ne_eqb p x n) refl)

-- Rank by part while it is filled: right from rank k on.
pub record Filling (parts : List ℕ) (n : ℕ) (rank : List Rank) (k : ℕ) : Type 0 where
  pub places : length rank ≡ most_parts
  pub down : k ≤ n
  pub by_part : (p : ℕ) → rank_in (drop k (take n parts)) p < length (drop k (take n parts)) → get_or (rank_numbers rank) p 0 ≡ k + rank_in (drop k (take n parts)) p

module _ (parts : List ℕ) (n : ℕ) (h : n ≤ most_parts) (len : length parts ≡ most_parts) (below : (k : ℕ) → get_or parts k 0 < most_parts) where
  pub filling_start : (rank : Rank) → Filling parts n (replicate most_parts rank) n
  filling_start rank =
      record {
        places = length-replicate most_parts rank;
        down = omega arith;
        by_part = λ p l. absurd (omega (arith, length-drop n (take n parts), length-take-le n parts (omega arith)));
      }

  module _ {rank : List Rank} {k : ℕ} (F : Filling parts n rank k) where
    pub filling_next : {r : Rank} {p : ℕ} → 0 < k → r.0 ≡ k - 1 → p ≡ get_or parts (k - 1) 0 → Filling parts n (set rank p r) (k - 1)
    unfolding rank_numbers
    filling_next {r} {p} g er ep =
        record {
          places = length-set rank _ r ∙ F.places;
          down = omega (arith, F.down);
          by_part = λ q l. rw (dropped, ep) (at_part q (rw dropped at l) (rank_cons q x xs));
        }
      where
        x : ℕ
        x = get_or parts (k - 1) 0

        xs : List ℕ
        xs = drop k (take n parts)

        dropped : drop (k - 1) (take n parts) ≡ x ∷ xs
        dropped =
            let e : suc (k - 1) ≡ k = omega arith in
            drop-cons (take n parts) (k - 1) 0 (omega (arith, F.down, length-take-le n parts (omega arith)))
            ∙ rw (get_or-take n parts (k - 1) 0 (omega (arith, F.down)), e) refl

        at_part : (q : ℕ) → rank_in (x ∷ xs) q < length (x ∷ xs) → ((q ≡ x) × (rank_in (x ∷ xs) q ≡ 0)) ⊎ ((q ≡ x → ⊥) × (rank_in (x ∷ xs) q ≡ rank_in xs q + 1))
            → get_or (rank_numbers (set rank x r)) q 0 ≡ k - 1 + rank_in (x ∷ xs) q
        at_part q l (inl f) = rw f.0 (map_set_same (λ (q : Rank). q.0) rank x r 0 (omega (arith, F.places, below (k - 1))) ∙ er ∙ omega (arith, f.1, ap (rank_in (x ∷ xs)) f.0))
        at_part q l (inr f) = map_set_other (λ (y : Rank). y.0) rank x q r 0 f.0 ∙ F.by_part q (omega (arith, f.1)) ∙ omega (arith, f.1)

    pub filling_end : k ≤ 0 → RanksOf (take n parts) rank
    filling_end g p l = (rw e at (F.by_part p)) l ∙ omega arith
      where
        e : k ≡ 0
        e = omega arith
