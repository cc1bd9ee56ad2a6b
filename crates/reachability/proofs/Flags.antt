-- Laws of sets kept as flags: membership, removal, size. Assumes nothing.
use Rattle.std.specs.Prelude.{Option}
use Prim.Native.Nat.{ℕ, ◌<◌, ◌≤◌}
use native.Mathlib.Omega.{arith}
use native.Mathlib.Decide.{ℕ_discrete, dec_lt}
use mathlib.Core.Path.{◌≡◌, refl, sym, ap, ◌∙◌}
use mathlib.Core.Bool.{Bool, true, false, not, ◌&&◌}
use mathlib.Core.List.{List, Memᴰ}
use lib.ListN.{length, get_or, set, replicate, get_or-replicate, get_or-eq_default}
use lib.Seq.{get_or-set_same, get_or-set_other, set_out}
use lib.Dec.{eqb}
use borrow.Author.Tests.{eq-eqb, ne_eqb}
use Rattle.words.specs.Limits.{most_parts}
use Rattle.lists.specs.Search.{seek}
use Rattle.lists.specs.Select.{range, member, without}
use Rattle.lists.proofs.Bools.{same_test}
use Rattle.lists.proofs.Select.{filter_e, filter_i, range_e, range_i, length_range, Distinct, distinct_range, distinct_filter}
use Rattle.lists.proofs.Sets.{member_e, member_i}
use Rattle.lists.proofs.Filters.{filter_same, filter_filter, filter_true, length_filter_le, front, seek_filter}
use Rattle.reachability.specs.Tables.{flagged}

pub cleared : (flags : List Bool) (p : ℕ) → get_or (set flags p false) p false ≡ false
cleared flags p = go (dec_lt p (length flags))
  where
    go : Dec (p < length flags) → get_or (set flags p false) p false ≡ false
    go (yes h) = get_or-set_same flags p false false h
    go (no h) = rw (set_out flags p false (omega arith)) (get_or-eq_default flags false (omega arith))

module _ (n : ℕ) (flags : List Bool) where
  pub flagged_e : {p : ℕ} → Memᴰ p (flagged n flags) → (p < n) × (get_or flags p false ≡ true)
  unfolding flagged
  flagged_e m = let h : _ = filter_e (λ q. get_or flags q false) (range n) m in (range_e n h.0, h.1)

  pub flagged_i : (p : ℕ) → p < n → get_or flags p false ≡ true → Memᴰ p (flagged n flags)
  unfolding flagged
  flagged_i p h e = filter_i (λ q. get_or flags q false) (range n) (range_i p n h) e

  pub member_flagged : (p : ℕ) → p < n → member p (flagged n flags) ≡ get_or flags p false
  member_flagged p h =
      same_test (member p (flagged n flags)) (get_or flags p false) (λ e. (flagged_e (member_e p (flagged n flags) e)).1) (λ e. member_i (flagged n flags) (flagged_i p h e))

  pub distinct_flagged : Distinct (flagged n flags)
  unfolding flagged
  distinct_flagged = distinct_filter (λ q. get_or flags q false) (range n) (distinct_range n)

  pub length_flagged : length (flagged n flags) ≤ n
  unfolding flagged
  length_flagged = omega (arith, length_filter_le (λ q. get_or flags q false) (range n), length_range n)

  pub without_flagged : (p : ℕ) → without p (flagged n flags) ≡ flagged n (set flags p false)
  unfolding flagged without
  without_flagged p = filter_filter _ _ (range n) ∙ filter_same _ _ (range n) (λ q m. go q (ℕ_discrete q p))
    where
      both : (b : Bool) → (b && false) ≡ false
      both true = refl
      both false = refl

      one : (b : Bool) → (b && true) ≡ b
      one true = refl
      one false = refl

      go : (q : ℕ) → Dec (q ≡ p) → (get_or flags q false && not (eqb p q)) ≡ get_or (set flags p false) q false
      go q (yes e) = rw (eq-eqb p q (sym e), e, cleared flags p) (both (get_or flags p false))
      go q (no m) = rw (ne_eqb p q (λ e. m (sym e)), get_or-set_other flags p q false false m) (one (get_or flags q false))

  pub lowest_flagged : seek (λ p. get_or flags p false) 0 n ≡ front (flagged n flags)
  unfolding flagged range
  lowest_flagged = seek_filter (λ p. get_or flags p false) 0 n

-- what a search of the flags found is what the set starts with
pub front_flagged : {n n' : ℕ} (flags : List Bool) {r x : Option ℕ} → n ≡ n' → r ≡ seek (λ p. get_or flags p false) 0 n → r ≡ x → front (flagged n' flags) ≡ x
front_flagged {n} {n'} flags {r} {x} e f g = sym (lowest_flagged n' flags) ∙ ap (λ (k : ℕ). seek (λ p. get_or flags p false) 0 k) (sym e) ∙ sym f ∙ g

-- every part
pub flagged_all : (n : ℕ) → n ≤ most_parts → flagged n (replicate most_parts true) ≡ range n
unfolding flagged
flagged_all n h = filter_same _ (λ p. true) (range n) (λ p m. get_or-replicate most_parts p true false (omega (arith, range_e n m))) ∙ filter_true (range n)
