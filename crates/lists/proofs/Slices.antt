-- Part of a list, from some place on, after a store elsewhere, and the part that goes to the end; and a bound on what one number fills.
-- Assumes nothing.
use Prim.Native.Nat.{ℕ, zero, suc, ◌+◌, ◌-◌, ◌<◌, ◌≤◌}
use native.Mathlib.Omega.{arith}
use mathlib.Core.Path.{◌≡◌, ap, ◌∙◌}
use mathlib.Core.List.{List, []}
use lib.ListN.{length, get_or, take, drop, set, replicate, length-drop, drop_of_length-le}
use Rattle.std.proofs.Common.{get_or-drop}
use lib.Seq.{take_all, drop-set-add, drop-set-lt, take-set-le}

module _ {A : Type 0} (l : List A) (a n i : ℕ) (v : A) where
  pub slice_set_before : i < a → take n (drop a (set l i v)) ≡ take n (drop a l)
  slice_set_before h = ap (take n) (drop-set-lt a l i v h)

  pub slice_set_behind : a + n ≤ i → take n (drop a (set l i v)) ≡ take n (drop a l)
  slice_set_behind h =
      let e : i ≡ a + (i - a) = omega arith in
      rw (e, drop-set-add a l (i - a) v) (take-set-le n (drop a l) (i - a) v (omega arith))

module _ {A : Type 0} (l : List A) (a : ℕ) where
  -- the part from a place to the end, and what then lies behind it
  pub tail_part : take (length l - a) (drop a l) ≡ drop a l
  tail_part = take_all (length l - a) (drop a l) (omega (arith, length-drop a l))

  pub tail_rest : drop (length l - a) (drop a l) ≡ []
  tail_rest = drop_of_length-le (drop a l) {i = length l - a} (omega (arith, length-drop a l))

  -- where its elements stand in the list
  pub tail_at : (i : ℕ) (d : A) → get_or (take (length l - a) (drop a l)) i d ≡ get_or l (i + a) d
  tail_at i d = rw tail_part (get_or-drop a l i d ∙ ap (λ (k : ℕ). get_or l k d) (omega arith))

  pub tail_length : length (take (length l - a) (drop a l)) ≡ length l - a
  tail_length = rw tail_part (length-drop a l)

pub replicate_below : (k v n i : ℕ) → v < n → get_or (replicate k v) i 0 < n
replicate_below zero v n i h = omega arith
replicate_below (suc k) v n zero h = h
replicate_below (suc k) v n (suc i) h = replicate_below k v n i h
