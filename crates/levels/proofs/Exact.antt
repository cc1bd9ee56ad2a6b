-- Levels in 1/64 dB are exact below 2 ^ 24: sums, differences and comparisons of levels are those of their counts, and -0 is no level.
-- Assumes nothing.
use mathlib.Core.Path.{◌≡◌, refl, sym, ap, ap₂, ◌∙◌, subst}
use Prim.Native.Nat.{ℕ, zero, suc, ◌+◌, ◌-◌, ◌*◌, ◌^◌, ◌≤◌, ◌<◌}
use native.Mathlib.Nat.{mul_assoc, lt_of_lt_of_le, zero-lt-suc, lt_irrefl, mul-pos, zero-mul, mul_comm, eq-or-lt_of_le}
use native.Mathlib.Omega.{arith}
use mathlib.Core.Bool.{Bool, true, false, not, ◌&&◌, ◌||◌, cond, true≢false}
use mathlib.Core.Logic.{◌⊎◌, inl, inr}
use lib.Dec.{T, ltb, leb, eqb, ltb→lt, lt→ltb, nltb→le, eqb→eq, leb→le, le→leb, lit<, lit≤, leb-suc-suc, eqb-suc-suc}
use lib.Pow.{pow_mono, shl_lt}
use lib.IntN.{ℤ, pos, negsuc, neg_ℤ, nat_abs, ◌+ℤ◌, ◌-ℤ◌, +ℤ_idr}
use lib.Signed.{lt_z, le_z}
use lib.Ieee.{Float, nan, inf, fin, binary32, up, down, round, neg, sum, add, sub, div, lt, le, of_int, of_bits, below, level}
use lib.Ieee.Fits.{down_pos, eq→eqb}
use lib.Ieee.Exact.{HasValue, round_exact}
use lib.Ieee.Back.{round_whole}
use lib.Ieee.Scale.{round_same}
use Rattle.levels.specs.Level.{level_of}
use Rattle.levels.specs.Promises.{negative, Exact}
use Rattle.levels.proofs.Values.{same_truth, add_values, neg_value, lt_values, eq_values}

-- below 2 ^ 24 a level is its count over 64 exactly
pub record InRange (z : ℤ) : Type 0 where
  pub below : nat_abs z < 16777216

-- ---- a level has its count's value
round_64 : (s : Bool) (n : ℕ) → n < 16777216 → HasValue (round binary32 s n 64) s n 64
round_64 s n h = round_exact binary32 s n 64 n 143 (lit< tt) h (lt_of_lt_of_le (shl_lt 24 143 h) (pow_mono {i = 167} {j = 277} (lit≤ tt))) (sym (mul_assoc n (2 ^ 143) 64))

pub level_value : (z : ℤ) → InRange z → Exact z
unfolding level_of
level_value (pos n) h = round_64 false n h.below
level_value (negsuc n) h = round_64 true (suc n) h.below

-- ---- sums
-- what rounding makes of a sum of counts is the level of the sum
after_sub : (a b : ℕ) → a < b → suc (b - suc a) ≡ b - a
after_sub a b h = omega arith

sum_is : (a b : ℤ) → sum binary32 (negative a) (nat_abs a) (negative b) (nat_abs b) 64 ≡ level_of (a +ℤ b)
unfolding sum level_of
sum_is (pos a) (pos b) = refl
sum_is (pos a) (negsuc b) = go (ltb a (suc b)) (ltb→lt a (suc b))
  where
    go : (t : Bool) → (T t → a < suc b)
        → cond t (round binary32 true (suc b - a) 64) (round binary32 false (a - suc b) 64) ≡ level_of (cond t (negsuc (suc b - suc a)) (pos (a - suc b)))
    go true h = ap (λ (n : ℕ). round binary32 true n 64) (sym (after_sub a (suc b) (h tt)))
    go false h = refl
sum_is (negsuc a) (pos b) = go (ltb (suc a) b) (ltb b (suc a)) (ltb→lt (suc a) b) (ltb→lt b (suc a)) (nltb→le (suc a) b) (nltb→le b (suc a))
  where
    go : (t u : Bool) → (T t → suc a < b) → (T u → b < suc a) → (T (not t) → b ≤ suc a) → (T (not u) → suc a ≤ b)
        → cond t (round binary32 false (b - suc a) 64) (round binary32 u (suc a - b) 64) ≡ level_of (cond u (negsuc (suc a - suc b)) (pos (b - suc a)))
    go true true h k m n = absurd (both (h tt) (k tt))
      where
        both : suc a < b → b < suc a → ⊥
        both p q = omega arith
    go true false h k m n = refl
    go false true h k m n = ap (λ (n : ℕ). round binary32 true n 64) (sym (after_sub b (suc a) (k tt)))
    go false false h k m n = ap (λ (n : ℕ). round binary32 false n 64) (level_out (m tt) (n tt))
      where
        level_out : b ≤ suc a → suc a ≤ b → suc a - b ≡ b - suc a
        level_out p q = omega arith
sum_is (negsuc a) (negsuc b) = ap (λ (n : ℕ). round binary32 true n 64) (twice a b)
  where
    twice : (a b : ℕ) → suc a + suc b ≡ suc (suc (a + b))
    twice a b = omega arith

pub level_add : (a b : ℤ) → InRange a → InRange b → add binary32 (level_of a) (level_of b) ≡ level_of (a +ℤ b)
level_add a b h k =
    add_values binary32 (level_of a) (level_of b) (negative a) (nat_abs a) (negative b) (nat_abs b) 64 (lit< tt) (level_value a h) (level_value b k) ∙ sum_is a b

-- ---- differences: the only count whose level's negation is no level is 0, and -0 added to a level leaves it
sum_minus_zero : (a : ℤ) → sum binary32 (negative a) (nat_abs a) true 0 64 ≡ level_of a
unfolding sum level_of
sum_minus_zero (pos n) = go (ltb n 0) (ltb→lt n 0)
  where
    none : n < 0 → ⊥
    none h = omega arith

    whole : n - 0 ≡ n
    whole = omega arith

    go : (t : Bool) → (T t → n < 0) → cond t (round binary32 true (0 - n) 64) (round binary32 false (n - 0) 64) ≡ round binary32 false n 64
    go true h = absurd (none (h tt))
    go false h = ap (λ (k : ℕ). round binary32 false k 64) whole
sum_minus_zero (negsuc n) = ap (λ (k : ℕ). round binary32 true k 64) whole
  where
    whole : suc n + 0 ≡ suc n
    whole = omega arith

negated : (b : ℤ) → 0 < nat_abs b → not (negative b) ≡ negative (neg_ℤ b)
negated (pos zero) h = absurd (lt_irrefl 0 h)
negated (pos (suc n)) h = refl
negated (negsuc n) h = refl

pub level_sub : (a b : ℤ) → InRange a → InRange b → sub binary32 (level_of a) (level_of b) ≡ level_of (a -ℤ b)
unfolding sub
level_sub a (pos zero) h k =
    add_values binary32 (level_of a) (neg (level_of (pos 0))) (negative a) (nat_abs a) true 0 64 (lit< tt) (level_value a h) (neg_value (level_of (pos 0)) false 0 64 (level_value (pos 0) k))
    ∙ sum_minus_zero a ∙ ap level_of (sym (+ℤ_idr a))
level_sub a (pos (suc n)) h k =
    add_values binary32 (level_of a) (neg (level_of (pos (suc n)))) (negative a) (nat_abs a) true (suc n) 64 (lit< tt) (level_value a h) (neg_value (level_of (pos (suc n))) false (suc n) 64 (level_value (pos (suc n)) k))
    ∙ sum_is a (negsuc n)
level_sub a (negsuc n) h k =
    add_values binary32 (level_of a) (neg (level_of (negsuc n))) (negative a) (nat_abs a) false (suc n) 64 (lit< tt) (level_value a h) (neg_value (level_of (negsuc n)) true (suc n) 64 (level_value (negsuc n) k))
    ∙ sum_is a (pos (suc n))

-- ---- comparisons
below_is : (a b : ℤ) → below (negative a) (nat_abs a) (negative b) (nat_abs b) ≡ lt_z a b
below_is (pos a) (pos b) = refl
below_is (pos a) (negsuc b) = refl
below_is (negsuc a) (pos b) = same_truth (ltb 0 (suc a + b)) true (λ t. tt) (λ t. lt→ltb 0 (suc a + b) more)
  where
    more : 0 < suc a + b
    more = omega arith
below_is (negsuc a) (negsuc b) = leb-suc-suc (suc b) a

pub level_lt : (a b : ℤ) → InRange a → InRange b → lt (level_of a) (level_of b) ≡ lt_z a b
level_lt a b h k =
    lt_values (level_of a) (level_of b) (negative a) (nat_abs a) (negative b) (nat_abs b) 64 (lit< tt) (level_value a h) (level_value b k) ∙ below_is a b

or_l : (p q : Bool) → T p → T (p || q)
or_l true q t = tt
or_l false q t = absurd t

or_r : (p q : Bool) → T q → T (p || q)
or_r true q t = tt
or_r false q t = t

and-true : (p : Bool) → T p → T (p && true)
and-true true t = tt
and-true false t = t

or_eq : (a b : ℕ) → (ltb a b || (eqb a b && true)) ≡ leb a b
or_eq a b = same_truth (ltb a b || (eqb a b && true)) (leb a b) (λ t. le→leb a b (into (ltb a b) (eqb a b) (ltb→lt a b) (eqb→eq a b) t)) (λ t. out (eq-or-lt_of_le (leb→le a b t)))
  where
    into : (p q : Bool) → (T p → a < b) → (T q → a ≡ b) → T (p || (q && true)) → a ≤ b
    into true q f g t = let h : a < b = f tt in omega arith
    into false true f g t = let h : a ≡ b = g tt in omega arith
    into false false f g t = absurd t

    out : (a ≡ b) ⊎ (a < b) → T (ltb a b || (eqb a b && true))
    out (inl h) = or_r (ltb a b) (eqb a b && true) (and-true (eqb a b) (eq→eqb h))
    out (inr h) = or_l (ltb a b) (eqb a b && true) (lt→ltb a b h)

le_is : (a b : ℤ) → (below (negative a) (nat_abs a) (negative b) (nat_abs b) || level (negative a) (nat_abs a) (negative b) (nat_abs b)) ≡ le_z a b
le_is (pos a) (pos b) = or_eq a b
le_is (pos a) (negsuc b) = same_truth (eqb a (suc b) && eqb a 0) false (λ t. apart (eqb a (suc b)) (eqb a 0) (eqb→eq a (suc b)) (eqb→eq a 0) t) (λ t. absurd t)
  where
    not_both : a ≡ suc b → a ≡ 0 → ⊥
    not_both p q = omega arith

    apart : (p q : Bool) → (T p → a ≡ suc b) → (T q → a ≡ 0) → T (p && q) → ⊥
    apart true true f g t = not_both (f tt) (g tt)
    apart true false f g t = t
    apart false q f g t = t
le_is (negsuc a) (pos b) = ap (λ (t : Bool). t || (eqb (suc a) b && eqb (suc a) 0)) (below_is (negsuc a) (pos b))
le_is (negsuc a) (negsuc b) =
    ap₂ (λ (t u : Bool). t || (u && true)) (leb-suc-suc (suc b) a) (eqb-suc-suc a b ∙ eqb_sym a b) ∙ or_eq b a
  where
    eqb_sym : (a b : ℕ) → eqb a b ≡ eqb b a
    eqb_sym a b = same_truth (eqb a b) (eqb b a) (λ t. eq→eqb (sym (eqb→eq a b t))) (λ t. eq→eqb (sym (eqb→eq b a t)))

pub level_le : (a b : ℤ) → InRange a → InRange b → le (level_of a) (level_of b) ≡ le_z a b
unfolding le
level_le a b h k =
    ap₂ (λ (t u : Bool). t || u)
    (lt_values (level_of a) (level_of b) (negative a) (nat_abs a) (negative b) (nat_abs b) 64 (lit< tt) (level_value a h) (level_value b k))
    (eq_values (level_of a) (level_of b) (negative a) (nat_abs a) (negative b) (nat_abs b) 64 (lit< tt) (level_value a h) (level_value b k))
    ∙ le_is a b

-- ---- -0 is no level
no_minus_zero : (z : ℤ) (e : ℤ) → HasValue (fin true 0 e) (negative z) (nat_abs z) 64 → ⊥
no_minus_zero (pos n) e v = true≢false v.0
no_minus_zero (negsuc n) e v =
    lt_irrefl 0 (subst (λ (x : ℕ). 0 < x) (sym v.1 ∙ ap (λ (x : ℕ). x * 64) (zero-mul (up e))) (mul-pos (zero-lt-suc n) (down_pos e)))

pub level_not_minus_zero : (z e : ℤ) → InRange z → level_of z ≡ fin true 0 e → ⊥
level_not_minus_zero z e h p = no_minus_zero z e (subst (λ (x : Float). HasValue x (negative z) (nat_abs z) 64) p (level_value z h))

-- ---- from a count of 1/64 dB: the count as an f32, over 64
over_64 : (x : Float) (n : ℕ) → HasValue x false n 1 → div binary32 x (fin false 1 (pos 6)) ≡ round binary32 false n 64
unfolding div
over_64 nan n v = absurd v
over_64 (inf s) n v = absurd v
over_64 (fin true m e) n v = absurd (true≢false v.0)
over_64 (fin false m e) n v =
    round_same binary32 false (m * up e * 1) (64 * down e) n 64 (mul-pos (lit< tt) (down_pos e)) (lit< tt)
    (ap (λ (x : ℕ). x * 64) v.1 ∙ mul_assoc n (down e) 64 ∙ ap (λ (x : ℕ). n * x) (mul_comm (down e) 64))

pub level_over_64 : (n : ℕ) → n ≤ 16777216 → div binary32 (of_int binary32 (pos n)) (of_bits binary32 0x4280_0000) ≡ level_of (pos n)
unfolding of_int of_bits level_of
level_over_64 n h = over_64 (round binary32 false n 1) n (round_whole binary32 false n h)

-- ---- the code's 0.0
pub level_zero : of_bits binary32 0 ≡ level_of (pos 0)
unfolding of_bits level_of round
level_zero = refl
