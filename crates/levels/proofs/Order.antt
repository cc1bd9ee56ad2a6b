-- The order of levels in whole 1/64 dB: transitive, antisymmetric, kept by a sum, and what `lesser` and `greater` pick. Assumes nothing.
use mathlib.Core.Path.{◌≡◌, sym, ap, ◌∙◌, subst}
use Prim.Native.Nat.{ℕ, suc, ◌+◌, ◌-◌, ◌≤◌, ◌<◌}
use native.Mathlib.Nat.{le_trans, le_antisymm}
use native.Mathlib.Omega.{arith}
use mathlib.Core.Bool.{Bool, true, false, not, cond}
use lib.Dec.{T, ltb, leb→le, le→leb, ltb→lt, nltb→le}
use lib.IntN.{ℤ, pos, negsuc, ◌+ℤ◌, +ℤ_assoc, +ℤ_comm}
use lib.Signed.{le_z, lt_z, ◌≤ℤ◌, lt_z_no, ≤ℤ_refl}
use Rattle.levels.specs.SignalPaths.{lesser, greater}

le_trans_test : (a b c : ℤ) → T (le_z a b) → T (le_z b c) → T (le_z a c)
le_trans_test (pos a) (pos b) (pos c) h k = le→leb a c (le_trans (leb→le a b h) (leb→le b c k))
le_trans_test (pos a) (pos b) (negsuc c) h k = k
le_trans_test (pos a) (negsuc b) c h k = absurd h
le_trans_test (negsuc a) (pos b) (pos c) h k = tt
le_trans_test (negsuc a) (pos b) (negsuc c) h k = absurd k
le_trans_test (negsuc a) (negsuc b) (pos c) h k = tt
le_trans_test (negsuc a) (negsuc b) (negsuc c) h k = le→leb c a (le_trans (leb→le c b k) (leb→le b a h))

pub ≤ℤ_trans : {a b c : ℤ} → a ≤ℤ b → b ≤ℤ c → a ≤ℤ c
≤ℤ_trans {a} {b} {c} h k = record { le = le_trans_test a b c h.le k.le }

le_antisym : (a b : ℤ) → T (le_z a b) → T (le_z b a) → a ≡ b
le_antisym (pos a) (pos b) h k = ap pos (le_antisymm (leb→le a b h) (leb→le b a k))
le_antisym (pos a) (negsuc b) h k = absurd h
le_antisym (negsuc a) (pos b) h k = absurd k
le_antisym (negsuc a) (negsuc b) h k = ap negsuc (le_antisymm (leb→le a b k) (leb→le b a h))

pub ≤ℤ_antisym : {a b : ℤ} → a ≤ℤ b → b ≤ℤ a → a ≡ b
≤ℤ_antisym {a} {b} h k = le_antisym a b h.le k.le

-- ---- a ≤ b where b is a and some more
sub_le : (n a : ℕ) (t : Bool) → T (le_z (negsuc a) (cond t (negsuc (suc a - suc n)) (pos (n - suc a))))
sub_le n a true = le→leb (suc a - suc n) a less
  where
    less : suc a - suc n ≤ a
    less = omega arith
sub_le n a false = tt

more_le : (a : ℤ) (n : ℕ) → T (le_z a (a +ℤ pos n))
more_le (pos a) n = le→leb a (a + n) more
  where
    more : a ≤ a + n
    more = omega arith
more_le (negsuc a) n = sub_le n a (ltb n (suc a))

le_more : (a b : ℤ) → T (le_z a b) → (n : ℕ) × (a +ℤ pos n ≡ b)
le_more (pos a) (pos b) h = (b - a, ap pos (back (leb→le a b h)))
  where
    back : a ≤ b → a + (b - a) ≡ b
    back g = omega arith
le_more (pos a) (negsuc b) h = absurd h
le_more (negsuc a) (pos b) h = (suc a + b, go (ltb (suc a + b) (suc a)) (ltb→lt (suc a + b) (suc a)))
  where
    over : suc a + b < suc a → ⊥
    over g = omega arith

    rest : suc a + b - suc a ≡ b
    rest = omega arith

    go : (t : Bool) → (T t → suc a + b < suc a) → cond t (negsuc (suc a - suc (suc a + b))) (pos (suc a + b - suc a)) ≡ pos b
    go true g = absurd (over (g tt))
    go false g = ap pos rest
le_more (negsuc a) (negsuc b) h = (a - b, go (ltb (a - b) (suc a)) (nltb→le (a - b) (suc a)) (leb→le b a h))
  where
    under : suc a ≤ a - b → ⊥
    under g = omega arith

    rest : b ≤ a → suc a - suc (a - b) ≡ b
    rest g = omega arith

    go : (t : Bool) → (T (not t) → suc a ≤ a - b) → b ≤ a → cond t (negsuc (suc a - suc (a - b))) (pos (a - b - suc a)) ≡ negsuc b
    go true g k = ap negsuc (rest k)
    go false g k = absurd (under (g tt))

pub ≤ℤ_add : (a b c : ℤ) → a ≤ℤ b → (a +ℤ c) ≤ℤ (b +ℤ c)
≤ℤ_add a b c h =
    let d = le_more a b h.le in
    let swap : a +ℤ c +ℤ pos d.0 ≡ b +ℤ c =
    +ℤ_assoc a c (pos d.0) ∙ ap (λ (z : ℤ). a +ℤ z) (+ℤ_comm c (pos d.0)) ∙ sym (+ℤ_assoc a (pos d.0) c) ∙ ap (λ (z : ℤ). z +ℤ c) d.1 in
    record { le = subst (λ (z : ℤ). T (le_z (a +ℤ c) z)) swap (more_le (a +ℤ c) d.0) }

-- ---- the lesser and the greater
lt_le : (a b : ℤ) → T (lt_z a b) → a ≤ℤ b
lt_le a b t = record { le = go a b t }
  where
    less : (a b : ℕ) → a < b → a ≤ b
    less a b h = omega arith

    go : (a b : ℤ) → T (lt_z a b) → T (le_z a b)
    go (pos a) (pos b) t = le→leb a b (less a b (ltb→lt a b t))
    go (pos a) (negsuc b) t = t
    go (negsuc a) (pos b) t = tt
    go (negsuc a) (negsuc b) t = le→leb b a (less b a (ltb→lt b a t))

module _ (a b : ℤ) where
  pub lesser_left : lesser a b ≤ℤ a
  unfolding lesser
  lesser_left = go (lt_z b a) (lt_le b a)
    where
      go : (t : Bool) → (T t → b ≤ℤ a) → cond t b a ≤ℤ a
      go true h = h tt
      go false h = ≤ℤ_refl a

  pub lesser_right : lesser a b ≤ℤ b
  unfolding lesser
  lesser_right = go (lt_z b a) (λ t. lt_z_no t)
    where
      go : (t : Bool) → (T (not t) → a ≤ℤ b) → cond t b a ≤ℤ b
      go true h = ≤ℤ_refl b
      go false h = h tt

  pub greater_left : a ≤ℤ greater a b
  unfolding greater
  greater_left = go (lt_z a b) (lt_le a b)
    where
      go : (t : Bool) → (T t → a ≤ℤ b) → a ≤ℤ cond t b a
      go true h = h tt
      go false h = ≤ℤ_refl a

  pub greater_right : b ≤ℤ greater a b
  unfolding greater
  greater_right = go (lt_z a b) (λ t. lt_z_no t)
    where
      go : (t : Bool) → (T (not t) → b ≤ℤ a) → b ≤ℤ cond t b a
      go true h = ≤ℤ_refl b
      go false h = h tt

  -- each is one of the two
  pub lesser_one : (P : ℤ → Type 0) → P a → P b → P (lesser a b)
  unfolding lesser
  lesser_one P p q = go (lt_z b a)
    where
      go : (t : Bool) → P (cond t b a)
      go true = q
      go false = p

  pub greater_one : (P : ℤ → Type 0) → P a → P b → P (greater a b)
  unfolding greater
  greater_one P p q = go (lt_z a b)
    where
      go : (t : Bool) → P (cond t b a)
      go true = q
      go false = p
