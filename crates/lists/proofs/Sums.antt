-- Counts and sums over the numbers below m: one number more, a test and its opposite, one number of each key. Assumes nothing.
use Prim.Native.Nat.{ℕ, zero, suc, ◌+◌, ◌*◌, ◌<◌, ◌≤◌}
use mathlib.Core.Path.{◌≡◌, refl, sym, ◌∙◌, ap}
use mathlib.Core.Bool.{Bool, true, false, not, ◌&&◌, ◌||◌, and-false}
use mathlib.Core.List.{List, [], ◌∷◌, ◌++◌, map-append}
use native.Mathlib.Omega.{arith}
use native.Mathlib.Nat.{add-zero}
use native.Mathlib.Decide.{dec_lt, ℕ_discrete}
use lib.ListN.{length}
use lib.Dec.{eqb, ltb}
use borrow.Author.Tests.{eqb-true, eq-eqb, ne_eqb, lt-ltb, le-ltb}
use Rattle.lists.specs.Select.{up_from, range, tabulate, count, sum, one_if}
use Rattle.lists.proofs.Bools.{and_e}
use Rattle.lists.proofs.Tests.{one_if_le, one_if_or}

pub up_from_suc : (s k : ℕ) → up_from s (suc k) ≡ up_from s k ++ (s + k) ∷ []
unfolding up_from
up_from_suc s zero = rw add-zero
up_from_suc s (suc k) =
    let e : s + 1 + k ≡ s + suc k = omega arith in
    ap (λ (l : List ℕ). s ∷ l) (up_from_suc (s + 1) k ∙ rw e)

pub range_suc : (m : ℕ) → range (suc m) ≡ range m ++ m ∷ []
unfolding range
range_suc m = let e : 0 + m ≡ m = omega arith in up_from_suc 0 m ∙ rw e

pub count_length : {A : Type 0} (p : A → Bool) (l : List A) → count p l ≤ length l
unfolding count
count_length p [] = omega arith
count_length p (x ∷ xs) = omega (arith, one_if_le (p x), count_length p xs)

pub count_append : {A : Type 0} (q : A → Bool) (l r : List A) → count q (l ++ r) ≡ count q l + count q r
unfolding count
count_append q [] r = omega arith
count_append q (x ∷ l) r = rw (count_append q l r) (omega arith)

pub count_range : (q : ℕ → Bool) (m : ℕ) → count q (range (suc m)) ≡ count q (range m) + one_if (q m)
unfolding count
count_range q m = rw (range_suc, count_append) (omega arith)

pub count_range_zero : (q : ℕ → Bool) → count q (range 0) ≡ 0
unfolding count range up_from
count_range_zero q = refl

-- Of the numbers below m: none, every one, at least as many, a test and its opposite

pub count_none : (q : ℕ → Bool) (m : ℕ) → ((i : ℕ) → i < m → q i ≡ false) → count q (range m) ≡ 0
count_none q zero h = count_range_zero q
count_none q (suc m) h = rw (count_range q m, count_none q m (λ i l. h i (omega arith)), h m (omega arith)) refl

pub count_all : (q : ℕ → Bool) (m : ℕ) → ((i : ℕ) → i < m → q i ≡ true) → count q (range m) ≡ m
count_all q zero h = count_range_zero q
count_all q (suc m) h = rw (count_range q m, count_all q m (λ i l. h i (omega arith)), h m (omega arith)) (omega arith)

pub count_not : (q : ℕ → Bool) (m : ℕ) → count q (range m) + count (λ i. not (q i)) (range m) ≡ m
count_not q zero = rw (count_range_zero q, count_range_zero (λ i. not (q i))) refl
count_not q (suc m) = rw (count_range q m, count_range (λ i. not (q i)) m) (go (q m) (count_not q m))
  where
    go : (b : Bool) → count q (range m) + count (λ i. not (q i)) (range m) ≡ m → count q (range m) + one_if b + (count (λ i. not (q i)) (range m) + one_if (not b)) ≡ suc m
    go true e = omega arith
    go false e = omega arith

-- two tests that no number passes together
pub count_or :
    (p q : ℕ → Bool) (m : ℕ) → ((i : ℕ) → i < m → p i ≡ true → q i ≡ false)
    → count (λ i. p i || q i) (range m) ≡ count p (range m) + count q (range m)
count_or p q zero h = omega (arith, count_range_zero p, count_range_zero q, count_range_zero (λ i. p i || q i))
count_or p q (suc m) h =
    omega (
      arith,
      count_range p m,
      count_range q m,
      count_range (λ i. p i || q i) m,
      one_if_or (p m) (q m) (h m (omega arith)),
      count_or p q m (λ i l. h i (omega arith)),
    )

-- exactly one number passes
pub count_one :
    (q : ℕ → Bool) (m e : ℕ) → e < m → q e ≡ true → ((i : ℕ) → i < m → q i ≡ true → i ≡ e) → count q (range m) ≡ 1
count_one q zero e l t u = absurd (omega arith)
count_one q (suc m) e l t u =
    count_range q m ∙ go (ℕ_discrete e m) (λ l'. count_one q m e l' t (λ i s. u i (omega arith)))
  where
    fails : (b : Bool) (i : ℕ) → q i ≡ b → i < suc m → (i ≡ e → ⊥) → q i ≡ false
    fails true i s h n = absurd (n (u i h s))
    fails false i s h n = s

    go : Dec (e ≡ m) → (e < m → count q (range m) ≡ 1) → count q (range m) + one_if (q m) ≡ 1
    go (yes s) below =
        let z : count q (range m) ≡ 0 = count_none q m (λ i h. fails (q i) i refl (omega arith) (λ r. omega arith)) in
        let o : q m ≡ true = ap q (sym s) ∙ t in
        rw (z, o) refl
    go (no n) below =
        let z : q m ≡ false = fails (q m) m refl (omega arith) (λ r. n (sym r)) in
        rw (below (omega arith), z) refl

pub count_ext : (p q : ℕ → Bool) (m : ℕ) → ((i : ℕ) → i < m → p i ≡ q i) → count p (range m) ≡ count q (range m)
count_ext p q zero h = count_range_zero p ∙ sym (count_range_zero q)
count_ext p q (suc m) h = rw (count_range p m, count_range q m, count_ext p q m (λ i l. h i (omega arith)), h m (omega arith)) refl

-- By a key: those of key less than N + 1 are those of key less than N and those of key N.

key_below : (b : Bool) (k N : ℕ) → one_if (b && ltb k (suc N)) ≡ one_if (b && ltb k N) + one_if (b && eqb k N)
key_below false k N = refl
key_below true k N = go (dec_lt k N) (ℕ_discrete k N)
  where
    go : Dec (k < N) → Dec (k ≡ N) → one_if (ltb k (suc N)) ≡ one_if (ltb k N) + one_if (eqb k N)
    go (yes l) d = rw (lt-ltb k (suc N) (omega arith), lt-ltb k N l, ne_eqb k N (λ e. omega arith)) refl
    go (no l) (yes e) = rw (lt-ltb k (suc N) (omega arith), le-ltb k N (omega arith), eq-eqb k N e) refl
    go (no l) (no e) = rw (le-ltb k (suc N) (omega arith), le-ltb k N (omega arith), ne_eqb k N e) refl

pub count_key :
    (q : ℕ → Bool) (key : ℕ → ℕ) (N m : ℕ)
    → count (λ i. q i && ltb (key i) (suc N)) (range m) ≡ count (λ i. q i && ltb (key i) N) (range m) + count (λ i. q i && eqb (key i) N) (range m)
count_key q key N zero =
    rw (count_range_zero (λ i. q i && ltb (key i) (suc N)), count_range_zero (λ i. q i && ltb (key i) N), count_range_zero (λ i. q i && eqb (key i) N)) refl
count_key q key N (suc m) =
    omega (
      arith,
      count_range (λ i. q i && ltb (key i) (suc N)) m,
      count_range (λ i. q i && ltb (key i) N) m,
      count_range (λ i. q i && eqb (key i) N) m,
      key_below (q m) (key m) N,
      count_key q key N m,
    )

-- exactly one number below m of key k passes
pub record OneAt (q : ℕ → Bool) (key : ℕ → ℕ) (m k : ℕ) : Type 0 where
  pub one : ℕ
  pub below : one < m
  pub keyed : key one ≡ k
  pub passes : q one ≡ true
  pub only : (i : ℕ) → i < m → key i ≡ k → q i ≡ true → i ≡ one

module _ (q : ℕ → Bool) (key : ℕ → ℕ) (m : ℕ) where
  each_below : (N : ℕ) → ((k : ℕ) → k < N → OneAt q key m k) → count (λ i. q i && ltb (key i) N) (range m) ≡ N
  each_below zero each = count_none (λ i. q i && ltb (key i) 0) m (λ i l. rw (le-ltb (key i) 0 (omega arith)) (and-false (q i)))
  each_below (suc N) each =
      let o : OneAt q key m N = each N (omega arith) in
      let t : (q o.one && eqb (key o.one) N) ≡ true = rw (o.passes, eq-eqb (key o.one) N o.keyed) refl in
      let c : count (λ i. q i && eqb (key i) N) (range m) ≡ 1 = count_one (λ i. q i && eqb (key i) N) m o.one o.below t (λ i l s. let t = and_e (q i) (eqb (key i) N) s in o.only i l (eqb-true (key i) N t.1) t.0) in
      omega (arith, count_key q key N m, each_below N (λ k l. each k (omega arith)))

  -- For each key below N exactly one number passes, and no other passes: N pass.
  pub count_each : (N : ℕ) → ((i : ℕ) → i < m → q i ≡ true → key i < N) → ((k : ℕ) → k < N → OneAt q key m k) → count q (range m) ≡ N
  count_each N h each = count_ext q (λ i. q i && ltb (key i) N) m (λ i l. go i l (q i) refl) ∙ each_below N each
    where
      go : (i : ℕ) → i < m → (b : Bool) → q i ≡ b → q i ≡ (q i && ltb (key i) N)
      go i l true e = rw (e, lt-ltb (key i) N (h i l e)) refl
      go i l false e = rw e refl

-- Sums

pub sum_append : (l r : List ℕ) → sum (l ++ r) ≡ sum l + sum r
unfolding sum
sum_append [] r = omega arith
sum_append (x ∷ l) r = rw (sum_append l r) (omega arith)

pub sum_tabulate_zero : (f : ℕ → ℕ) → sum (tabulate 0 f) ≡ 0
unfolding sum tabulate range up_from
sum_tabulate_zero f = refl

pub sum_tabulate : (f : ℕ → ℕ) (m : ℕ) → sum (tabulate (suc m) f) ≡ sum (tabulate m f) + f m
unfolding sum tabulate
sum_tabulate f m = rw (range_suc, map-append, sum_append) (omega arith)

pub sum_ext : (f g : ℕ → ℕ) (m : ℕ) → ((i : ℕ) → i < m → f i ≡ g i) → sum (tabulate m f) ≡ sum (tabulate m g)
sum_ext f g zero h = sum_tabulate_zero f ∙ sym (sum_tabulate_zero g)
sum_ext f g (suc m) h = omega (arith, sum_tabulate f m, sum_tabulate g m, h m (omega arith), sum_ext f g m (λ i l. h i (omega arith)))

pub sum_add : (f g : ℕ → ℕ) (m : ℕ) → sum (tabulate m (λ i. f i + g i)) ≡ sum (tabulate m f) + sum (tabulate m g)
sum_add f g zero = rw (sum_tabulate_zero f, sum_tabulate_zero g, sum_tabulate_zero (λ i. f i + g i)) refl
sum_add f g (suc m) = omega (arith, sum_tabulate f m, sum_tabulate g m, sum_tabulate (λ i. f i + g i) m, sum_add f g m)

pub sum_le : (f : ℕ → ℕ) (m b : ℕ) → ((i : ℕ) → i < m → f i ≤ b) → sum (tabulate m f) ≤ m * b
sum_le f zero b h = omega (arith, sum_tabulate_zero f)
sum_le f (suc m) b h = omega (arith, sum_tabulate f m, h m (omega arith), sum_le f m b (λ i l. h i (omega arith)))

pub sum_one_if : (q : ℕ → Bool) (m : ℕ) → sum (tabulate m (λ i. one_if (q i))) ≡ count q (range m)
sum_one_if q zero = sum_tabulate_zero (λ i. one_if (q i)) ∙ sym (count_range_zero q)
sum_one_if q (suc m) = omega (arith, sum_tabulate (λ i. one_if (q i)) m, count_range q m, sum_one_if q m)
