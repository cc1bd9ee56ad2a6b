-- Counts by place: a count over a list is a count over its places, two tests that never pass together count at most as one that both imply,
-- and a test that only two numbers can pass counts at most two. Assumes nothing.
use Prim.Native.Nat.{ℕ, zero, suc, ◌+◌, ◌<◌, ◌≤◌}
use native.Mathlib.Omega.{arith}
use native.Mathlib.Decide.{dec_lt}
use mathlib.Core.Path.{◌≡◌, refl, sym, ap, ◌∙◌}
use mathlib.Core.Logic.{◌⊎◌, inl, inr}
use mathlib.Core.Bool.{Bool, true, false}
use mathlib.Core.List.{List, [], ◌∷◌}
use lib.ListN.{length, get_or}
use lib.Dec.{ltb}
use borrow.Author.Tests.{lt-ltb, le-ltb}
use Rattle.lists.specs.Select.{up_from, range, one_if, count}
use Rattle.lists.proofs.Tests.{one_if_le}
use Rattle.lists.proofs.Sums.{count_range, count_range_zero}

count_up_from_ext : (p q : ℕ → Bool) (a b k : ℕ) → ((j : ℕ) → j < k → p (a + j) ≡ q (b + j)) → count p (up_from a k) ≡ count q (up_from b k)
unfolding count up_from
count_up_from_ext p q a b zero h = refl
count_up_from_ext p q a b (suc k) h =
    omega (arith, ap one_if here, count_up_from_ext p q (a + 1) (b + 1) k later)
  where
    here : p a ≡ q b
    here =
        let e : a + 0 ≡ a = omega arith in
        let f : b + 0 ≡ b = omega arith in
        sym (ap p e) ∙ h 0 (omega arith) ∙ ap q f

    later : (j : ℕ) → j < k → p (a + 1 + j) ≡ q (b + 1 + j)
    later j l =
        let e : a + 1 + j ≡ a + suc j = omega arith in
        let f : b + 1 + j ≡ b + suc j = omega arith in
        ap p e ∙ h (suc j) (omega arith) ∙ sym (ap q f)

-- the elements that pass, counted by place
pub count_places : {A : Type 0} (p : A → Bool) (l : List A) (d : A) → count p l ≡ count (λ i. p (get_or l i d)) (range (length l))
unfolding count range up_from
count_places p [] d = refl
count_places p (x ∷ xs) d =
    omega (arith, count_places p xs d, count_up_from_ext (λ i. p (get_or xs i d)) (λ i. p (get_or (x ∷ xs) i d)) 0 (0 + 1) (length xs) shift)
  where
    shift : (j : ℕ) → j < length xs → p (get_or xs (0 + j) d) ≡ p (get_or (x ∷ xs) (0 + 1 + j) d)
    shift j l =
        let e : 0 + j ≡ j = omega arith in
        let f : 0 + 1 + j ≡ suc j = omega arith in
        rw (e, f) refl

count_two_from : (p q r : ℕ → Bool) (a k : ℕ) → ((i : ℕ) → i < a + k → one_if (p i) + one_if (q i) ≤ one_if (r i))
    → count p (up_from a k) + count q (up_from a k) ≤ count r (up_from a k)
unfolding count up_from
count_two_from p q r a zero h = omega arith
count_two_from p q r a (suc k) h = omega (arith, h a (omega arith), count_two_from p q r (a + 1) k (λ i l. h i (omega arith)))

pub count_two : (p q r : ℕ → Bool) (m : ℕ) → ((i : ℕ) → i < m → one_if (p i) + one_if (q i) ≤ one_if (r i))
    → count p (range m) + count q (range m) ≤ count r (range m)
unfolding range
count_two p q r m h = count_two_from p q r 0 m (λ i l. h i (omega arith))

-- 1 once x is among the numbers below m
among_more : (x m : ℕ) → one_if (ltb x m) ≤ one_if (ltb x (suc m))
among_more x m = go (dec_lt x m)
  where
    go : Dec (x < m) → one_if (ltb x m) ≤ one_if (ltb x (suc m))
    go (yes l) = rw (lt-ltb x m l, lt-ltb x (suc m) (omega arith)) (omega arith)
    go (no l) = rw (le-ltb x m (omega arith)) (omega arith)

among_last : (x m : ℕ) → m ≡ x → one_if (ltb x m) + 1 ≡ one_if (ltb x (suc m))
among_last x m e = rw (le-ltb x m (omega arith), lt-ltb x (suc m) (omega arith))

count_among :
    (q : ℕ → Bool) (m a b : ℕ) → ((i : ℕ) → i < m → q i ≡ true → (i ≡ a) ⊎ (i ≡ b)) → count q (range m) ≤ one_if (ltb a m) + one_if (ltb b m)
count_among q zero a b h = omega (arith, count_range_zero q)
count_among q (suc m) a b h = go (q m) refl (count_among q m a b (λ i l. h i (omega arith)))
  where
    here : (m ≡ a) ⊎ (m ≡ b) → one_if (ltb a m) + one_if (ltb b m) + 1 ≤ one_if (ltb a (suc m)) + one_if (ltb b (suc m))
    here (inl e) = omega (arith, among_last a m e, among_more b m)
    here (inr e) = omega (arith, among_last b m e, among_more a m)

    go : (t : Bool) → q m ≡ t → count q (range m) ≤ one_if (ltb a m) + one_if (ltb b m) → count q (range (suc m)) ≤ one_if (ltb a (suc m)) + one_if (ltb b (suc m))
    go true e c = omega (arith, count_range q m, ap one_if e, here (h m (omega arith) e))
    go false e c = omega (arith, count_range q m, ap one_if e, among_more a m, among_more b m)

-- only the numbers a and b can pass
pub count_either : (q : ℕ → Bool) (m a b : ℕ) → ((i : ℕ) → i < m → q i ≡ true → (i ≡ a) ⊎ (i ≡ b)) → count q (range m) ≤ 2
count_either q m a b h = omega (arith, count_among q m a b h, one_if_le (ltb a m), one_if_le (ltb b m))
