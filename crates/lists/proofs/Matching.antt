-- Numbers below m that have two keys each, and as many with any two keys one way as the other: the numbers are matched, those with the same
-- keys as they rise. Assumes nothing.
use Prim.Native.Nat.{ℕ, ◌<◌}
use native.Mathlib.Omega.{arith}
use native.Mathlib.Decide.{dec_lt, ℕ_discrete}
use mathlib.Core.Path.{◌≡◌, refl, sym, ap, ap₂, subst, ◌∙◌}
use mathlib.Core.Bool.{◌&&◌}
use mathlib.Core.List.{List, Memᴰ}
use lib.ListN.{length, get_or}
use lib.Dec.{eqb}
use borrow.Author.Tests.{eqb-true, eq-eqb}
use Rattle.lists.specs.Select.{range, filter, index_of}
use Rattle.lists.proofs.Bools.{and_e, and_i}
use Rattle.lists.proofs.Select.{get_d_mem, filter_e, filter_i, range_e, range_i, Distinct, distinct_range, distinct_filter, distinct_places, index_of_below, get_d_index_of, index_of_get_d, index_of_one}
use Rattle.lists.proofs.Sort.{Rising, rising_places}
use Rattle.lists.proofs.Sets.{rising_filter, rising_range}

-- the numbers below m with the keys a and b
unfoldable pub with_keys : ℕ → (ℕ → ℕ) → (ℕ → ℕ) → ℕ → ℕ → List ℕ
with_keys m f g a b = filter (λ i. eqb (f i) a && eqb (g i) b) (range m)

-- the numbers below m, each with another, which has the same keys; none twice, all of them, and those with equal keys in their sequence
pub record Matching (m : ℕ) (f g f' g' : ℕ → ℕ) (π : ℕ → ℕ) : Type 0 where
  pub below : (i : ℕ) → i < m → π i < m
  pub one : (i j : ℕ) → i < m → j < m → π i ≡ π j → i ≡ j
  pub onto : (j : ℕ) → j < m → (i : ℕ) × (i < m) × (π i ≡ j)
  pub first : (i : ℕ) → i < m → f' (π i) ≡ f i
  pub second : (i : ℕ) → i < m → g' (π i) ≡ g i
  pub rises : (i j : ℕ) → i < j → j < m → f i ≡ f j → g i ≡ g j → π i < π j

module _ (m : ℕ) (f g : ℕ → ℕ) where
  with_keys_e : {i : ℕ} (a b : ℕ) → Memᴰ i (with_keys m f g a b) → (i < m) × (f i ≡ a) × (g i ≡ b)
  unfolding with_keys
  with_keys_e {i} a b h =
      let t = filter_e (λ j. eqb (f j) a && eqb (g j) b) (range m) h in
      let u = and_e (eqb (f i) a) (eqb (g i) b) t.1 in
      (range_e m t.0, eqb-true (f i) a u.0, eqb-true (g i) b u.1)

  with_keys_i : (i : ℕ) → i < m → Memᴰ i (with_keys m f g (f i) (g i))
  unfolding with_keys
  with_keys_i i h = filter_i (λ j. eqb (f j) (f i) && eqb (g j) (g i)) (range m) (range_i i m h) (and_i _ _ (eq-eqb (f i) (f i) refl) (eq-eqb (g i) (g i) refl))

  distinct_with_keys : (a b : ℕ) → Distinct (with_keys m f g a b)
  unfolding with_keys
  distinct_with_keys a b = distinct_filter (λ j. eqb (f j) a && eqb (g j) b) (range m) (distinct_range m)

  rising_with_keys : (a b : ℕ) → Rising (λ i. i) (with_keys m f g a b)
  unfolding with_keys
  rising_with_keys a b = rising_filter (λ i. i) (λ j. eqb (f j) a && eqb (g j) b) (range m) (rising_range m)

-- of a rising list of different numbers: the lower number is at the lower place, and the lower place has the lower number
lower_place : (l : List ℕ) → Rising (λ i. i) l → (i j : ℕ) → Memᴰ i l → Memᴰ j l → i < j → index_of i l < index_of j l
lower_place l r i j p q h = go (dec_lt (index_of i l) (index_of j l))
  where
    go : Dec (index_of i l < index_of j l) → index_of i l < index_of j l
    go (yes d) = d
    go (no d) =
        absurd (omega (arith, rising_places (λ x. x) l r (index_of j l) (index_of i l) 0 (omega arith) (index_of_below l p), get_d_index_of l 0 p, get_d_index_of l 0 q))

place_lower : (l : List ℕ) → Distinct l → Rising (λ i. i) l → (a b : ℕ) → a < b → b < length l → get_or l a 0 < get_or l b 0
place_lower l u r a b h g = go (ℕ_discrete (get_or l a 0) (get_or l b 0))
  where
    go : Dec (get_or l a 0 ≡ get_or l b 0) → get_or l a 0 < get_or l b 0
    go (yes e) = absurd (omega (arith, distinct_places l u a b 0 (omega arith) g e))
    go (no n) = omega (arith, rising_places (λ x. x) l r a b 0 (omega arith) g)

module _ (m : ℕ) (f g f' g' : ℕ → ℕ) where
  -- the number at the same place among those with the same keys
  unfoldable pub matched : ℕ → ℕ
  matched i = get_or (with_keys m f' g' (f i) (g i)) (index_of i (with_keys m f g (f i) (g i))) 0

  module _ (same : (i : ℕ) → i < m → length (with_keys m f g (f i) (g i)) ≡ length (with_keys m f' g' (f i) (g i)))
      (back : (j : ℕ) → j < m → length (with_keys m f g (f' j) (g' j)) ≡ length (with_keys m f' g' (f' j) (g' j))) where
    place : (i : ℕ) → i < m → index_of i (with_keys m f g (f i) (g i)) < length (with_keys m f' g' (f i) (g i))
    place i h = omega (arith, index_of_below (with_keys m f g (f i) (g i)) (with_keys_i m f g i h), same i h)

    matched_keys : (i : ℕ) → i < m → Memᴰ (matched i) (with_keys m f' g' (f i) (g i))
    unfolding matched
    matched_keys i h = get_d_mem (with_keys m f' g' (f i) (g i)) _ 0 (place i h)

    matched_e : (i : ℕ) → i < m → (matched i < m) × (f' (matched i) ≡ f i) × (g' (matched i) ≡ g i)
    matched_e i h = with_keys_e m f' g' (f i) (g i) (matched_keys i h)

    matched_one : (i j : ℕ) → i < m → j < m → matched i ≡ matched j → i ≡ j
    unfolding matched
    matched_one i j h k e =
        let a : f j ≡ f i = sym (matched_e j k).1 ∙ sym (ap f' e) ∙ (matched_e i h).1 in
        let b : g j ≡ g i = sym (matched_e j k).2 ∙ sym (ap g' e) ∙ (matched_e i h).2 in
        let ours : List ℕ = with_keys m f g (f i) (g i) in
        let n : Memᴰ j ours = subst (λ (l : List ℕ). Memᴰ j l) (ap₂ (with_keys m f g) a b) (with_keys_i m f g j k) in
        let q : matched j ≡ get_or (with_keys m f' g' (f i) (g i)) (index_of j ours) 0 =
        ap₂ (λ (x y : ℕ). get_or (with_keys m f' g' x y) (index_of j (with_keys m f g x y)) 0) a b in
        index_of_one ours (with_keys_i m f g i h) n
        (distinct_places (with_keys m f' g' (f i) (g i)) (distinct_with_keys m f' g' (f i) (g i)) _ _ 0 (place i h)
        (omega (arith, index_of_below ours n, same i h)) (e ∙ q))

    matched_onto : (j : ℕ) → j < m → (i : ℕ) × (i < m) × (matched i ≡ j)
    unfolding matched
    matched_onto j h =
        let theirs : List ℕ = with_keys m f' g' (f' j) (g' j) in
        let ours : List ℕ = with_keys m f g (f' j) (g' j) in
        let p : ℕ = index_of j theirs in
        let b : p < length ours = omega (arith, index_of_below theirs (with_keys_i m f' g' j h), back j h) in
        let i : ℕ = get_or ours p 0 in
        let t = with_keys_e m f g (f' j) (g' j) (get_d_mem ours p 0 b) in
        let e : matched i ≡ get_or theirs (index_of i ours) 0 = ap₂ (λ (x y : ℕ). get_or (with_keys m f' g' x y) (index_of i (with_keys m f g x y)) 0) t.1 t.2 in
        let q : index_of i ours ≡ p = index_of_get_d ours p 0 (distinct_with_keys m f g (f' j) (g' j)) b in
        (i, t.0, e ∙ ap (λ (k : ℕ). get_or theirs k 0) q ∙ get_d_index_of theirs 0 (with_keys_i m f' g' j h))

    matched_rises : (i j : ℕ) → i < j → j < m → f i ≡ f j → g i ≡ g j → matched i < matched j
    unfolding matched
    matched_rises i j h k a b =
        let ours : List ℕ = with_keys m f g (f j) (g j) in
        let theirs : List ℕ = with_keys m f' g' (f j) (g j) in
        let n : Memᴰ i ours = subst (λ (l : List ℕ). Memᴰ i l) (ap₂ (with_keys m f g) a b) (with_keys_i m f g i (omega arith)) in
        let q : matched i ≡ get_or theirs (index_of i ours) 0 = ap₂ (λ (x y : ℕ). get_or (with_keys m f' g' x y) (index_of i (with_keys m f g x y)) 0) a b in
        let l : get_or theirs (index_of i ours) 0 < get_or theirs (index_of j ours) 0 =
        place_lower theirs (distinct_with_keys m f' g' (f j) (g j)) (rising_with_keys m f' g' (f j) (g j)) _ _
        (lower_place ours (rising_with_keys m f g (f j) (g j)) i j n (with_keys_i m f g j k) h) (place j k) in
        subst (λ (x : ℕ). x < matched j) (sym q) l

    -- as many with any two keys one way as the other
    pub matching : Matching m f g f' g' matched
    matching = record {
      below = λ i h. (matched_e i h).0;
      one = matched_one;
      onto = matched_onto;
      first = λ i h. (matched_e i h).1;
      second = λ i h. (matched_e i h).2;
      rises = matched_rises;
    }
