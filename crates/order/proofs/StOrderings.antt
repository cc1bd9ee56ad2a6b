-- Laws of every st-ordering: all parts stand in it, and its station is bipolar, since without a part v the parts before v reach s by lower
-- neighbours, and those behind it reach t by higher ones. Assumes nothing.
use Prim.Native.Nat.{ℕ, zero, suc, ◌-◌, ◌<◌, ◌≤◌}
use native.Mathlib.Omega.{arith}
use native.Mathlib.Decide.{ℕ_discrete, dec_lt}
use mathlib.Core.Path.{◌≡◌, sym, ap, ◌∙◌, subst}
use mathlib.Core.Logic.{inl, inr}
use mathlib.Core.List.{List, Memᴰ}
use lib.ListN.{length, get_or}
use Rattle.lists.specs.Select.{range, without, index_of}
use Rattle.lists.proofs.Select.{range_i, length_range, Distinct, distinct_range, get_d_mem, index_of_below, get_d_index_of}
use Rattle.lists.proofs.Sets.{dec_mem, without_i, length_without, distinct_without}
use Rattle.station.specs.Station.{Station}
use Rattle.order.specs.Reach.{Joined, Path, arrived, onward}
use Rattle.order.specs.StOrder.{StOrdering}
use Rattle.order.specs.Bipolar.{Off, ReachesEnd, Bipolar}

-- k places with different elements of a set: it has no fewer
places_le : (l : List ℕ) (k : ℕ) (U : List ℕ) → Distinct U → ((j : ℕ) → j < k → Memᴰ (get_or l j 0) U)
    → ((i j : ℕ) → i < k → j < k → get_or l i 0 ≡ get_or l j 0 → i ≡ j) → k ≤ length U
places_le l zero U u m o = omega arith
places_le l (suc k) U u m o =
    let w = get_or l k 0 in
    let below : k ≤ length (without w U) =
    places_le l k (without w U) (distinct_without w U u)
    (λ j h. without_i w U (m j (omega arith)) (λ e. omega (arith, o j k (omega arith) (omega arith) e)))
    (λ i j g h e. o i j (omega arith) (omega arith) e) in
    omega (arith, below, length_without U u (m k (omega arith)))

module _ (st : Station) (l : List ℕ) (O : StOrdering st l) where
  -- every part stands in it
  pub ordering_mem : (p : ℕ) → p < st.parts → Memᴰ p l
  ordering_mem p h = go (dec_mem p l)
    where
      others : List ℕ
      others = without p (range st.parts)

      go : Dec (Memᴰ p l) → Memᴰ p l
      go (yes m) = m
      go (no n) =
          let few : st.parts ≤ length others =
          places_le l st.parts others (distinct_without p (range st.parts) (distinct_range st.parts))
          (λ j g. without_i p (range st.parts) (range_i (get_or l j 0) st.parts (O.inside j g)) (λ e. n (subst (λ (x : ℕ). Memᴰ x l) e (get_d_mem l j 0 (omega (arith, O.all))))))
          O.once in
          absurd (omega (arith, few, length_without (range st.parts) (distinct_range st.parts) (range_i p st.parts h), length_range st.parts))

  -- its place
  pub ordering_place : (p : ℕ) → p < st.parts → (k : ℕ) × (k < st.parts) × (get_or l k 0 ≡ p)
  ordering_place p h =
      let m = ordering_mem p h in
      (index_of p l, omega (arith, index_of_below l m, O.all), get_d_index_of l 0 m)

  module _ (i : ℕ) (within : i < st.parts) where
    -- without the part at place i
    abbrev rest : ℕ → Type 0
    rest x = Off st.parts (get_or l i 0) x

    off : (k : ℕ) → k < st.parts → (k ≡ i → ⊥) → rest (get_or l k 0)
    off k h n = (O.inside k h, λ e. n (O.once k i h within e))

    -- the parts before it reach s by lower neighbours
    downward : (d k : ℕ) → k < d → k < i → Path st.cables rest st.source (get_or l k 0)
    downward zero k f h = absurd (omega arith)
    downward (suc d) k f h = go (ℕ_discrete k 0) (λ j a. downward d j (omega arith) (omega arith))
      where
        here : rest (get_or l k 0)
        here = off k (omega arith) (λ e. omega arith)

        go : Dec (k ≡ 0) → ((j : ℕ) → j < k → Path st.cables rest st.source (get_or l j 0)) → Path st.cables rest st.source (get_or l k 0)
        go (yes e) below = arrived here (ap (λ (j : ℕ). get_or l j 0) e ∙ O.first)
        go (no n) below =
            let b : (j : ℕ) × (j < k) × Joined st.cables (get_or l k 0) (get_or l j 0) = O.before k (omega arith) (omega arith) in
            onward (get_or l b.0 0) here b.2 (below b.0 b.1)

    -- the parts behind it reach t by higher neighbours
    upward : (d k : ℕ) → st.parts - k ≤ d → i < k → k < st.parts → Path st.cables rest st.analyser (get_or l k 0)
    upward zero k f h g = absurd (omega arith)
    upward (suc d) k f h g = go (ℕ_discrete (suc k) st.parts) (λ j a b. upward d j (omega arith) (omega arith) b)
      where
        here : rest (get_or l k 0)
        here = off k g (λ e. omega arith)

        go : Dec (suc k ≡ st.parts) → ((j : ℕ) → k < j → j < st.parts → Path st.cables rest st.analyser (get_or l j 0)) → Path st.cables rest st.analyser (get_or l k 0)
        go (yes e) below = arrived here (O.last k e)
        go (no n) below =
            let a : (j : ℕ) × (k < j) × (j < st.parts) × Joined st.cables (get_or l k 0) (get_or l j 0) = O.after k (omega arith) (omega arith) in
            onward (get_or l a.0 0) here a.3 (below a.0 a.1 a.2)

    either : (k : ℕ) → k < st.parts → (k ≡ i → ⊥) → ReachesEnd st (get_or l i 0) (get_or l k 0)
    either k h n = go (dec_lt k i)
      where
        go : Dec (k < i) → ReachesEnd st (get_or l i 0) (get_or l k 0)
        go (yes a) = inl (downward (suc k) k (omega arith) a)
        go (no a) = inr (upward st.parts k (omega arith) (omega arith) h)

  -- 'the list then has no st-ordering between those ends', the other way round
  pub ordering_bipolar : Bipolar st
  ordering_bipolar v p h g n =
      let a = ordering_place v h in
      let b = ordering_place p g in
      subst (λ (x : ℕ). ReachesEnd st x p) a.2
      (subst (ReachesEnd st (get_or l a.0 0)) b.2
      (either a.0 a.1 b.0 b.1 (λ e. n (sym b.2 ∙ ap (λ (k : ℕ). get_or l k 0) e ∙ a.2))))
