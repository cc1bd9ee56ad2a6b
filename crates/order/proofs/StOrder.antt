-- The order theorem of document 01: the order is an st-ordering from s to t, and the smallest when compared part by part. Assumes nothing.
use Prim.Native.Nat.{ℕ, zero, suc, ◌+◌, ◌-◌, ◌<◌, ◌≤◌}
use native.Mathlib.Omega.{arith}
use native.Mathlib.Decide.{ℕ_discrete, dec_lt}
use mathlib.Core.Path.{◌≡◌, refl, sym, ap, ◌∙◌, subst}
use mathlib.Core.Logic.{◌⊎◌, inl, inr}
use mathlib.Core.List.{List, [], ◌∷◌, Memᴰ}
use lib.ListN.{length, get_or, drop, length-drop, drop_of_length-le}
use lib.Seq.{drop-cons, get_or-drop}
use Rattle.lists.specs.Select.{range, without}
use Rattle.lists.proofs.Select.{range_e, range_i, length_range, Distinct, distinct_range, distinct_places, get_d_mem}
use Rattle.lists.proofs.Sets.{without_e, without_i, length_without, distinct_without, length_mem}
use Rattle.station.specs.Station.{Station}
use Rattle.order.specs.Reach.{Joined}
use Rattle.order.specs.Order.{extend, order}
use Rattle.order.specs.StOrder.{StOrdering, Before, Smallest}
use Rattle.order.proofs.Joins.{within, joined_within}
use Rattle.order.proofs.Bipolar.{Orderable}
use Rattle.order.proofs.Candidates.{Candidate, Rest, rest_start, rest_step}
use Rattle.order.proofs.Completion.{Completes, ended, ranked, completes_i, completes_e, completes_distinct, completes_length, completes_candidate, completes_last, completes_before, completes_after, chosen, chosen_least, extend_last, extend_completes}

module _ (st : Station) (H : Orderable st) where
  -- the unranked parts at rank 1
  abbrev pub others : List ℕ
  others = without st.source (range st.parts)

  pub length_others : suc (length others) ≡ st.parts
  length_others =
      length_without (range st.parts) (distinct_range st.parts) (range_i st.source st.parts H.wired.source) ∙ length_range st.parts

  pub others_e : {x : ℕ} → Memᴰ x others → (x < st.parts) × (x ≡ st.source → ⊥)
  others_e {x} m =
      let h : Memᴰ x (range st.parts) × (x ≡ st.source → ⊥) = without_e st.source (range st.parts) m in
      (range_e st.parts h.0, h.1)

  pub others_i : {x : ℕ} → x < st.parts → (x ≡ st.source → ⊥) → Memᴰ x others
  others_i {x} l n = without_i st.source (range st.parts) (range_i x st.parts l) n

  -- s, then a completion: an st-ordering.
  module _ (r : List ℕ) (c : Completes st.cables st.analyser others r) where
    all_length : suc (length r) ≡ st.parts
    all_length = ap suc (completes_length (distinct_without st.source (range st.parts) (distinct_range st.parts)) c) ∙ length_others

    all_distinct : Distinct (st.source ∷ r)
    all_distinct = (λ m. (others_e (completes_e c m)).1 refl, completes_distinct c)

    all_inside : (k : ℕ) → k < st.parts → get_or (st.source ∷ r) k 0 < st.parts
    all_inside zero h = H.wired.source
    all_inside (suc k) h = (others_e (completes_e c (get_d_mem r k 0 (omega (arith, all_length))))).0

    all_last : (k : ℕ) → suc k ≡ st.parts → get_or (st.source ∷ r) k 0 ≡ st.analyser
    all_last zero e =
        let m : Memᴰ st.analyser others = others_i H.wired.analyser (λ q. H.wired.apart (sym q)) in
        absurd (omega (arith, all_length, length_mem (completes_i c m)))
    all_last (suc k) e = completes_last k c (omega (arith, all_length))

    all_before : (k : ℕ) → 0 < k → suc k < st.parts → (j : ℕ) × (j < k) × Joined st.cables (get_or (st.source ∷ r) k 0) (get_or (st.source ∷ r) j 0)
    all_before zero h l = absurd (omega arith)
    all_before (suc k) h l = go (completes_before k c (omega (arith, all_length)))
      where
        at : (q : ℕ) → Joined st.cables (get_or r k 0) q → (Memᴰ q others → ⊥) ⊎ ((j : ℕ) × (j < k) × (get_or r j 0 ≡ q)) → Dec (q ≡ st.source)
            → (j : ℕ) × (j < suc k) × Joined st.cables (get_or r k 0) (get_or (st.source ∷ r) j 0)
        at q i (inl o) (yes e) = (0, omega arith, mathlib.Core.List.Memᴰ.cast (sym e) i)
        at q i (inl o) (no n) = absurd (o (others_i (joined_within st.cables (get_or r k 0) (within H.wired) i) n))
        at q i (inr f) d = (suc f.0, omega (arith, f.1), mathlib.Core.List.Memᴰ.cast f.2 i)

        go : (q : ℕ) × Joined st.cables (get_or r k 0) q × ((Memᴰ q others → ⊥) ⊎ ((j : ℕ) × (j < k) × (get_or r j 0 ≡ q)))
            → (j : ℕ) × (j < suc k) × Joined st.cables (get_or r k 0) (get_or (st.source ∷ r) j 0)
        go f = at f.0 f.1 f.2 (ℕ_discrete f.0 st.source)

    all_after : (k : ℕ) → 0 < k → suc k < st.parts
        → (j : ℕ) × (k < j) × (j < st.parts) × Joined st.cables (get_or (st.source ∷ r) k 0) (get_or (st.source ∷ r) j 0)
    all_after zero h l = absurd (omega arith)
    all_after (suc k) h l =
        let f : (j : ℕ) × (k < j) × (j < length r) × Joined st.cables (get_or r k 0) (get_or r j 0) = completes_after k c (omega (arith, all_length)) in
        (suc f.0, omega (arith, f.1), omega (arith, f.2, all_length), f.3)

    completed : StOrdering st (st.source ∷ r)
    completed =
        record {
          all = all_length;
          inside = all_inside;
          once = λ j k g h e. distinct_places (st.source ∷ r) all_distinct j k 0 (omega (arith, all_length)) (omega (arith, all_length)) e;
          first = refl;
          last = all_last;
          before = all_before;
          after = all_after;
        }

  order_completes : Completes st.cables st.analyser others (extend st.cables st.analyser (st.parts - 1) others)
  order_completes = extend_completes st H (st.parts - 1) others (rest_start st H) (omega (arith, length_others))

  -- 'the result is the st-ordering from s to t'
  pub order_ordering : StOrdering st (order st)
  unfolding order
  order_ordering = completed (extend st.cables st.analyser (st.parts - 1) others) order_completes

  -- every part is ranked
  pub order_mem : (p : ℕ) → p < st.parts → Memᴰ p (order st)
  unfolding order
  order_mem p l = go (ℕ_discrete p st.source)
    where
      go : Dec (p ≡ st.source) → Memᴰ p (st.source ∷ extend st.cables st.analyser (st.parts - 1) others)
      go (yes e) = mathlib.Core.List.Memᴰ.head e
      go (no n) = mathlib.Core.List.Memᴰ.tail (completes_i order_completes (others_i l n))

  -- each once
  pub order_distinct : Distinct (order st)
  unfolding order
  order_distinct = all_distinct (extend st.cables st.analyser (st.parts - 1) others) order_completes

-- Elements by place, for the parts of a list behind some place

mem_single : {x y : ℕ} (l : List ℕ) → length l ≡ 1 → Memᴰ x l → Memᴰ y l → x ≡ y
mem_single [] e m n = absurd (omega arith)
mem_single (z ∷ []) e m n = mathlib.Core.List.Memᴰ.eq_of_singleton m ∙ sym (mathlib.Core.List.Memᴰ.eq_of_singleton n)
mem_single (z ∷ v ∷ l) e m n = absurd (omega arith)

mem_drop : (l : List ℕ) (k j : ℕ) → k ≤ j → j < length l → Memᴰ (get_or l j 0) (drop k l)
mem_drop l k j h m =
    let e : k + (j - k) ≡ j = omega arith in
    mathlib.Core.List.Memᴰ.cast (sym (get_or-drop k l (j - k) 0 ∙ ap (λ (i : ℕ). get_or l i 0) e)) (get_d_mem (drop k l) (j - k) 0 (omega (arith, length-drop k l)))

-- Two lists part by part: equal, or one comes before the other.

before_cons : {a b : List ℕ} (x : ℕ) → Before a b → Before (x ∷ a) (x ∷ b)
before_cons {a} {b} x f = record { place = suc f.place; agree = agree; lower = f.lower }
  where
    agree : (k : ℕ) → k < suc f.place → get_or (x ∷ a) k 0 ≡ get_or (x ∷ b) k 0
    agree zero h = refl
    agree (suc k) h = f.agree k (omega arith)

before_head : {a b : List ℕ} {x y : ℕ} → x < y → Before (x ∷ a) (y ∷ b)
before_head h = record { place = 0; agree = λ k l. absurd (omega arith); lower = h }

same_or_before : {a b : List ℕ} (x : ℕ) → (a ≡ b) ⊎ Before a b → (x ∷ a ≡ x ∷ b) ⊎ Before (x ∷ a) (x ∷ b)
same_or_before x (inl e) = inl (ap {B = List ℕ} (λ l. x ∷ l) e)
same_or_before x (inr f) = inr (before_cons x f)

pub before_both : {a b : List ℕ} → Before a b → Before b a → ⊥
before_both {a} {b} f g = go (dec_lt f.place g.place) (dec_lt g.place f.place)
  where
    go : Dec (f.place < g.place) → Dec (g.place < f.place) → ⊥
    go (yes l) d = omega (arith, g.agree f.place l, f.lower)
    go (no l) (yes h) = omega (arith, f.agree g.place h, g.lower)
    go (no l) (no h) =
        let e : f.place ≡ g.place = omega arith in
        let m : get_or b f.place 0 < get_or a f.place 0 = rw e g.lower in
        omega (arith, f.lower)

-- 'the st-ordering from s to t that is smallest': there is only one.
pub smallest_one : {st : Station} {a b : List ℕ} → Smallest st a → Smallest st b → a ≡ b
smallest_one {st} {a} {b} f g = go (f.least b g.ordering) (g.least a f.ordering)
  where
    go : (a ≡ b) ⊎ Before a b → (b ≡ a) ⊎ Before b a → a ≡ b
    go (inl e) d = e
    go (inr h) (inl e) = sym e
    go (inr h) (inr k) = absurd (before_both h k)

module _ (st : Station) (H : Orderable st) where
  -- Of the completions the rule gives the smallest: the first part of any other is a candidate, and the rule takes the lowest.
  extend_least : {U r : List ℕ} (k : ℕ) → Rest st U → length U ≡ k → Completes st.cables st.analyser U r
      → (extend st.cables st.analyser k U ≡ r) ⊎ Before (extend st.cables st.analyser k U) r
  unfolding extend
  extend_least k R l (ended {U} a m) = inl (extend_last st H k U R l a)
  extend_least zero R l (ranked m n b a c) = absurd (omega (arith, length_mem m))
  extend_least (suc k) R l (ranked {U} {r} {w} m n b a c) = go (ℕ_discrete (chosen st H U) w) (λ S e. extend_least k S e c)
    where
      x : ℕ
      x = chosen st H U

      C : Candidate st.cables st.analyser U w
      C = completes_candidate R.analyser n b c

      go : Dec (x ≡ w)
          → (Rest st (without w U) → length (without w U) ≡ k
          → (extend st.cables st.analyser k (without w U) ≡ r) ⊎ Before (extend st.cables st.analyser k (without w U)) r)
          → (x ∷ extend st.cables st.analyser k (without x U) ≡ w ∷ r) ⊎ Before (x ∷ extend st.cables st.analyser k (without x U)) (w ∷ r)
      go (yes e) below =
          subst (λ (y : ℕ). (y ∷ extend st.cables st.analyser k (without y U) ≡ w ∷ r) ⊎ Before (y ∷ extend st.cables st.analyser k (without y U)) (w ∷ r))
          (sym e) (same_or_before w (below (rest_step st U w R C) (omega (arith, length_without U R.distinct m))))
      go (no d) below = inr (before_head (omega (arith, chosen_least st H U R m C)))

  -- After its first k parts, every st-ordering is a completion.
  suffix_completes : (r : List ℕ) → StOrdering st r → (d k : ℕ) (U : List ℕ) → length U ≡ suc d → length U + k ≡ st.parts → 0 < k → Distinct U
      → ((j : ℕ) → k ≤ j → j < st.parts → Memᴰ (get_or r j 0) U) → ((j : ℕ) → j < k → Memᴰ (get_or r j 0) U → ⊥)
      → Completes st.cables st.analyser U (drop k r)
  suffix_completes r O zero k U l e h u f g = subst (Completes st.cables st.analyser U) (sym only) (ended all_t (mathlib.Core.List.Memᴰ.cast (sym at_end_lem) (f k (omega arith) (omega arith))))
    where
      at_end_lem : get_or r k 0 ≡ st.analyser
      at_end_lem = O.last k (omega arith)

      all_t : (x : ℕ) → Memᴰ x U → x ≡ st.analyser
      all_t x m = mem_single U l m (f k (omega arith) (omega arith)) ∙ at_end_lem

      only : drop k r ≡ st.analyser ∷ []
      only =
          drop-cons r k 0 (omega (arith, O.all)) ∙ ap (λ (y : ℕ). y ∷ drop (suc k) r) at_end_lem
          ∙ ap {B = List ℕ} (λ q. st.analyser ∷ q) (drop_of_length-le r {i = suc k} (omega (arith, O.all)))
  suffix_completes r O (suc d) k U l e h u f g =
      subst (Completes st.cables st.analyser U) (sym (drop-cons r k 0 (omega (arith, O.all))))
      (ranked here not_t earlier later
      (suffix_completes r O d (suc k) (without w U) (omega (arith, length_without U u here)) (omega (arith, length_without U u here)) (omega arith)
      (distinct_without w U u) still gone))
    where
      w : ℕ
      w = get_or r k 0

      here : Memᴰ w U
      here = f k (omega arith) (omega arith)

      not_t : w ≡ st.analyser → ⊥
      not_t q = omega (arith, O.once k (k + suc d) (omega arith) (omega arith) (q ∙ sym (O.last (k + suc d) (omega arith))))

      earlier : (q : ℕ) × Joined st.cables w q × (Memᴰ q U → ⊥)
      earlier =
          let b : (j : ℕ) × (j < k) × Joined st.cables w (get_or r j 0) = O.before k h (omega arith) in
          (get_or r b.0 0, b.2, g b.0 b.1)

      later : (q : ℕ) × Joined st.cables w q × Memᴰ q (drop (suc k) r)
      later =
          let b : (j : ℕ) × (k < j) × (j < st.parts) × Joined st.cables w (get_or r j 0) = O.after k h (omega arith) in
          (get_or r b.0 0, b.3, mem_drop r (suc k) b.0 b.1 (omega (arith, b.2, O.all)))

      still : (j : ℕ) → suc k ≤ j → j < st.parts → Memᴰ (get_or r j 0) (without w U)
      still j a b = without_i w U (f j (omega arith) b) (λ q. omega (arith, O.once j k b (omega arith) q))

      gone : (j : ℕ) → j < suc k → Memᴰ (get_or r j 0) (without w U) → ⊥
      gone j a m = which (ℕ_discrete j k)
        where
          which : Dec (j ≡ k) → ⊥
          which (yes q) = (without_e w U m).1 (ap (λ (i : ℕ). get_or r i 0) q)
          which (no n) = g j (omega arith) (without_e w U m).0

  -- s is first in every one.
  tail_completes : (r : List ℕ) → StOrdering st r → Completes st.cables st.analyser (others st H) (drop 1 r)
  tail_completes r O =
      suffix_completes r O (length (others st H) - 1) 1 (others st H) (omega (arith, L, H.wired.source, H.wired.analyser, H.wired.apart)) (omega (arith, L)) (omega arith)
      (distinct_without st.source (range st.parts) (distinct_range st.parts)) rest none
    where
      L : suc (length (others st H)) ≡ st.parts
      L = length_others st H

      rest : (j : ℕ) → 1 ≤ j → j < st.parts → Memᴰ (get_or r j 0) (others st H)
      rest j a b = others_i st H (O.inside j b) (λ q. omega (arith, O.once j 0 b (omega arith) (q ∙ sym O.first)))

      none : (j : ℕ) → j < 1 → Memᴰ (get_or r j 0) (others st H) → ⊥
      none j a m =
          let e : j ≡ 0 = omega arith in
          (others_e st H m).1 (ap (λ (i : ℕ). get_or r i 0) e ∙ O.first)

  -- 'smallest when compared part by part'
  pub order_smallest : Smallest st (order st)
  unfolding order
  order_smallest = record { ordering = order_ordering st H; least = compared }
    where
      compared : (r : List ℕ) → StOrdering st r → (order st ≡ r) ⊎ Before (order st) r
      compared r O =
          subst (λ (q : List ℕ). (order st ≡ q) ⊎ Before (order st) q) (sym split)
          (same_or_before st.source (extend_least (st.parts - 1) (rest_start st H) (omega (arith, length_others st H)) (tail_completes r O)))
        where
          split : r ≡ st.source ∷ drop 1 r
          split = drop-cons r 0 0 (omega (arith, O.all, H.wired.source)) ∙ ap (λ (y : ℕ). y ∷ drop 1 r) O.first

-- Source 000, lemma 3.4: 'Since we have an st-ordering, there must be edges (v_1, v_2) and (v_{n-1}, v_n).'

module _ (st : Station) (l : List ℕ) (O : StOrdering st l) (three : 3 ≤ st.parts) where
  pub source_second : Joined st.cables (get_or l 1 0) st.source
  source_second =
      let b = O.before 1 (omega arith) (omega arith) in
      let z : b.0 ≡ 0 = omega (arith, b.1) in
      subst (λ (p : ℕ). Joined st.cables (get_or l 1 0) p) (ap (λ (k : ℕ). get_or l k 0) z ∙ O.first) b.2

  pub analyser_last_but_one : Joined st.cables (get_or l (st.parts - 2) 0) st.analyser
  analyser_last_but_one =
      let a = O.after (st.parts - 2) (omega arith) (omega arith) in
      subst (λ (p : ℕ). Joined st.cables (get_or l (st.parts - 2) 0) p) (O.last a.0 (omega (arith, a.1, a.2))) a.3
