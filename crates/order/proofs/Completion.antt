-- What remains of an st-ordering once some parts are ranked: a completion. The order's rule gives one, and its first part is the lowest
-- that any has. Assumes nothing.
use Prim.Native.Nat.{ℕ, zero, suc, ◌<◌, ◌≤◌}
use native.Mathlib.Omega.{arith}
use native.Mathlib.Decide.{ℕ_discrete}
use mathlib.Core.Path.{◌≡◌, refl, sym, ap, ◌∙◌, subst}
use mathlib.Core.Logic.{◌⊎◌, inl, inr, ⊎_elim}
use mathlib.Core.Bool.{Bool, true, false, cond, false≢true}
use mathlib.Core.List.{List, [], ◌∷◌, Memᴰ}
use lib.ListN.{length, get_or}
use Rattle.lists.specs.Select.{without, index_of}
use Rattle.lists.proofs.Select.{Distinct, index_of_below, get_d_index_of}
use Rattle.lists.proofs.Sort.{Rising}
use Rattle.lists.proofs.Sets.{without_e, without_i, length_without, distinct_without, length_mem, length_only}
use Rattle.station.specs.Station.{Cable, Station}
use Rattle.order.specs.Reach.{Joined, Path, arrived, onward}
use Rattle.order.specs.Order.{candidate, first_or, extend}
use Rattle.order.proofs.Paths.{path_start, path_wider, path_on, path_back, path_last}
use Rattle.order.proofs.Reach.{Among}
use Rattle.order.proofs.Bipolar.{Orderable}
use Rattle.order.proofs.Candidates.{Candidate, candidate_iff, Rest, never_sticks, rest_step}

-- A list of the unranked parts that ends at t, in which every other part is joined to a ranked or earlier one and to a later one.
pub data Completes (cs : List Cable) (t : ℕ) : List ℕ → List ℕ → Type 0 where
  ended : {U : List ℕ} → ((x : ℕ) → Memᴰ x U → x ≡ t) → Memᴰ t U → Completes cs t U (t ∷ [])
  ranked : {U r : List ℕ} {w : ℕ} → Memᴰ w U → (w ≡ t → ⊥) → ((q : ℕ) × Joined cs w q × (Memᴰ q U → ⊥))
      → ((q : ℕ) × Joined cs w q × Memᴰ q r) → Completes cs t (without w U) r → Completes cs t U (w ∷ r)

module _ {cs : List Cable} {t : ℕ} where
  pub completes_i : {U r : List ℕ} {x : ℕ} → Completes cs t U r → Memᴰ x U → Memᴰ x r
  completes_i {x = x} (ended a m) h = mathlib.Core.List.Memᴰ.head (a x h)
  completes_i {x = x} (ranked {U} {r} {w} m n b a c) h = go (ℕ_discrete x w) (λ k. completes_i c k)
    where
      go : Dec (x ≡ w) → (Memᴰ x (without w U) → Memᴰ x r) → Memᴰ x (w ∷ r)
      go (yes e) below = mathlib.Core.List.Memᴰ.head e
      go (no k) below = mathlib.Core.List.Memᴰ.tail (below (without_i w U h k))

  pub completes_e : {U r : List ℕ} {x : ℕ} → Completes cs t U r → Memᴰ x r → Memᴰ x U
  completes_e (ended a m) h = mathlib.Core.List.Memᴰ.cast (mathlib.Core.List.Memᴰ.eq_of_singleton h) m
  completes_e {x = x} (ranked {U} {r} {w} m n b a c) h = go (λ k. completes_e c k) (mathlib.Core.List.Memᴰ.cases_cons h)
    where
      go : (Memᴰ x r → Memᴰ x (without w U)) → (x ≡ w) ⊎ Memᴰ x r → Memᴰ x U
      go below (inl e) = mathlib.Core.List.Memᴰ.cast e m
      go below (inr k) = (without_e w U (below k)).0

  pub completes_distinct : {U r : List ℕ} → Completes cs t U r → Distinct r
  completes_distinct (ended a m) = (λ h. mathlib.Core.List.Memᴰ.not-nil h, tt)
  completes_distinct (ranked {U} {r} {w} m n b a c) = (λ h. (without_e w U (completes_e c h)).1 refl, completes_distinct c)

  pub completes_length : {U r : List ℕ} → Distinct U → Completes cs t U r → length r ≡ length U
  completes_length u (ended {U} a m) = sym (length_only U u a m)
  completes_length u (ranked {U} {r} {w} m n b a c) = ap suc (completes_length (distinct_without w U u) c) ∙ length_without U u m

  -- Every unranked part has a path to t among the unranked ones: follow the later parts.
  pub completes_reaches : {U r : List ℕ} {x : ℕ} → Completes cs t U r → Memᴰ x U → Path cs (Among U) t x
  completes_reaches {x = x} (ended a m) h = arrived h (a x h)
  completes_reaches {x = x} (ranked {U} {r} {w} m n b a c) h = go (ℕ_discrete x w) (λ (y : ℕ) k. completes_reaches {x = y} c k)
    where
      wide : (y : ℕ) → Among (without w U) y → Among U y
      wide y k = (without_e w U k).0

      go : Dec (x ≡ w) → ((y : ℕ) → Memᴰ y (without w U) → Path cs (Among (without w U)) t y) → Path cs (Among U) t x
      go (yes e) below =
          onward a.0 h (subst (λ (y : ℕ). Joined cs y a.0) (sym e) a.1) (path_wider cs wide (below a.0 (completes_e c a.2)))
      go (no k) below = path_wider cs wide (below x (without_i w U h k))

  -- So the first part of a completion, if it is not t, is a candidate.
  pub completes_candidate : {U r : List ℕ} {w : ℕ} → Memᴰ t U → (w ≡ t → ⊥) → ((q : ℕ) × Joined cs w q × (Memᴰ q U → ⊥))
      → Completes cs t (without w U) r → Candidate cs t U w
  completes_candidate m n b c =
      record { other = n; joined = b; keeps = λ u v h k. path_on cs (completes_reaches c h) (path_back cs (completes_reaches c k)) }

  -- By place: the last part, an earlier or ranked neighbour, a later neighbour.

  pub completes_last : {U r : List ℕ} (k : ℕ) → Completes cs t U r → suc k ≡ length r → get_or r k 0 ≡ t
  completes_last zero (ended a m) e = refl
  completes_last (suc k) (ended a m) e = absurd (omega arith)
  completes_last zero (ranked m n b a c) e = absurd (omega (arith, length_mem a.2))
  completes_last {U = U} (suc k) (ranked {w = w} m n b a c) e = completes_last {U = without w U} k c (omega arith)

  pub completes_before : {U r : List ℕ} (k : ℕ) → Completes cs t U r → suc k < length r
      → (q : ℕ) × Joined cs (get_or r k 0) q × ((Memᴰ q U → ⊥) ⊎ ((j : ℕ) × (j < k) × (get_or r j 0 ≡ q)))
  completes_before k (ended a m) h = absurd (omega arith)
  completes_before zero (ranked m n b a c) h = (b.0, b.1, inl b.2)
  completes_before (suc k) (ranked {U} {r} {w} m n b a c) h = go (completes_before k c (omega arith))
    where
      which : (q : ℕ) → Dec (q ≡ w) → (Memᴰ q (without w U) → ⊥) ⊎ ((j : ℕ) × (j < k) × (get_or r j 0 ≡ q))
          → (Memᴰ q U → ⊥) ⊎ ((j : ℕ) × (j < suc k) × (get_or (w ∷ r) j 0 ≡ q))
      which q (yes e) (inl o) = inr (0, omega arith, sym e)
      which q (no d) (inl o) = inl (λ i. o (without_i w U i d))
      which q d (inr i) = inr (suc i.0, omega (arith, i.1), i.2)

      go : (q : ℕ) × Joined cs (get_or r k 0) q × ((Memᴰ q (without w U) → ⊥) ⊎ ((j : ℕ) × (j < k) × (get_or r j 0 ≡ q)))
          → (q : ℕ) × Joined cs (get_or r k 0) q × ((Memᴰ q U → ⊥) ⊎ ((j : ℕ) × (j < suc k) × (get_or (w ∷ r) j 0 ≡ q)))
      go f = (f.0, f.1, which f.0 (ℕ_discrete f.0 w) f.2)

  pub completes_after : {U r : List ℕ} (k : ℕ) → Completes cs t U r → suc k < length r
      → (j : ℕ) × (k < j) × (j < length r) × Joined cs (get_or r k 0) (get_or r j 0)
  completes_after k (ended a m) h = absurd (omega arith)
  completes_after zero (ranked {U} {r} {w} m n b a c) h =
      (suc (index_of a.0 r), omega arith, omega (arith, index_of_below r a.2), mathlib.Core.List.Memᴰ.cast (get_d_index_of r 0 a.2) a.1)
  completes_after (suc k) (ranked {U} {r} {w} m n b a c) h =
      let f : (j : ℕ) × (k < j) × (j < length r) × Joined cs (get_or r k 0) (get_or r j 0) = completes_after k c (omega arith) in
      (suc f.0, omega (arith, f.1), omega (arith, f.2), f.3)

-- The first element that passes

module _ (d : ℕ) (p : ℕ → Bool) where
  first_or_found : {x : ℕ} (l : List ℕ) → Memᴰ x l → p x ≡ true → Memᴰ (first_or d p l) l × (p (first_or d p l) ≡ true)
  unfolding first_or
  first_or_found [] m e = absurd (mathlib.Core.List.Memᴰ.not-nil m)
  first_or_found {x} (y ∷ ys) m e = go (p y) refl (λ k. first_or_found ys k e) (mathlib.Core.List.Memᴰ.cases_cons m)
    where
      go : (b : Bool) → p y ≡ b → (Memᴰ x ys → Memᴰ (first_or d p ys) ys × (p (first_or d p ys) ≡ true)) → (x ≡ y) ⊎ Memᴰ x ys
          → Memᴰ (cond b y (first_or d p ys)) (y ∷ ys) × (p (cond b y (first_or d p ys)) ≡ true)
      go true q below s = (mathlib.Core.List.Memᴰ.head refl, q)
      go false q below (inl s) = absurd (false≢true (sym q ∙ ap p (sym s) ∙ e))
      go false q below (inr k) = (mathlib.Core.List.Memᴰ.tail (below k).0, (below k).1)

  first_or_least : {x : ℕ} (l : List ℕ) → Rising (λ y. y) l → Memᴰ x l → p x ≡ true → first_or d p l ≤ x
  unfolding first_or
  first_or_least [] r m e = absurd (mathlib.Core.List.Memᴰ.not-nil m)
  first_or_least {x} (y ∷ ys) r m e = go (p y) refl (λ k. first_or_least ys r.1 k e) (mathlib.Core.List.Memᴰ.cases_cons m)
    where
      go : (b : Bool) → p y ≡ b → (Memᴰ x ys → first_or d p ys ≤ x) → (x ≡ y) ⊎ Memᴰ x ys → cond b y (first_or d p ys) ≤ x
      go true q below (inl s) = omega arith
      go true q below (inr k) = r.0 x k
      go false q below (inl s) = absurd (false≢true (sym q ∙ ap p (sym s) ∙ e))
      go false q below (inr k) = below k

  first_or_none : (l : List ℕ) → ((x : ℕ) → Memᴰ x l → p x ≡ false) → first_or d p l ≡ d
  unfolding first_or
  first_or_none [] n = refl
  first_or_none (y ∷ ys) n = rw (n y (mathlib.Core.List.Memᴰ.head refl)) (first_or_none ys (λ x m. n x (mathlib.Core.List.Memᴰ.tail m)))

-- an element other than t, or none
pub other_than : (t : ℕ) (l : List ℕ) → ((x : ℕ) × Memᴰ x l × (x ≡ t → ⊥)) ⊎ ((x : ℕ) → Memᴰ x l → x ≡ t)
other_than t [] = inr (λ x m. absurd (mathlib.Core.List.Memᴰ.not-nil m))
other_than t (y ∷ ys) = go (ℕ_discrete y t) (other_than t ys)
  where
    go : Dec (y ≡ t) → ((x : ℕ) × Memᴰ x ys × (x ≡ t → ⊥)) ⊎ ((x : ℕ) → Memᴰ x ys → x ≡ t)
        → ((x : ℕ) × Memᴰ x (y ∷ ys) × (x ≡ t → ⊥)) ⊎ ((x : ℕ) → Memᴰ x (y ∷ ys) → x ≡ t)
    go (no n) s = inl (y, mathlib.Core.List.Memᴰ.head refl, n)
    go (yes e) (inl f) = inl (f.0, mathlib.Core.List.Memᴰ.tail f.1, f.2)
    go (yes e) (inr a) = inr (λ x m. ⊎_elim (λ (q : x ≡ y). q ∙ e) (λ (k : Memᴰ x ys). a x k) (mathlib.Core.List.Memᴰ.cases_cons m))

module _ (st : Station) (H : Orderable st) where
  -- the part that the rule ranks next
  abbrev pub chosen : List ℕ → ℕ
  chosen U = first_or st.analyser (candidate st.cables st.analyser U) U

  -- While a part other than t is unranked, a candidate is chosen, the lowest.

  pub chosen_candidate : {x : ℕ} (U : List ℕ) → Rest st U → Memᴰ x U → (x ≡ st.analyser → ⊥)
      → Memᴰ (chosen U) U × Candidate st.cables st.analyser U (chosen U)
  chosen_candidate {x} U R m n =
      let c : (w : ℕ) × Memᴰ w U × Candidate st.cables st.analyser U w = never_sticks st U R H x m n in
      let f : Memᴰ (chosen U) U × (candidate st.cables st.analyser U (chosen U) ≡ true) =
      first_or_found st.analyser (candidate st.cables st.analyser U) U c.1 ((candidate_iff st.cables st.analyser U c.0).1 c.2) in
      (f.0, (candidate_iff st.cables st.analyser U (chosen U)).0 f.1)

  pub chosen_least : {x : ℕ} (U : List ℕ) → Rest st U → Memᴰ x U → Candidate st.cables st.analyser U x → chosen U ≤ x
  chosen_least {x} U R m c =
      first_or_least st.analyser (candidate st.cables st.analyser U) U R.rising m ((candidate_iff st.cables st.analyser U x).1 c)

  -- 't comes last': where only t is unranked, it is chosen.
  pub chosen_last : (U : List ℕ) → ((x : ℕ) → Memᴰ x U → x ≡ st.analyser) → chosen U ≡ st.analyser
  chosen_last U a = first_or_none st.analyser (candidate st.cables st.analyser U) U (λ x m. go x m (candidate st.cables st.analyser U x) refl)
    where
      go : (x : ℕ) → Memᴰ x U → (b : Bool) → candidate st.cables st.analyser U x ≡ b → candidate st.cables st.analyser U x ≡ false
      go x m true e = absurd (((candidate_iff st.cables st.analyser U x).0 e).other (a x m))
      go x m false e = e

  pub extend_last : (k : ℕ) (U : List ℕ) → Rest st U → length U ≡ k → ((x : ℕ) → Memᴰ x U → x ≡ st.analyser)
      → extend st.cables st.analyser k U ≡ st.analyser ∷ []
  unfolding extend
  extend_last zero U R l a = absurd (omega (arith, length_only U R.distinct a R.analyser))
  extend_last (suc zero) U R l a = ap (λ (w : ℕ). w ∷ []) (chosen_last U a)
  extend_last (suc (suc k)) U R l a = absurd (omega (arith, length_only U R.distinct a R.analyser))

  -- The rule gives a completion.
  pub extend_completes : (k : ℕ) (U : List ℕ) → Rest st U → length U ≡ k
      → Completes st.cables st.analyser U (extend st.cables st.analyser k U)
  unfolding extend
  extend_completes zero U R l = absurd (omega (arith, length_mem R.analyser))
  extend_completes (suc k) U R l = go (λ W S e. extend_completes k W S e) (other_than st.analyser U)
    where
      cs : List Cable
      cs = st.cables

      t : ℕ
      t = st.analyser

      w : ℕ
      w = chosen U

      go : ((W : List ℕ) → Rest st W → length W ≡ k → Completes cs t W (extend cs t k W))
          → ((x : ℕ) × Memᴰ x U × (x ≡ t → ⊥)) ⊎ ((x : ℕ) → Memᴰ x U → x ≡ t) → Completes cs t U (w ∷ extend cs t k (without w U))
      go below (inr a) = subst (Completes cs t U) (sym (extend_last (suc k) U R l a)) (ended a R.analyser)
      go below (inl o) = ranked f.0 f.1.other f.1.joined later c
        where
          f : Memᴰ w U × Candidate cs t U w
          f = chosen_candidate U R o.1 o.2

          c : Completes cs t (without w U) (extend cs t k (without w U))
          c = below (without w U) (rest_step st U w R f.1) (omega (arith, length_without U R.distinct f.0))

          step : Path cs (λ x. Among U x × (x ≡ w → ⊥)) t w ⊎ ((v : ℕ) × Joined cs w v × Path cs (λ x. Among U x × (x ≡ w → ⊥)) t v)
              → (q : ℕ) × Joined cs w q × Memᴰ q (extend cs t k (without w U))
          step (inl r) = absurd ((path_start cs r).1 refl)
          step (inr h) = (h.0, h.1, completes_i c (without_i w U (path_start cs h.2).0 (path_start cs h.2).1))

          later : (q : ℕ) × Joined cs w q × Memᴰ q (extend cs t k (without w U))
          later = step (path_last cs w (λ e. f.1.other (sym e)) (R.reaches w f.0))
