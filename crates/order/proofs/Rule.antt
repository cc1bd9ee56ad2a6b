-- Document 01, 'The order of parts', rank by rank: each next rank goes to the lowest-numbered candidate, and there is one each time.
-- Assumes nothing.
use Prim.Native.Nat.{ℕ, zero, suc, ◌+◌, ◌-◌, ◌<◌, ◌≤◌}
use native.Mathlib.Omega.{arith}
use mathlib.Core.Path.{◌≡◌, refl, sym, subst}
use mathlib.Core.Logic.Iff
use mathlib.Core.Logic.{◌⊎◌, inl, inr, ◌↔◌}
use mathlib.Core.List.{List, ◌∷◌, Memᴰ}
use lib.ListN.{length, get_or}
use Rattle.lists.specs.Select.{range, without}
use Rattle.lists.proofs.Select.{range_e, range_i}
use Rattle.lists.proofs.Sets.{without_e, without_i, length_without, length_only}
use Rattle.station.specs.Station.{Cable, Station}
use Rattle.order.specs.Order.{candidate, first_or, extend, order}
use Rattle.order.proofs.Bipolar.{Orderable}
use Rattle.order.proofs.Candidates.{Candidate, Rest, rest_start, rest_step}
use Rattle.order.proofs.Completion.{other_than, chosen, chosen_candidate, chosen_least}
use Rattle.order.proofs.StOrder.{others, length_others, others_e, others_i}

-- what is left of the unranked parts once the rule has ranked k of them
unfoldable pub remaining : List Cable → ℕ → ℕ → List ℕ → List ℕ
remaining cs t zero U = U
remaining cs t (suc k) U = remaining cs t k (without (first_or t (candidate cs t U) U) U)

-- the unranked parts at rank k
unfoldable pub unranked_at : Station → ℕ → List ℕ
unranked_at st zero = range st.parts
unranked_at st (suc k) = remaining st.cables st.analyser k (without st.source (range st.parts))

extend_at : (cs : List Cable) (t m k : ℕ) (U : List ℕ) → k < m
    → get_or (extend cs t m U) k 0 ≡ first_or t (candidate cs t (remaining cs t k U)) (remaining cs t k U)
unfolding extend remaining
extend_at cs t zero k U h = absurd (omega arith)
extend_at cs t (suc m) zero U h = refl
extend_at cs t (suc m) (suc k) U h = extend_at cs t m k (without (first_or t (candidate cs t U) U) U) (omega arith)

-- They are the parts that are not among the first k.
remaining_iff : (cs : List Cable) (t m k : ℕ) (U : List ℕ) (x : ℕ) → k ≤ m
    → Memᴰ x (remaining cs t k U) ↔ (Memᴰ x U × ((j : ℕ) → j < k → x ≡ get_or (extend cs t m U) j 0 → ⊥))
unfolding extend remaining
remaining_iff cs t m zero U x h = (λ n. (n, λ j l e. absurd (omega arith)), λ f. f.0)
remaining_iff cs t zero (suc k) U x h = absurd (omega arith)
remaining_iff cs t (suc m) (suc k) U x h = Iff.trans (remaining_iff cs t m k (without w U) x (omega arith)) (to, fro)
  where
    w : ℕ
    w = first_or t (candidate cs t U) U

    later : List ℕ
    later = extend cs t m (without w U)

    none : (x ≡ w → ⊥) → ((j : ℕ) → j < k → x ≡ get_or later j 0 → ⊥) → (j : ℕ) → j < suc k → x ≡ get_or (w ∷ later) j 0 → ⊥
    none n f zero l e = n e
    none n f (suc j) l e = f j (omega arith) e

    to : Memᴰ x (without w U) × ((j : ℕ) → j < k → x ≡ get_or later j 0 → ⊥) → Memᴰ x U × ((j : ℕ) → j < suc k → x ≡ get_or (w ∷ later) j 0 → ⊥)
    to f = ((without_e w U f.0).0, none (without_e w U f.0).1 f.1)

    fro : Memᴰ x U × ((j : ℕ) → j < suc k → x ≡ get_or (w ∷ later) j 0 → ⊥) → Memᴰ x (without w U) × ((j : ℕ) → j < k → x ≡ get_or later j 0 → ⊥)
    fro f = (without_i w U f.0 (f.1 0 (omega arith)), λ j l. f.1 (suc j) (omega arith))

module _ (st : Station) (H : Orderable st) where
  -- While two or more are unranked, one of them is not t.
  not_alone : (U : List ℕ) → Rest st U → 1 < length U → (x : ℕ) × Memᴰ x U × (x ≡ st.analyser → ⊥)
  not_alone U R h = go (other_than st.analyser U)
    where
      go : ((x : ℕ) × Memᴰ x U × (x ≡ st.analyser → ⊥)) ⊎ ((x : ℕ) → Memᴰ x U → x ≡ st.analyser) → (x : ℕ) × Memᴰ x U × (x ≡ st.analyser → ⊥)
      go (inl f) = f
      go (inr a) = absurd (omega (arith, length_only U R.distinct a R.analyser))

  chosen_of : (U : List ℕ) → Rest st U → 1 < length U → Memᴰ (chosen st H U) U × Candidate st.cables st.analyser U (chosen st H U)
  chosen_of U R h = let f : (x : ℕ) × Memᴰ x U × (x ≡ st.analyser → ⊥) = not_alone U R h in chosen_candidate st H U R f.1 f.2

  remaining_rest : (k : ℕ) (U : List ℕ) → Rest st U → k < length U
      → Rest st (remaining st.cables st.analyser k U) × (length (remaining st.cables st.analyser k U) + k ≡ length U)
  unfolding remaining
  remaining_rest zero U R h = (R, omega arith)
  remaining_rest (suc k) U R h =
      let c : Memᴰ (chosen st H U) U × Candidate st.cables st.analyser U (chosen st H U) = chosen_of U R (omega arith) in
      let l : suc (length (without (chosen st H U) U)) ≡ length U = length_without U R.distinct c.0 in
      let f : Rest st (remaining st.cables st.analyser k (without (chosen st H U) U))
      × (length (remaining st.cables st.analyser k (without (chosen st H U) U)) + k ≡ length (without (chosen st H U) U)) =
      remaining_rest k (without (chosen st H U) U) (rest_step st U (chosen st H U) R c.1) (omega arith) in
      (f.0, omega (arith, f.1))

  -- From rank 1 on: every unranked part has a path to t among them, and there are as many as ranks are left.
  pub unranked_rest : (k : ℕ) → suc k < st.parts → Rest st (unranked_at st (suc k)) × (length (unranked_at st (suc k)) + suc k ≡ st.parts)
  unfolding unranked_at
  unranked_rest k l =
      let f : Rest st (remaining st.cables st.analyser k (others st H))
      × (length (remaining st.cables st.analyser k (others st H)) + k ≡ length (others st H)) =
      remaining_rest k (others st H) (rest_start st H) (omega (arith, length_others st H)) in
      (f.0, omega (arith, f.1, length_others st H))

  -- The unranked parts at rank k are those that are not among the first k.
  pub unranked_iff : (k x : ℕ) → k ≤ st.parts → Memᴰ x (unranked_at st k) ↔ ((x < st.parts) × ((j : ℕ) → j < k → x ≡ get_or (order st) j 0 → ⊥))
  unfolding unranked_at order
  unranked_iff zero x l = (λ m. (range_e st.parts m, λ j h e. absurd (omega arith)), λ f. range_i x st.parts f.0)
  unranked_iff (suc k) x l = Iff.trans (remaining_iff st.cables st.analyser (st.parts - 1) k (others st H) x (omega arith)) (to, fro)
    where
      later : List ℕ
      later = extend st.cables st.analyser (st.parts - 1) (others st H)

      none : (x ≡ st.source → ⊥) → ((j : ℕ) → j < k → x ≡ get_or later j 0 → ⊥) → (j : ℕ) → j < suc k → x ≡ get_or (st.source ∷ later) j 0 → ⊥
      none n f zero h e = n e
      none n f (suc j) h e = f j (omega arith) e

      to : Memᴰ x (others st H) × ((j : ℕ) → j < k → x ≡ get_or later j 0 → ⊥) → (x < st.parts) × ((j : ℕ) → j < suc k → x ≡ get_or (st.source ∷ later) j 0 → ⊥)
      to f = ((others_e st H f.0).0, none (others_e st H f.0).1 f.1)

      fro : (x < st.parts) × ((j : ℕ) → j < suc k → x ≡ get_or (st.source ∷ later) j 0 → ⊥) → Memᴰ x (others st H) × ((j : ℕ) → j < k → x ≡ get_or later j 0 → ⊥)
      fro f = (others_i st H f.0 (f.1 0 (omega arith)), λ j h. f.1 (suc j) (omega arith))

  -- 'Each next rank goes to the lowest-numbered unranked part, other than t, that is joined to a ranked part and whose removal from the
  -- unranked parts leaves those that remain joined to each other'
  pub record NextRank (k w : ℕ) : Type 0 where
    pub unranked : Memᴰ w (unranked_at st k)
    pub candidacy : Candidate st.cables st.analyser (unranked_at st k) w
    pub lowest : (x : ℕ) → Memᴰ x (unranked_at st k) → Candidate st.cables st.analyser (unranked_at st k) x → w ≤ x

  chosen_rule : (k : ℕ) → suc (suc k) < st.parts → NextRank (suc k) (chosen st H (unranked_at st (suc k)))
  chosen_rule k l =
      let f : Rest st (unranked_at st (suc k)) × (length (unranked_at st (suc k)) + suc k ≡ st.parts) = unranked_rest k (omega arith) in
      let c : Memᴰ (chosen st H (unranked_at st (suc k))) (unranked_at st (suc k))
      × Candidate st.cables st.analyser (unranked_at st (suc k)) (chosen st H (unranked_at st (suc k))) =
      chosen_of (unranked_at st (suc k)) f.0 (omega (arith, f.1)) in
      record { unranked = c.0; candidacy = c.1; lowest = λ x m d. chosen_least st H (unranked_at st (suc k)) f.0 m d }

  order_at : (k : ℕ) → suc (suc k) < st.parts → get_or (order st) (suc k) 0 ≡ chosen st H (unranked_at st (suc k))
  unfolding unranked_at order
  order_at k l = extend_at st.cables st.analyser (st.parts - 1) k (others st H) (omega arith)

  pub order_rule : (k : ℕ) → suc (suc k) < st.parts → NextRank (suc k) (get_or (order st) (suc k) 0)
  order_rule k l = subst (NextRank (suc k)) (sym (order_at k l)) (chosen_rule k l)
