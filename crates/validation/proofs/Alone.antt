-- The test of one cable by itself agrees with what document 01's words ask of it. Assumes nothing.
use Prim.Native.Nat.{ℕ, zero, suc, ◌-◌, ◌<◌, ◌≤◌, min, max}
use native.Mathlib.Omega.{arith}
use native.Mathlib.Decide.{ℕ_discrete}
use mathlib.Core.Path.{◌≡◌, refl, sym, ap, ◌∙◌, subst}
use mathlib.Core.Bool.{Bool, true, false, not, ◌&&◌, ◌||◌}
use mathlib.Core.Logic.{◌⊎◌, inl, inr, ⊎_elim}
use mathlib.Core.List.{List, ◌∷◌}
use lib.ListN.{length}
use lib.Dec.{eqb, leb, ltb}
use borrow.Author.Tests.{eqb-true, eq-eqb, leb-true, le-leb, ltb-true, lt-ltb, not-true, not-false}
use Rattle.lists.specs.Select.{any, range}
use Rattle.lists.proofs.Bools.{and_e, and_i, or_e, or_left, or_right, not_e, not_i}
use Rattle.lists.proofs.Any.{any_range_e, any_range_i}
use Rattle.geometry.specs.Spots.{Spot, spot_at, same_spot}
use Rattle.geometry.specs.Lines.{Lone, point, IsRun, OnRun, OnLine, Between, Level, Upright}
use Rattle.geometry.specs.Crossing.{between}
use Rattle.validation.specs.Alone.{each, level_run, upright_run, proper_run, turns, overlap, runs_share, touching, touches_itself, on_line, joins_parts, alternates, passes_others, lone}
use Rattle.geometry.proofs.Spots.{spot_path, same_spot_lem, same_spot_e}
use Rattle.geometry.proofs.Crossing.{between_e, between_i}

-- Tests of all numbers below one

module _ (p : ℕ → Bool) (n : ℕ) where
  pub each_e : each p n ≡ true → (k : ℕ) → k < n → p k ≡ true
  unfolding each
  each_e h k l = go (p k) refl
    where
      go : (b : Bool) → p k ≡ b → p k ≡ true
      go true e = e
      go false e = absurd (not_e (any (λ i. not (p i)) (range n)) h (any_range_i (λ i. not (p i)) n k l (ap not e)))

  pub each_i : ((k : ℕ) → k < n → p k ≡ true) → each p n ≡ true
  unfolding each
  each_i f =
      not_i (any (λ i. not (p i)) (range n)) λ h.
      let r = any_range_e (λ i. not (p i)) n h in
      not_e (p r.0) r.2 (f r.0 r.1)

  pub each_fails : each p n ≡ false → (k : ℕ) × (k < n) × (p k ≡ false)
  unfolding each
  each_fails h =
      let r = any_range_e (λ k. not (p k)) n (not-false (any (λ k. not (p k)) (range n)) h) in
      (r.0, r.1, not-true (p r.0) r.2)

-- a test is passed or not
pub not_same : (a : Bool) → (a ≡ true) ⊎ (a ≡ true → ⊥)
not_same true = inl refl
not_same false = inr λ h. not_e false refl h

-- Runs that share a spot

least_most : (a b : ℕ) → min a b ≤ max a b
least_most a b = omega arith

-- an interval's two ends as plain numbers
pub in_both : (l h m g : ℕ) → l ≤ h → m ≤ g → l ≤ g → m ≤ h → (w : ℕ) × (l ≤ w) × (w ≤ h) × (m ≤ w) × (w ≤ g)
in_both l h m g a b c d = (max l m, omega arith, omega arith, omega arith, omega arith)

pub overlap_e :
    (a b c d : ℕ) → overlap a b c d ≡ true → (w : ℕ) × (min a b ≤ w) × (w ≤ max a b) × (min c d ≤ w) × (w ≤ max c d)
unfolding overlap
overlap_e a b c d h =
    let r = and_e (leb (min a b) (max c d)) (leb (min c d) (max a b)) h in
    in_both (min a b) (max a b) (min c d) (max c d) (least_most a b) (least_most c d) (leb-true _ _ r.0) (leb-true _ _ r.1)

through : (l w g : ℕ) → l ≤ w → w ≤ g → l ≤ g
through l w g a b = omega arith

pub overlap_i :
    (a b c d w : ℕ) → min a b ≤ w → w ≤ max a b → min c d ≤ w → w ≤ max c d → overlap a b c d ≡ true
unfolding overlap
overlap_i a b c d w f g h i = and_i _ _ (le-leb _ _ (through _ w _ f i)) (le-leb _ _ (through _ w _ h g))

pub runs_share_e : (p q r t : Spot) → runs_share p q r t ≡ true → (s : Spot) × Between p q s × Between r t s
unfolding runs_share
runs_share_e p q r t h =
    let e = and_e (overlap p.x q.x r.x t.x) (overlap p.y q.y r.y t.y) h in
    let u = overlap_e p.x q.x r.x t.x e.0 in
    let v = overlap_e p.y q.y r.y t.y e.1 in
    let A : Between p q (spot_at u.0 v.0) = record { left = u.1; right = u.2; below = v.1; above = v.2 } in
    (spot_at u.0 v.0, A, record { left = u.3; right = u.4; below = v.3; above = v.4 })

pub runs_share_i : (p q r t s : Spot) → Between p q s → Between r t s → runs_share p q r t ≡ true
unfolding runs_share
runs_share_i p q r t s A B =
    and_i _ _
    (overlap_i p.x q.x r.x t.x s.x A.left A.right B.left B.right)
    (overlap_i p.y q.y r.y t.y s.y A.below A.above B.below B.above)

-- Tests of one line's runs

module _ (ps : List Spot) where
  pub level_run_e : (k : ℕ) → level_run ps k ≡ true → Level ps k
  unfolding level_run
  level_run_e k h = eqb-true _ _ h

  pub level_run_i : (k : ℕ) → Level ps k → level_run ps k ≡ true
  unfolding level_run
  level_run_i k h = eq-eqb _ _ h

  pub upright_run_e : (k : ℕ) → upright_run ps k ≡ true → Upright ps k
  unfolding upright_run
  upright_run_e k h = eqb-true _ _ h

  pub upright_run_i : (k : ℕ) → Upright ps k → upright_run ps k ≡ true
  unfolding upright_run
  upright_run_i k h = eq-eqb _ _ h

  -- two runs that are no neighbours share a spot
  abbrev pub Touch : Type 0
  Touch = (j : ℕ) × (k : ℕ) × (suc j < k) × IsRun ps k × (s : Spot) × OnRun ps j s × OnRun ps k s

  pub touches_itself_e : touches_itself ps ≡ true → Touch
  unfolding touches_itself
  touches_itself_e h =
      let r = any_range_e (λ k. any (touching ps k) (range (k - 1))) (length ps - 1) h in
      let t = any_range_e (touching ps r.0) (r.0 - 1) r.2 in
      let u = runs_share_e _ _ _ _ t.2 in
      (t.0, r.0, omega (arith, t.1), omega (arith, r.1), u.0, u.1, u.2)

  pub touches_itself_i : Touch → touches_itself ps ≡ true
  unfolding touches_itself
  touches_itself_i (j, k, g, l, s, A, B) =
      any_range_i (λ k. any (touching ps k) (range (k - 1))) (length ps - 1) k (omega arith)
      (any_range_i (touching ps k) (k - 1) j (omega arith) (runs_share_i _ _ _ _ s A B))

  pub on_line_e : (s : Spot) → on_line ps s ≡ true → OnLine ps s
  unfolding on_line
  on_line_e s h =
      let r = any_range_e (λ k. between (point ps k) (point ps (suc k)) s) (length ps - 1) h in
      (r.0, omega (arith, r.1), between_e _ _ s r.2)

  pub on_line_i : (s : Spot) → OnLine ps s → on_line ps s ≡ true
  unfolding on_line
  on_line_i s (k, l, A) =
      any_range_i (λ k. between (point ps k) (point ps (suc k)) s) (length ps - 1) k (omega arith) (between_i _ _ s A)

  proper_run_e : (k : ℕ) → proper_run ps k ≡ true → (Level ps k ⊎ Upright ps k) × (Level ps k → Upright ps k → ⊥)
  unfolding proper_run
  proper_run_e k h =
      let a = level_run ps k in
      let b = upright_run ps k in
      let r = and_e (a || b) (not (a && b)) h in
      let s : Level ps k ⊎ Upright ps k = ⊎_elim (λ e. inl (level_run_e k e)) (λ e. inr (upright_run_e k e)) (or_e a b r.0) in
      (s, λ f g. not_e (a && b) r.1 (and_i a b (level_run_i k f) (upright_run_i k g)))

  proper_run_i : (k : ℕ) → Level ps k ⊎ Upright ps k → (Level ps k → Upright ps k → ⊥) → proper_run ps k ≡ true
  unfolding proper_run
  proper_run_i k s d =
      let a = level_run ps k in
      let b = upright_run ps k in
      and_i (a || b) (not (a && b))
      (⊎_elim (λ e. or_left a b (level_run_i k e)) (λ e. or_right a b (upright_run_i k e)) s)
      (not_i (a && b) λ h. let r = and_e a b h in d (level_run_e k r.0) (upright_run_e k r.1))

  turns_e : (k : ℕ) → turns ps k ≡ true → (Level ps k → Level ps (suc k) → ⊥) × (Upright ps k → Upright ps (suc k) → ⊥)
  unfolding turns
  turns_e k h =
      let a = level_run ps k && level_run ps (suc k) in
      let b = upright_run ps k && upright_run ps (suc k) in
      let r = and_e (not a) (not b) h in
      let s : Level ps k → Level ps (suc k) → ⊥ = λ f g. not_e a r.0 (and_i _ _ (level_run_i k f) (level_run_i (suc k) g)) in
      (s, λ f g. not_e b r.1 (and_i _ _ (upright_run_i k f) (upright_run_i (suc k) g)))

  turns_i : (k : ℕ) → (Level ps k → Level ps (suc k) → ⊥) → (Upright ps k → Upright ps (suc k) → ⊥) → turns ps k ≡ true
  unfolding turns
  turns_i k f g =
      and_i _ _
      (not_i (level_run ps k && level_run ps (suc k)) λ h.
      let r = and_e (level_run ps k) (level_run ps (suc k)) h in f (level_run_e k r.0) (level_run_e (suc k) r.1))
      (not_i (upright_run ps k && upright_run ps (suc k)) λ h.
      let r = and_e (upright_run ps k) (upright_run ps (suc k)) h in g (upright_run_e k r.0) (upright_run_e (suc k) r.1))

  -- a run has its two points
  pub start_on : (k : ℕ) → OnRun ps k (point ps k)
  start_on k = record { left = omega arith; right = omega arith; below = omega arith; above = omega arith }

  pub end_on : (k : ℕ) → OnRun ps k (point ps (suc k))
  end_on k = record { left = omega arith; right = omega arith; below = omega arith; above = omega arith }

  -- neighbouring runs of different kinds share the point between them alone
  pub level_upright_meet : (k : ℕ) (s : Spot) → Level ps k → Upright ps (suc k) → OnRun ps k s → OnRun ps (suc k) s → s ≡ point ps (suc k)
  level_upright_meet k s f g A B = spot_path (omega (arith, B.left, B.right)) (omega (arith, A.below, A.above))

  pub upright_level_meet : (k : ℕ) (s : Spot) → Upright ps k → Level ps (suc k) → OnRun ps k s → OnRun ps (suc k) s → s ≡ point ps (suc k)
  upright_level_meet k s f g A B = spot_path (omega (arith, A.left, A.right)) (omega (arith, B.below, B.above))

-- What alternating runs are

-- 'alternating level and upright runs of nonzero length'
pub record Alternating (ps : List Spot) : Type 0 where
  pub differ : (k : ℕ) → IsRun ps k → point ps k ≡ point ps (suc k) → ⊥
  pub straight : (k : ℕ) → IsRun ps k → Level ps k ⊎ Upright ps k
  pub level_upright : (k : ℕ) → IsRun ps (suc k) → Level ps k → Upright ps (suc k)
  pub upright_level : (k : ℕ) → IsRun ps (suc k) → Upright ps k → Level ps (suc k)

-- so do those behind the first
pub alternating_later : (p : Spot) (ps : List Spot) → Alternating (p ∷ ps) → Alternating ps
unfolding point
alternating_later p ps A = record {
  differ = λ k l. A.differ (suc k) (omega arith);
  straight = λ k l. A.straight (suc k) (omega arith);
  level_upright = λ k l. A.level_upright (suc k) (omega arith);
  upright_level = λ k l. A.upright_level (suc k) (omega arith);
}

module _ (ps : List Spot) where
  pub alternates_e : alternates ps ≡ true → Alternating ps
  unfolding alternates
  alternates_e h = record {
    differ = λ k l e. (proper k l).1 (ap (λ (p : Spot). p.y) e) (ap (λ (p : Spot). p.x) e);
    straight = λ k l. (proper k l).0;
    level_upright = λ k l f. ⊎_elim (λ g. absurd ((turn k l).0 f g)) (λ g. g) (proper (suc k) l).0;
    upright_level = λ k l f. ⊎_elim (λ g. g) (λ g. absurd ((turn k l).1 f g)) (proper (suc k) l).0;
  }
    where
      both : (each (proper_run ps) (length ps - 1) ≡ true) × (each (turns ps) (length ps - 2) ≡ true)
      both = and_e (each (proper_run ps) (length ps - 1)) (each (turns ps) (length ps - 2)) h

      proper : (k : ℕ) → IsRun ps k → (Level ps k ⊎ Upright ps k) × (Level ps k → Upright ps k → ⊥)
      proper k l = proper_run_e ps k (each_e (proper_run ps) (length ps - 1) both.0 k (omega arith))

      turn : (k : ℕ) → IsRun ps (suc k) → (Level ps k → Level ps (suc k) → ⊥) × (Upright ps k → Upright ps (suc k) → ⊥)
      turn k l = turns_e ps k (each_e (turns ps) (length ps - 2) both.1 k (omega arith))

  pub alternates_i : Alternating ps → alternates ps ≡ true
  unfolding alternates
  alternates_i A =
      and_i _ _
      (each_i (proper_run ps) (length ps - 1) λ k l.
      proper_run_i ps k (A.straight k (omega arith)) λ f g. A.differ k (omega arith) (spot_path g f))
      (each_i (turns ps) (length ps - 2) λ k l.
      turns_i ps k (λ f g. A.differ (suc k) (omega arith) (spot_path (A.level_upright k (omega arith) f) g))
      (λ f g. A.differ (suc k) (omega arith) (spot_path g (A.upright_level k (omega arith) f))))

  -- neighbouring runs share the point between them alone
  pub neighbours_meet :
      Alternating ps → (k : ℕ) (s : Spot) → IsRun ps (suc k) → OnRun ps k s → OnRun ps (suc k) s → s ≡ point ps (suc k)
  neighbours_meet A k s l f g =
      ⊎_elim (λ e. level_upright_meet ps k s e (A.level_upright k l e) f g) (λ e. upright_level_meet ps k s e (A.upright_level k l e) f g)
      (A.straight k (omega arith))

  -- 'It touches itself where two of its runs share a spot, except that neighbouring runs share the point between them.'
  abbrev pub Untouched : Type 0
  Untouched = (j k : ℕ) → j < k → IsRun ps k → (s : Spot) → OnRun ps j s → OnRun ps k s → (k ≡ suc j) × (s ≡ point ps k)

  pub touches_not_e : Alternating ps → not (touches_itself ps) ≡ true → Untouched
  touches_not_e A h j k g l s f e = go (ℕ_discrete k (suc j))
    where
      go : Dec (k ≡ suc j) → (k ≡ suc j) × (s ≡ point ps k)
      go (yes q) = (
        q,
        neighbours_meet A j s (omega arith) f (subst (λ (i : ℕ). OnRun ps i s) q e) ∙ ap (point ps) (sym q),
      )
      go (no q) = absurd (not_e (touches_itself ps) h (touches_itself_i ps (j, k, omega arith, l, s, f, e)))

  pub touches_not_i : Untouched → not (touches_itself ps) ≡ true
  touches_not_i I =
      not_i (touches_itself ps) λ h.
      let r = touches_itself_e ps h in
      let u = I r.0 r.1 (omega (arith, r.2)) r.3 r.4 r.5 r.6 in
      omega (arith, r.2, u.0)

  -- The first point is on no run but the first, and the last point on none but the last.
  module _ (A : Alternating ps) (w : 2 ≤ length ps) (I : Untouched) where
    pub first_own : (k : ℕ) → IsRun ps k → OnRun ps k (point ps 0) → k ≡ 0
    first_own zero l f = refl
    first_own (suc k) l f =
        let u = I 0 (suc k) (omega arith) l (point ps 0) (start_on ps 0) f in
        absurd (A.differ 0 (omega arith) (u.1 ∙ ap (point ps) u.0))

    pub last_own : (z k : ℕ) → suc (suc z) ≡ length ps → IsRun ps k → OnRun ps k (point ps (suc z)) → k ≡ z
    last_own z k e l f = go (ℕ_discrete k z)
      where
        go : Dec (k ≡ z) → k ≡ z
        go (yes q) = q
        go (no q) =
            let u = I k z (omega arith) (omega arith) (point ps (suc z)) f (end_on ps z) in
            absurd (A.differ z (omega arith) (sym u.1))

-- One cable by itself

pub same_spot_i : (p q : Spot) → p ≡ q → same_spot p q ≡ true
same_spot_i p q e = same_spot_lem p q (ap (λ (s : Spot). s.x) e) (ap (λ (s : Spot). s.y) e)

module _ (n : ℕ) (spot : ℕ → Spot) (a b : ℕ) (ps : List Spot) where
  -- what the test of its parts says
  pub record JoinsParts : Type 0 where
    pub starts : point ps 0 ≡ spot a
    pub ends : (k : ℕ) → suc k ≡ length ps → point ps k ≡ spot b
    pub two : 2 ≤ length ps
    pub parts : (a < n) × (b < n) × (a ≡ b → ⊥)

  pub joins_parts_e : joins_parts n spot a b ps ≡ true → JoinsParts
  unfolding joins_parts
  joins_parts_e h =
      let c = ltb a n in
      let d = ltb b n in
      let e = not (eqb a b) in
      let f = leb 2 (length ps) in
      let g = same_spot (point ps 0) (spot a) in
      let i = same_spot (point ps (length ps - 1)) (spot b) in
      let r = and_e (c && d && e && f && g) i h in
      let t = and_e (c && d && e && f) g r.0 in
      let u = and_e (c && d && e) f t.0 in
      let v = and_e (c && d) e u.0 in
      let w = and_e c d v.0 in
      record {
        starts = same_spot_e _ _ t.1;
        ends = λ k q. ap (point ps) (omega arith) ∙ same_spot_e (point ps (length ps - 1)) (spot b) r.1;
        two = leb-true _ _ u.1;
        parts = (ltb-true _ _ w.0, ltb-true _ _ w.1, λ q. not_e (eqb a b) v.1 (eq-eqb a b q));
      }

  pub joins_parts_i : JoinsParts → joins_parts n spot a b ps ≡ true
  unfolding joins_parts
  joins_parts_i J =
      and_i _ _
      (and_i _ _
      (and_i _ _
      (and_i _ _ (and_i _ _ (lt-ltb _ _ J.parts.0) (lt-ltb _ _ J.parts.1)) (not_i (eqb a b) λ h. J.parts.2 (eqb-true a b h)))
      (le-leb _ _ J.two))
      (same_spot_i _ _ J.starts))
      (same_spot_i _ _ (J.ends (length ps - 1) (omega (arith, J.two))))

  pub passes_others_e : passes_others n spot a b ps ≡ true → (p : ℕ) → p < n → OnLine ps (spot p) → (p ≡ a) ⊎ (p ≡ b)
  unfolding passes_others
  passes_others_e h p l o =
      go (or_e (eqb p a || eqb p b) (not (on_line ps (spot p))) (each_e (λ p. eqb p a || eqb p b || not (on_line ps (spot p))) n h p l))
    where
      go : ((eqb p a || eqb p b) ≡ true) ⊎ (not (on_line ps (spot p)) ≡ true) → (p ≡ a) ⊎ (p ≡ b)
      go (inl e) = ⊎_elim (λ f. inl (eqb-true p a f)) (λ f. inr (eqb-true p b f)) (or_e (eqb p a) (eqb p b) e)
      go (inr e) = absurd (not_e (on_line ps (spot p)) e (on_line_i ps (spot p) o))

  pub passes_others_i : ((p : ℕ) → p < n → OnLine ps (spot p) → (p ≡ a) ⊎ (p ≡ b)) → passes_others n spot a b ps ≡ true
  unfolding passes_others
  passes_others_i O = each_i (λ p. eqb p a || eqb p b || not (on_line ps (spot p))) n λ p l. go p l (not_same (on_line ps (spot p)))
    where
      go :
          (p : ℕ) → p < n → (on_line ps (spot p) ≡ true) ⊎ (on_line ps (spot p) ≡ true → ⊥)
          → (eqb p a || eqb p b || not (on_line ps (spot p))) ≡ true
      go p l (inl e) =
          or_left (eqb p a || eqb p b) (not (on_line ps (spot p)))
          (⊎_elim (λ f. or_left (eqb p a) (eqb p b) (eq-eqb p a f)) (λ f. or_right (eqb p a) (eqb p b) (eq-eqb p b f))
          (O p l (on_line_e ps (spot p) e)))
      go p l (inr e) = or_right (eqb p a || eqb p b) (not (on_line ps (spot p))) (not_i (on_line ps (spot p)) e)

  -- Its own parts are on no other run, where the rest holds.
  pub lone_of :
      JoinsParts → Alternating ps → Untouched ps → ((p : ℕ) → p < n → OnLine ps (spot p) → (p ≡ a) ⊎ (p ≡ b)) → Lone n spot a b ps
  lone_of J A I O = record {
    starts = J.starts;
    ends = J.ends;
    two = J.two;
    parts = J.parts;
    differ = A.differ;
    straight = A.straight;
    level_upright = A.level_upright;
    upright_level = A.upright_level;
    itself = I;
    others = O;
    own_first = λ k l f. first_own ps A J.two I k l (subst (λ (s : Spot). OnRun ps k s) (sym J.starts) f);
    own_last = λ k l f.
        let z = length ps - 2 in
        let w = J.two in
        let e : suc (suc z) ≡ length ps = omega arith in
        let q = last_own ps A w I z k e l (subst (λ (s : Spot). OnRun ps k s) (sym (J.ends (suc z) e)) f) in
        omega arith;
  }

  pub lone_joins : Lone n spot a b ps → JoinsParts
  lone_joins L = record { starts = L.starts; ends = L.ends; two = L.two; parts = L.parts }

  pub lone_alternates : Lone n spot a b ps → Alternating ps
  lone_alternates L = record {
    differ = L.differ;
    straight = L.straight;
    level_upright = L.level_upright;
    upright_level = L.upright_level;
  }

  pub lone_e : lone n spot a b ps ≡ true → Lone n spot a b ps
  unfolding lone
  lone_e h =
      let c = joins_parts n spot a b ps in
      let d = alternates ps in
      let e = not (touches_itself ps) in
      let f = passes_others n spot a b ps in
      let r = and_e (c && d && e) f h in
      let t = and_e (c && d) e r.0 in
      let u = and_e c d t.0 in
      let A = alternates_e ps u.1 in
      lone_of (joins_parts_e u.0) A (touches_not_e ps A t.1) (passes_others_e r.1)

  pub lone_i : Lone n spot a b ps → lone n spot a b ps ≡ true
  unfolding lone
  lone_i L =
      and_i _ _
      (and_i _ _ (and_i _ _ (joins_parts_i (lone_joins L)) (alternates_i ps (lone_alternates L))) (touches_not_i ps L.itself))
      (passes_others_i L.others)

-- The parts of a cable are apart from all others.

module _ (n : ℕ) (spot : ℕ → Spot) (a b : ℕ) (ps : List Spot) (L : Lone n spot a b ps) where
  pub ends_apart : spot a ≡ spot b → ⊥
  ends_apart e =
      let w = L.two in
      let q = L.own_last 0 (omega arith) (subst (λ (s : Spot). OnRun ps 0 s) (L.starts ∙ e) (start_on ps 0)) in
      L.differ 0 (omega arith) (L.starts ∙ e ∙ sym (L.ends 1 q))

  pub first_apart : (q : ℕ) → q < n → spot a ≡ spot q → a ≡ q
  first_apart q l e =
      let w = L.two in
      ⊎_elim (λ f. sym f) (λ f. absurd (ends_apart (e ∙ ap spot f)))
      (L.others q l (0, omega arith, subst (λ (s : Spot). OnRun ps 0 s) (L.starts ∙ e) (start_on ps 0)))

  pub last_apart : (q : ℕ) → q < n → spot b ≡ spot q → b ≡ q
  last_apart q l e =
      let w = L.two in
      let z = length ps - 2 in
      let f : suc (suc z) ≡ length ps = omega arith in
      ⊎_elim (λ g. absurd (ends_apart (sym (e ∙ ap spot g)))) (λ g. sym g)
      (L.others q l (z, omega arith, subst (λ (s : Spot). OnRun ps z s) (L.ends (suc z) f ∙ e) (end_on ps z)))

-- 'no two parts share a spot', where every part has a cable
pub parts_apart :
    (n m : ℕ) (spot : ℕ → Spot) (first last : ℕ → ℕ) (points : ℕ → List Spot)
    → ((i : ℕ) → i < m → Lone n spot (first i) (last i) (points i))
    → ((p : ℕ) → p < n → (i : ℕ) × (i < m) × ((p ≡ first i) ⊎ (p ≡ last i)))
    → (p q : ℕ) → p < n → q < n → spot p ≡ spot q → p ≡ q
parts_apart n m spot first last points L J p q f g e = go (J p f)
  where
    go : (i : ℕ) × (i < m) × ((p ≡ first i) ⊎ (p ≡ last i)) → p ≡ q
    go (i, l, inl h) = h ∙ first_apart n spot (first i) (last i) (points i) (L i l) q g (ap spot (sym h) ∙ e)
    go (i, l, inr h) = h ∙ last_apart n spot (first i) (last i) (points i) (L i l) q g (ap spot (sym h) ∙ e)
