-- A line alternates exactly if a walk along its corners finds a run of the other kind each time. Assumes nothing.
use Prim.Native.Nat.{ℕ, zero, suc, ◌+◌, ◌<◌, ◌≤◌}
use native.Mathlib.Omega.{arith}
use native.Mathlib.Numerals.{add-one}
use mathlib.Core.Path.{◌≡◌, refl, sym, ap, ◌∙◌}
use mathlib.Core.Bool.{Bool, true, false, not, ◌&&◌, true≢false}
use mathlib.Core.Logic.{◌⊎◌, inl, inr, ⊎_elim}
use mathlib.Core.List.{List, [], ◌∷◌, ◌++◌, map}
use lib.ListN.{length, get_or, drop, length-append, drop_of_length-le}
use lib.Seq.{drop-cons}
use lib.Dec.{eqb}
use borrow.Author.Tests.{eqb-true, eq-eqb, not-true}
use Rattle.lists.proofs.Bools.{and_e, and_i, not_e, not_i, same_test}
use Rattle.geometry.specs.Spots.{Spot}
use Rattle.geometry.specs.Lines.{point, IsRun, Level, Upright}
use Rattle.geometry.proofs.Spots.{spot_path}
use Rattle.drawing.specs.Reading.{word_spot}
use Rattle.validation.specs.Alone.{alternates}
use Rattle.validation.specs.Facing.{line_over}
use Rattle.validation.proofs.Alone.{Alternating, alternating_later, alternates_e, alternates_i}
use Rattle.directions.specs.Code.{run_of, level_first, alternating}

-- One run

abbrev RunOf : Bool → Spot → Spot → Type 0
RunOf true p q = (p.y ≡ q.y) × (p.x ≡ q.x → ⊥)
RunOf false p q = (p.x ≡ q.x) × (p.y ≡ q.y → ⊥)

run_e : (level : Bool) (p q : Spot) → run_of level p q ≡ true → RunOf level p q
run_e true p q h =
    let r = and_e (eqb p.y q.y) (not (eqb p.x q.x)) h in
    (eqb-true _ _ r.0, λ e. not_e (eqb p.x q.x) r.1 (eq-eqb _ _ e))
run_e false p q h =
    let r = and_e (eqb p.x q.x) (not (eqb p.y q.y)) h in
    (eqb-true _ _ r.0, λ e. not_e (eqb p.y q.y) r.1 (eq-eqb _ _ e))

-- a run that is level or upright and has two points
module _ (p q : Spot) (differ : p ≡ q → ⊥) (straight : (p.y ≡ q.y) ⊎ (p.x ≡ q.x)) where
  run_made : run_of (eqb p.y q.y) p q ≡ true
  run_made = go (eqb p.y q.y) refl
    where
      upright : eqb p.y q.y ≡ false → p.x ≡ q.x
      upright h = ⊎_elim (λ e. absurd (true≢false (sym (eq-eqb _ _ e) ∙ h))) (λ e. e) straight

      go : (b : Bool) → eqb p.y q.y ≡ b → run_of b p q ≡ true
      go true h = and_i _ _ h (not_i (eqb p.x q.x) λ e. differ (spot_path (eqb-true _ _ e) (eqb-true _ _ h)))
      go false h = and_i _ _ (eq-eqb _ _ (upright h)) (rw h refl)

-- A run before those of a line

module _ (p c : Spot) (ds : List Spot) where
  with_first :
      (p ≡ c → ⊥) → (p.y ≡ c.y) ⊎ (p.x ≡ c.x) → (p.y ≡ c.y → c.x ≡ (point (c ∷ ds) 1).x) → (p.x ≡ c.x → c.y ≡ (point (c ∷ ds) 1).y)
      → Alternating (c ∷ ds) → Alternating (p ∷ c ∷ ds)
  unfolding point
  with_first d s f g A = record { differ = differ; straight = straight; level_upright = level_upright; upright_level = upright_level }
    where
      differ : (k : ℕ) → IsRun (p ∷ c ∷ ds) k → point (p ∷ c ∷ ds) k ≡ point (p ∷ c ∷ ds) (suc k) → ⊥
      differ zero l = d
      differ (suc k) l = A.differ k (omega arith)

      straight : (k : ℕ) → IsRun (p ∷ c ∷ ds) k → Level (p ∷ c ∷ ds) k ⊎ Upright (p ∷ c ∷ ds) k
      straight zero l = s
      straight (suc k) l = A.straight k (omega arith)

      level_upright : (k : ℕ) → IsRun (p ∷ c ∷ ds) (suc k) → Level (p ∷ c ∷ ds) k → Upright (p ∷ c ∷ ds) (suc k)
      level_upright zero l = f
      level_upright (suc k) l = A.level_upright k (omega arith)

      upright_level : (k : ℕ) → IsRun (p ∷ c ∷ ds) (suc k) → Upright (p ∷ c ∷ ds) k → Level (p ∷ c ∷ ds) (suc k)
      upright_level zero l = g
      upright_level (suc k) l = A.upright_level k (omega arith)

  -- where the two first runs are of different kinds
  run_first : (level : Bool) → RunOf level p c → RunOf (not level) c (point (c ∷ ds) 1) → Alternating (c ∷ ds) → Alternating (p ∷ c ∷ ds)
  run_first true r t A = with_first (λ e. r.1 (ap (λ (s : Spot). s.x) e)) (inl r.0) (λ e. t.0) (λ e. absurd (r.1 e)) A
  run_first false r t A = with_first (λ e. r.1 (ap (λ (s : Spot). s.y) e)) (inr r.0) (λ e. absurd (r.1 e)) (λ e. t.0) A

single : (p q : Spot) → (p ≡ q → ⊥) → (p.y ≡ q.y) ⊎ (p.x ≡ q.x) → Alternating (p ∷ q ∷ [])
unfolding point
single p q d s = record {
  differ = differ;
  straight = straight;
  level_upright = λ k l. absurd (omega arith);
  upright_level = λ k l. absurd (omega arith);
}
  where
    differ : (k : ℕ) → IsRun (p ∷ q ∷ []) k → point (p ∷ q ∷ []) k ≡ point (p ∷ q ∷ []) (suc k) → ⊥
    differ zero l = d
    differ (suc k) l = absurd (omega arith)

    straight : (k : ℕ) → IsRun (p ∷ q ∷ []) k → Level (p ∷ q ∷ []) k ⊎ Upright (p ∷ q ∷ []) k
    straight zero l = s
    straight (suc k) l = absurd (omega arith)

run_single : (level : Bool) (p q : Spot) → RunOf level p q → Alternating (p ∷ q ∷ [])
run_single true p q r = single p q (λ e. r.1 (ap (λ (s : Spot). s.x) e)) (inl r.0)
run_single false p q r = single p q (λ e. r.1 (ap (λ (s : Spot). s.y) e)) (inr r.0)

-- The walk

first_run :
    (level : Bool) (p : Spot) (cs : List Spot) (q : Spot) → alternating level p cs q ≡ true → RunOf level p (point (line_over p cs q) 1)
unfolding alternating point
first_run level p [] q h = run_e level p q h
first_run level p (c ∷ cs) q h = run_e level p c (and_e (run_of level p c) (alternating (not level) c cs q) h).0

walk_e : (level : Bool) (p : Spot) (cs : List Spot) (q : Spot) → alternating level p cs q ≡ true → Alternating (line_over p cs q)
unfolding alternating
walk_e level p [] q h = run_single level p q (run_e level p q h)
walk_e level p (c ∷ cs) q h =
    let r = and_e (run_of level p c) (alternating (not level) c cs q) h in
    run_first p c (cs ++ q ∷ []) level (run_e level p c r.0) (first_run (not level) c cs q r.1) (walk_e (not level) c cs q r.1)

-- the kind of the first run
level_first_lem : (p : Spot) (cs : List Spot) (q : Spot) → level_first p cs q ≡ eqb p.y (point (line_over p cs q) 1).y
unfolding point
level_first_lem p [] q = refl
level_first_lem p (c ∷ cs) q = refl

-- the second run is of the other kind
turned :
    (p c : Spot) (ds : List Spot) → IsRun (p ∷ c ∷ ds) 1 → Alternating (p ∷ c ∷ ds)
    → eqb c.y (point (c ∷ ds) 1).y ≡ not (eqb p.y c.y)
unfolding point
turned p c ds l A = go (eqb p.y c.y) refl
  where
    level : Bool → Type 0
    level b = eqb c.y (point (c ∷ ds) 1).y ≡ b

    upright : p.y ≡ c.y → level false
    upright e =
        not-true (eqb c.y (point (c ∷ ds) 1).y)
        (not_i (eqb c.y (point (c ∷ ds) 1).y) λ h. A.differ 1 l (spot_path (A.level_upright 0 l e) (eqb-true _ _ h)))

    go : (b : Bool) → eqb p.y c.y ≡ b → level (not b)
    go true h = upright (eqb-true _ _ h)
    go false h =
        ⊎_elim (λ e. absurd (true≢false (sym (eq-eqb _ _ e) ∙ h))) (λ e. eq-eqb _ _ (A.upright_level 0 l e))
        (A.straight 0 (omega arith))

walk_i : (p : Spot) (cs : List Spot) (q : Spot) → Alternating (line_over p cs q) → alternating (level_first p cs q) p cs q ≡ true
unfolding alternating point
walk_i p [] q A = run_made p q (A.differ 0 (omega arith)) (A.straight 0 (omega arith))
walk_i p (c ∷ cs) q A =
    let d = turned p c (cs ++ q ∷ []) (omega (arith, length-append cs (q ∷ []))) A in
    and_i _ _ (run_made p c (A.differ 0 (omega arith)) (A.straight 0 (omega arith)))
    (rw (sym d ∙ sym (level_first_lem c cs q)) (walk_i c cs q (alternating_later p (line_over c cs q) A)))

-- the walk tells whether the line alternates
pub alternates_walk : (p : Spot) (cs : List Spot) (q : Spot) → alternates (line_over p cs q) ≡ alternating (level_first p cs q) p cs q
alternates_walk p cs q =
    same_test _ _ (λ h. walk_i p cs q (alternates_e (line_over p cs q) h))
    (λ h. alternates_i (line_over p cs q) (walk_e (level_first p cs q) p cs q h))

-- The walk in code, over the words of the corners

-- at word k, with this run due and from this spot
pub record Walking (first last : Spot) (ws : List ℕ) (level : Bool) (p : Spot) (k : ℕ) : Type 0 where
  pub left : alternating level p (map word_spot (drop k ws)) last ≡ alternates (line_over first (map word_spot ws) last)

module _ {first last : Spot} {ws : List ℕ} {level : Bool} where
  pub walking_start : level ≡ level_first first (map word_spot ws) last → Walking first last ws level first 0
  walking_start e = record { left = rw e (sym (alternates_walk first (map word_spot ws) last)) }

  module _ {p : Spot} {k : ℕ} (W : Walking first last ws level p k) where
    pub walking_end : length ws ≤ k → (r : Bool) → r ≡ run_of level p last → r ≡ alternates (line_over first (map word_spot ws) last)
    unfolding alternating
    walking_end h r e =
        let l = W.left in
        e ∙ (rw (drop_of_length-le ws {i = k} h) at l)

    module _ (c : Spot) (e : c ≡ word_spot (get_or ws k 0)) (h : k < length ws) where
      run_due :
          (run_of level p c && alternating (not level) c (map word_spot (drop (k + 1) ws)) last)
          ≡ alternates (line_over first (map word_spot ws) last)
      unfolding alternating
      run_due =
          let l = W.left in
          rw (e, add-one) (rw (drop-cons ws k 0 h) at l)

      pub walking_on : (r : Bool) → r ≡ run_of level p c → r ≡ true → Walking first last ws (not level) c (k + 1)
      walking_on r f g = let d : run_of level p c ≡ true = sym f ∙ g in record { left = rw d at run_due }

      pub walking_stops : (r : Bool) → r ≡ run_of level p c → r ≡ false → false ≡ alternates (line_over first (map word_spot ws) last)
      walking_stops r f g = let d : run_of level p c ≡ false = sym f ∙ g in rw d at run_due
