-- Request 2026-14: a part that separates others from both ends separates a neighbour of its own; of the lists that pass checks 1 to 9,
-- check 10 refuses exactly those without an st-ordering between their ends. Assumes nothing.
use Rattle.checks.proofs.FirstRefusal.{same_fault, same_place}
use Rattle.checks.specs.declared.Fault.{Fault}
use Rattle.std.specs.Prelude.{Option, Some, None, Ok, Err, ⊤}
use Prim.Native.Nat.{ℕ, ◌<◌}
use native.Mathlib.Omega.{arith}
use native.Mathlib.Decide.{ℕ_discrete}
use mathlib.Core.Path.{◌≡◌, refl, sym, ◌∙◌, subst, ap}
use mathlib.Core.Logic.{◌⊎◌, inl, inr, ◌↔◌}
use mathlib.Core.List.{List, Memᴰ}
use Rattle.lists.proofs.Sets.{dec_mem}
use Rattle.checks.specs.declared.Fault.TheVariants as faults
use Rattle.checks.specs.Checks.{first_refusal, Clear, Verdict, passed, refused, number_of}
use Rattle.station.specs.Station.{Station, station_of}
use Rattle.station.specs.Checks.{list_checks}
use Rattle.station.specs.Code.{Wired}
use Rattle.station.proofs.Numbers.{list_number}
use Rattle.order.specs.Reach.{Joined, Path, arrived, onward, check9, separated, check10}
use Rattle.order.specs.Bipolar.{Off, ReachesEnd}
use Rattle.order.specs.Checks.{all_checks}
use Rattle.order.specs.Order.{order}
use Rattle.order.specs.StOrder.{StOrdering}
use Rattle.order.proofs.Joins.{joined_sym, within, joined_within}
use Rattle.order.proofs.Paths.{path_end, path_on, path_back, path_leaves}
use Rattle.order.proofs.Checks.{Lowest, Part, SeparatesSome, check9_nothing, separated_iff, separated_or, check10_at, check10_nothing}
use Rattle.order.proofs.AllChecks.{refused_8, refused_9, refused_10, all_clear}
use Rattle.order.proofs.StOrderings.{ordering_bipolar}
use Rattle.order.proofs.Passed.{list_ordering}

-- A part that v separates from both ends is joined to them through v alone, so that a neighbour of v is separated too

module _ (st : Station) (W : Wired st) (nine : check9 st ≡ None) (v : ℕ) where
  -- a path from a to b
  between : (a b : ℕ) → a < st.parts → b < st.parts → Path st.cables (Part st.parts) b a
  between a b h g =
      let from = (check9_nothing st).0 nine in
      path_on st.cables (path_back st.cables (from a h)) (from b g)

  -- an end that remains without v
  remaining : (e : ℕ) × Off st.parts v e × ReachesEnd st v e
  remaining = go (ℕ_discrete st.source v)
    where
      go : Dec (st.source ≡ v) → (e : ℕ) × Off st.parts v e × ReachesEnd st v e
      go (yes q) = let off : Off st.parts v st.analyser = (W.analyser, λ r. W.apart (q ∙ sym r)) in (st.analyser, off, inr (arrived off refl))
      go (no q) = let off : Off st.parts v st.source = (W.source, q) in (st.source, off, inl (arrived off refl))

  pub separated_beside : {p : ℕ} → Memᴰ p (separated st v) → (w : ℕ) × Joined st.cables v w × Memᴰ w (separated st v)
  separated_beside {p} m =
      go (path_leaves st.cables (λ x. dec_mem x (separated st v)) m (between p remaining.0 ((separated_iff st v p).0 m).0.0 remaining.1.0))
    where
      on : (w r : ℕ) → Memᴰ w (separated st v) → Joined st.cables w r → ReachesEnd st v r → ⊥
      on w r h j (inl q) = let s = (separated_iff st v w).0 h in s.1 (inl (onward r s.0 j q))
      on w r h j (inr q) = let s = (separated_iff st v w).0 h in s.1 (inr (onward r s.0 j q))

      reached : (w r : ℕ) → Memᴰ w (separated st v) → Joined st.cables w r → Memᴰ r (separated st v) ⊎ ReachesEnd st v r
          → (Memᴰ r (separated st v) → ⊥) → ⊥
      reached w r h j (inl k) out = out k
      reached w r h j (inr q) out = on w r h j q

      beside : (w r : ℕ) → Memᴰ w (separated st v) → Joined st.cables w r → (Memᴰ r (separated st v) → ⊥) → Dec (r ≡ v)
          → (x : ℕ) × Joined st.cables v x × Memᴰ x (separated st v)
      beside w r h j out (yes e) = (w, joined_sym st.cables (subst (Joined st.cables w) e j), h)
      beside w r h j out (no n) = absurd (reached w r h j (separated_or st v r (joined_within st.cables w (within W) j, n)) out)

      go : Path st.cables (λ x. Part st.parts x × Memᴰ x (separated st v)) remaining.0 p
          ⊎ ((w r : ℕ) × Path st.cables (λ x. Part st.parts x × Memᴰ x (separated st v)) w p × Joined st.cables w r × (Memᴰ r (separated st v) → ⊥))
          → (x : ℕ) × Joined st.cables v x × Memᴰ x (separated st v)
      go (inl q) = absurd (((separated_iff st v remaining.0).0 (path_end st.cables q).1).1 remaining.2)
      go (inr h) = beside h.0 h.1 (path_end st.cables h.2).1 h.3 h.4 (ℕ_discrete h.1 v)

-- 'the list then has no st-ordering between those ends', of stations
pub separated_unordered : (st : Station) (v : ℕ) → check10 st ≡ Some v → (l : List ℕ) → StOrdering st l → ⊥
separated_unordered st v e l O =
    let h = (check10_at st v).0 e in
    h.bad.2 (ordering_bipolar st l O v h.bad.0 h.part h.bad.1.0 h.bad.1.1)

refusals_same : {c k : Fault} {p q : ℕ} → refused {A = ⊤} c p ≡ refused k q → (c ≡ k) × (p ≡ q)
refusals_same e = (same_fault e, same_place e)

module _ (list : List ℕ) where
  -- A list that check 10 refuses passed the checks before it, and the place is what the check finds.
  module _ (v : ℕ) (sent : first_refusal all_checks list ≡ refused faults.SeparatingPart v) where
    refused_eight : Clear list_checks list
    refused_eight = go (first_refusal list_checks list) refl
      where
        go : (r : Verdict) → first_refusal list_checks list ≡ r → first_refusal list_checks list ≡ passed
        go (Ok u) h = h
        go (Err r) h = absurd (omega (arith, ap number_of (refusals_same (sym (refused_8 list r.fault r.place h) ∙ sent)).0, (list_number list h).most))

    refused_nine : check9 (station_of list) ≡ None
    refused_nine = go (check9 (station_of list)) refl
      where
        go : (f : Option ℕ) → check9 (station_of list) ≡ f → check9 (station_of list) ≡ None
        go None h = h
        go (Some p) h = absurd (omega (arith, ap number_of (refusals_same (sym (refused_9 list refused_eight p h) ∙ sent)).0))

    pub refused_place : check10 (station_of list) ≡ Some v
    refused_place = go (check10 (station_of list)) refl
      where
        go : (f : Option ℕ) → check10 (station_of list) ≡ f → check10 (station_of list) ≡ Some v
        go None h =
            let e : passed ≡ refused faults.SeparatingPart v = sym (all_clear list refused_eight refused_nine h) ∙ sent in
            let z : ◌≡◌ {A = ℕ} 0 1 = cc in
            absurd (omega arith)
        go (Some p) h = let e : p ≡ v = (refusals_same (sym (refused_10 list refused_eight refused_nine p h) ∙ sent)).1 in rw e at h

    -- 'the list then has no st-ordering between those ends'
    pub refused_unordered : (l : List ℕ) → StOrdering (station_of list) l → ⊥
    refused_unordered l O = separated_unordered (station_of list) v refused_place l O

  -- 'every list passing the check has one'
  pub passed_ordered : Clear all_checks list → (l : List ℕ) × StOrdering (station_of list) l
  passed_ordered pass = (order (station_of list), list_ordering list pass)

  -- of a list that passes checks 1 to 9
  module _ (eight : Clear list_checks list) (nine : check9 (station_of list) ≡ None) where
    -- it passes check 10 exactly if it has an st-ordering
    pub passes_iff : Clear all_checks list ↔ ((l : List ℕ) × StOrdering (station_of list) l)
    passes_iff = (
      passed_ordered,
      λ h. all_clear list eight nine ((check10_nothing (station_of list)).1 (ordering_bipolar (station_of list) h.0 h.1)),
    )

    -- it is refused with 10 and v exactly if v is the lowest part that separates another from both ends
    pub refused_iff : (v : ℕ) → (first_refusal all_checks list ≡ refused faults.SeparatingPart v) ↔ Lowest (station_of list).parts (SeparatesSome (station_of list)) v
    refused_iff v = (
      λ e. (check10_at (station_of list) v).0 (refused_place v e),
      λ h. refused_10 list eight nine v ((check10_at (station_of list) v).1 h),
    )
