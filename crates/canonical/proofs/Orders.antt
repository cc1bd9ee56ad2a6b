-- Lists of one station: checks 9 and 10 say the same of each, and the smallest st-ordering between its ends is the same. What is shown rests
-- on which parts are joined, and on nothing else of the cables. Assumes nothing.
use Rattle.std.specs.Prelude.{Option, Some, None}
use Prim.Native.Nat.{ℕ, ◌<◌}
use native.Mathlib.Omega.{arith}
use mathlib.Core.Path.{◌≡◌, refl, sym, ap, ◌∙◌, subst}
use mathlib.Core.Logic.{inl, inr}
use mathlib.Core.List.{List}
use Rattle.lists.proofs.Select.{get_d_mem}
use Rattle.lists.proofs.Places.{mem-place}
use Rattle.lists.proofs.Multiset.{counted_e, counted_i}
use Rattle.checks.specs.Checks.{first_refusal, Clear}
use Rattle.checks.proofs.FirstRefusal.{rest_decides}
use Rattle.station.specs.Station.{Cable, Station, no_cable, station_of}
use Rattle.station.specs.Checks.{list_checks}
use Rattle.order.specs.Reach.{Joined, Path, arrived, onward, check9, check10}
use Rattle.order.specs.Bipolar.{ReachesEnd}
use Rattle.order.specs.Checks.{station_checks, all_checks}
use Rattle.order.specs.Order.{order}
use Rattle.order.specs.StOrder.{StOrdering, Smallest}
use Rattle.order.proofs.Joins.{joined_line, line_joined, cable_at}
use Rattle.order.proofs.Checks.{SeparatesSome, check9_at, check9_nothing, check10_at, check10_nothing}
use Rattle.order.proofs.Passed.{list_smallest}
use Rattle.order.proofs.StOrder.{smallest_one}
use Rattle.canonical.specs.Canonical.{canonical}
use Rattle.canonical.specs.Multiplicity.{between, multiplicity, SameStation}
use Rattle.canonical.proofs.Turned.{pair_e, pair_i}
use Rattle.canonical.proofs.Canonical.{canonical_same}

-- parts are joined exactly if some cable is counted
joined_counted : (cs : List Cable) (u v : ℕ) → Joined cs u v → 0 < multiplicity cs u v
unfolding multiplicity between
joined_counted cs u v j =
    let t = joined_line cs u v j in
    let c = cable_at cs t.0 in
    counted_i (between u v) cs (get_d_mem cs t.0 no_cable t.1) (pair_i c.one c.other u v t.2)

counted_joined : (cs : List Cable) (u v : ℕ) → 0 < multiplicity cs u v → Joined cs u v
unfolding multiplicity between
counted_joined cs u v h =
    let t = counted_e (between u v) cs h in
    let p = mem-place cs no_cable t.1 in
    line_joined cs u v p.0 p.1 (rw p.2 (pair_e t.0.one t.0.other u v t.2))

-- cables that join the same parts
abbrev pub JoinsOf : List Cable → List Cable → Type 0
JoinsOf cs ds = (u v : ℕ) → Joined cs u v → Joined ds u v

module _ {cs ds : List Cable} (J : JoinsOf cs ds) where
  path_same : {P : ℕ → Type 0} {t u : ℕ} → Path cs P t u → Path ds P t u
  path_same (arrived h e) = arrived h e
  path_same {u = u} (onward v h j p) = onward v h (J u v j) (path_same p)

-- a station with other cables
abbrev cabled : Station → List Cable → Station
cabled st ds = record { parts = st.parts; source = st.source; analyser = st.analyser; cables = ds }

module _ (st : Station) (ds : List Cable) (J : JoinsOf st.cables ds) (K : JoinsOf ds st.cables) where
  reaches_same : {v p : ℕ} → ReachesEnd st v p → ReachesEnd (cabled st ds) v p
  reaches_same (inl q) = inl (path_same J q)
  reaches_same (inr q) = inr (path_same J q)

  reaches_back : {v p : ℕ} → ReachesEnd (cabled st ds) v p → ReachesEnd st v p
  reaches_back (inl q) = inl (path_same K q)
  reaches_back (inr q) = inr (path_same K q)

  check9_same : check9 st ≡ check9 (cabled st ds)
  check9_same = go (check9 st) refl
    where
      go : (f : Option ℕ) → check9 st ≡ f → check9 st ≡ check9 (cabled st ds)
      go (Some p) e =
          let L = (check9_at st p).0 e in
          e ∙ sym ((check9_at (cabled st ds) p).1 (record { part = L.part; bad = λ q. L.bad (path_same K q); lowest = λ j h b. L.lowest j h (λ q. b (path_same J q)) }))
      go None e = e ∙ sym ((check9_nothing (cabled st ds)).1 (λ p h. path_same J ((check9_nothing st).0 e p h)))

  separates_same : {v : ℕ} → SeparatesSome st v → SeparatesSome (cabled st ds) v
  separates_same s = (s.0, s.1, λ r. s.2 (reaches_back r))

  separates_back : {v : ℕ} → SeparatesSome (cabled st ds) v → SeparatesSome st v
  separates_back s = (s.0, s.1, λ r. s.2 (reaches_same r))

  check10_same : check10 st ≡ check10 (cabled st ds)
  check10_same = go (check10 st) refl
    where
      go : (f : Option ℕ) → check10 st ≡ f → check10 st ≡ check10 (cabled st ds)
      go (Some p) e =
          let L = (check10_at st p).0 e in
          e ∙ sym ((check10_at (cabled st ds) p).1 (record { part = L.part; bad = separates_same L.bad; lowest = λ j h b. L.lowest j h (separates_back b) }))
      go None e = e ∙ sym ((check10_nothing (cabled st ds)).1 (λ v p h g n. reaches_same ((check10_nothing st).0 e v p h g n)))

ordering_same : (st : Station) (ds : List Cable) → JoinsOf st.cables ds → {l : List ℕ} → StOrdering st l → StOrdering (cabled st ds) l
ordering_same st ds J O = record {
  all = O.all;
  inside = O.inside;
  once = O.once;
  first = O.first;
  last = O.last;
  before = λ k a b. let t = O.before k a b in (t.0, t.1, J _ _ t.2);
  after = λ k a b. let t = O.after k a b in (t.0, t.1, t.2, J _ _ t.3);
}

smallest_same : (st : Station) (ds : List Cable) → JoinsOf st.cables ds → JoinsOf ds st.cables → {l : List ℕ} → Smallest st l → Smallest (cabled st ds) l
smallest_same st ds J K S = record {
  ordering = ordering_same st ds J S.ordering;
  least = λ r O. S.least r (ordering_same (cabled st ds) st.cables K O);
}

module _ {st su : Station} (S : SameStation st su) where
  pub joins_to : JoinsOf st.cables su.cables
  joins_to u v j = counted_joined su.cables u v (omega (arith, S.cables u v, joined_counted st.cables u v j))

  pub joins_from : JoinsOf su.cables st.cables
  joins_from u v j = counted_joined st.cables u v (omega (arith, S.cables u v, joined_counted su.cables u v j))

  same_ends : cabled st su.cables ≡ su
  same_ends = rw (S.parts, S.source, S.analyser)

  pub same_9 : check9 st ≡ check9 su
  same_9 = check9_same st su.cables joins_to joins_from ∙ ap check9 same_ends

  pub same_10 : check10 st ≡ check10 su
  same_10 = check10_same st su.cables joins_to joins_from ∙ ap check10 same_ends

  same_smallest : {l : List ℕ} → Smallest st l → Smallest su l
  same_smallest {l} O = subst (λ (sv : Station). Smallest sv l) same_ends (smallest_same st su.cables joins_to joins_from O)

module _ (l k : List ℕ) (C : Clear list_checks l) (D : Clear list_checks k) (same : canonical l ≡ canonical k) where
  -- checks 1 to 10 say the same of two lists that settle alike
  pub same_verdict : first_refusal all_checks l ≡ first_refusal all_checks k
  unfolding all_checks station_checks first_refusal
  same_verdict =
      rest_decides l list_checks station_checks C
      ∙ rw (same_9 (canonical_same l k same), same_10 (canonical_same l k same)) (sym (rest_decides k list_checks station_checks D))

-- and where they pass, their parts stand in the same order
pub same_order :
    (l k : List ℕ) → Clear all_checks l → Clear all_checks k → canonical l ≡ canonical k → order (station_of l) ≡ order (station_of k)
same_order l k C D same = smallest_one (same_smallest (canonical_same l k same) (list_smallest l C)) (list_smallest k D)
