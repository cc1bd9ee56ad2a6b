-- What checks 9 and 10 say, in terms of paths, both ways. Assumes nothing.
use Rattle.std.specs.Prelude.{Some, None}
use Prim.Native.Nat.{ℕ, ◌<◌}
use native.Mathlib.Omega.{arith}
use mathlib.Core.Path.{◌≡◌, refl, sym, ap, ◌∙◌, subst}
use mathlib.Core.Logic.{◌⊎◌, inl, inr, ◌↔◌}
use mathlib.Core.Bool.{Bool, true, false, not, false≢true}
use mathlib.Core.List.{List, [], ◌∷◌, Memᴰ}
use Rattle.lists.specs.Search.{seek}
use Rattle.lists.specs.Select.{range, member, without}
use Rattle.lists.proofs.Select.{range_e, range_i}
use Rattle.lists.proofs.Sets.{member_i, member_absent, without_e, without_i}
use Rattle.lists.proofs.Seek.{First, seek_found, seek_nothing, seek_first, seek_none}
use Rattle.station.specs.Station.{Station}
use Rattle.order.specs.Reach.{Path, unreached, null, check9, separated, check10}
use Rattle.order.specs.Bipolar.{Off, ReachesEnd, Bipolar}
use Rattle.order.proofs.Paths.{path_wider, path_back}
use Rattle.order.proofs.Reach.{Among, reached, unreached_iff, reached_from, unreached_from_iff}

-- the lowest of the parts below n of which the property holds
pub record Lowest (n : ℕ) (Bad : ℕ → Type 0) (p : ℕ) : Type 0 where
  pub part : p < n
  pub bad : Bad p
  pub lowest : (j : ℕ) → j < p → Bad j → ⊥

-- a search from 0, whose test decides between two properties
module _ (n : ℕ) (p : ℕ → Bool) (Bad Good : ℕ → Type 0) (decides : (x : ℕ) → x < n → ((p x ≡ true) × Bad x) ⊎ ((p x ≡ false) × Good x))
    (clash : (x : ℕ) → Bad x → Good x → ⊥) where
  when_true : {x : ℕ} → x < n → p x ≡ true → Bad x
  when_true {x} l e = go (decides x l)
    where
      go : ((p x ≡ true) × Bad x) ⊎ ((p x ≡ false) × Good x) → Bad x
      go (inl h) = h.1
      go (inr h) = absurd (false≢true (sym h.0 ∙ e))

  when_false : {x : ℕ} → x < n → p x ≡ false → Good x
  when_false {x} l e = go (decides x l)
    where
      go : ((p x ≡ true) × Bad x) ⊎ ((p x ≡ false) × Good x) → Good x
      go (inl h) = absurd (false≢true (sym e ∙ h.0))
      go (inr h) = h.1

  when_bad : {x : ℕ} → x < n → Bad x → p x ≡ true
  when_bad {x} l b = go (decides x l)
    where
      go : ((p x ≡ true) × Bad x) ⊎ ((p x ≡ false) × Good x) → p x ≡ true
      go (inl h) = h.0
      go (inr h) = absurd (clash x b h.1)

  when_not_bad : {x : ℕ} → x < n → (Bad x → ⊥) → p x ≡ false
  when_not_bad {x} l b = go (decides x l)
    where
      go : ((p x ≡ true) × Bad x) ⊎ ((p x ≡ false) × Good x) → p x ≡ false
      go (inl h) = absurd (b h.1)
      go (inr h) = h.0

  pub at_iff : (x : ℕ) → (seek p 0 n ≡ Some x) ↔ Lowest n Bad x
  at_iff x = (λ e. to (seek_found p 0 n e), λ h. seek_first p 0 n (fro h))
    where
      to : First p 0 n x → Lowest n Bad x
      to f =
          record {
            part = omega (arith, f.below);
            bad = when_true (omega (arith, f.below)) f.passes;
            lowest = λ j l b. false≢true (sym (f.none j (omega arith) l) ∙ when_bad (omega (arith, f.below)) b);
          }

      fro : Lowest n Bad x → First p 0 n x
      fro h =
          record {
            from = omega arith;
            below = omega (arith, h.part);
            passes = when_bad h.part h.bad;
            none = λ j a l. when_not_bad (omega (arith, h.part)) (h.lowest j l);
          }

  pub nothing_iff : (seek p 0 n ≡ None) ↔ ((x : ℕ) → x < n → Good x)
  nothing_iff = (
    λ e x l. when_false l (seek_nothing p 0 n e x (omega arith) (omega arith)),
    λ h. seek_none p 0 n (λ j a b. when_not_bad (omega arith) (λ c. clash j c (h j (omega arith)))),
  )

-- inside the station
abbrev pub Part : ℕ → ℕ → Type 0
Part n x = x < n

-- inside the station without part v, as a list of parts
pub off_without : (n v x : ℕ) → Off n v x ↔ Among (without v (range n)) x
off_without n v x = (
  λ h. without_i v (range n) (range_i x n h.0) h.1,
  λ m. let h : Memᴰ x (range n) × (x ≡ v → ⊥) = without_e v (range n) m in (range_e n h.0, h.1),
)

module _ (st : Station) where
  -- 9

  decides9 : (p : ℕ) → p < st.parts
      → ((member p (unreached st.cables (range st.parts) (0 ∷ [])) ≡ true) × (Path st.cables (Part st.parts) p 0 → ⊥))
      ⊎ ((member p (unreached st.cables (range st.parts) (0 ∷ [])) ≡ false) × Path st.cables (Part st.parts) p 0)
  decides9 p l = go (reached st.cables (range st.parts) 0 (range_i p st.parts l))
    where
      left : List ℕ
      left = unreached st.cables (range st.parts) (0 ∷ [])

      go : Memᴰ p left ⊎ Path st.cables (Among (range st.parts)) p 0
          → ((member p left ≡ true) × (Path st.cables (Part st.parts) p 0 → ⊥)) ⊎ ((member p left ≡ false) × Path st.cables (Part st.parts) p 0)
      go (inl m) =
          inl (member_i left m, λ r. ((unreached_iff st.cables (range st.parts) 0 p).0 m).1 (path_wider st.cables (λ x h. range_i x st.parts h) r))
      go (inr r) =
          inr (member_absent p left (λ m. ((unreached_iff st.cables (range st.parts) 0 p).0 m).1 r), path_wider st.cables (λ x h. range_e st.parts h) r)

  -- 'a part that part 0 doesn't reach', 'lowest such part'
  pub check9_at : (p : ℕ) → (check9 st ≡ Some p) ↔ Lowest st.parts (λ q. Path st.cables (Part st.parts) q 0 → ⊥) p
  unfolding check9
  check9_at p =
      at_iff st.parts (λ q. member q (unreached st.cables (range st.parts) (0 ∷ []))) (λ q. Path st.cables (Part st.parts) q 0 → ⊥)
      (λ q. Path st.cables (Part st.parts) q 0) decides9 (λ q b g. b g) p

  pub check9_nothing : (check9 st ≡ None) ↔ ((p : ℕ) → p < st.parts → Path st.cables (Part st.parts) p 0)
  unfolding check9
  check9_nothing =
      nothing_iff st.parts (λ q. member q (unreached st.cables (range st.parts) (0 ∷ []))) (λ q. Path st.cables (Part st.parts) q 0 → ⊥)
      (λ q. Path st.cables (Part st.parts) q 0) decides9 (λ q b g. b g)

  -- 10

  -- the removal of v leaves some other part 'that reaches neither s nor t'
  abbrev pub SeparatesSome : ℕ → Type 0
  SeparatesSome v = (p : ℕ) × Off st.parts v p × (ReachesEnd st v p → ⊥)

  -- it leaves none
  abbrev SeparatesNone : ℕ → Type 0
  SeparatesNone v = (p : ℕ) → Off st.parts v p → ReachesEnd st v p

  module _ (v : ℕ) where
    abbrev others : List ℕ
    others = without v (range st.parts)

    abbrev ends : List ℕ
    ends = st.source ∷ st.analyser ∷ []

    to_end : {e p : ℕ} → Path st.cables (Among others) p e → Path st.cables (Off st.parts v) e p
    to_end r = path_back st.cables (path_wider st.cables (λ x m. (off_without st.parts v x).1 m) r)

    from_end : {e p : ℕ} → Path st.cables (Off st.parts v) e p → Path st.cables (Among others) p e
    from_end r = path_back st.cables (path_wider st.cables (λ x h. (off_without st.parts v x).0 h) r)

    reaches_end : {p : ℕ} → (u : ℕ) × Memᴰ u ends × Path st.cables (Among others) p u → ReachesEnd st v p
    reaches_end {p} h = go (mathlib.Core.List.Memᴰ.cases_cons h.1)
      where
        go : (h.0 ≡ st.source) ⊎ Memᴰ h.0 (st.analyser ∷ []) → ReachesEnd st v p
        go (inl e) = inl (to_end (subst (Path st.cables (Among others) p) e h.2))
        go (inr m) = inr (to_end (subst (Path st.cables (Among others) p) (mathlib.Core.List.Memᴰ.eq_of_singleton m) h.2))

    -- the parts that v separates from both ends, in terms of paths
    pub separated_iff : (p : ℕ) → Memᴰ p (separated st v) ↔ (Off st.parts v p × (ReachesEnd st v p → ⊥))
    unfolding separated
    separated_iff p = (to, fro)
      where
        to : Memᴰ p (unreached st.cables others ends) → Off st.parts v p × (ReachesEnd st v p → ⊥)
        to m = ((off_without st.parts v p).1 h.0, none)
          where
            h : Memᴰ p others × ((u : ℕ) → Memᴰ u ends → Path st.cables (Among others) p u → ⊥)
            h = (unreached_from_iff st.cables others ends p).0 m

            none : ReachesEnd st v p → ⊥
            none (inl r) = h.1 st.source (mathlib.Core.List.Memᴰ.head refl) (from_end r)
            none (inr r) = h.1 st.analyser (mathlib.Core.List.Memᴰ.tail (mathlib.Core.List.Memᴰ.head refl)) (from_end r)

        fro : Off st.parts v p × (ReachesEnd st v p → ⊥) → Memᴰ p (unreached st.cables others ends)
        fro h =
            (unreached_from_iff st.cables others ends p).1
            ((off_without st.parts v p).0 h.0, λ u m r. h.1 (reaches_end (u, m, r)))

    -- of another part: v separates it, or it reaches an end
    pub separated_or : (p : ℕ) → Off st.parts v p → Memᴰ p (separated st v) ⊎ ReachesEnd st v p
    unfolding separated
    separated_or p h = go (reached_from st.cables others ends ((off_without st.parts v p).0 h))
      where
        go : Memᴰ p (unreached st.cables others ends) ⊎ ((u : ℕ) × Memᴰ u ends × Path st.cables (Among others) p u)
            → Memᴰ p (unreached st.cables others ends) ⊎ ReachesEnd st v p
        go (inl m) = inl m
        go (inr r) = inr (reaches_end r)

    null_cases : (l : List ℕ) → separated st v ≡ l
        → ((not (null (separated st v)) ≡ true) × SeparatesSome v) ⊎ ((not (null (separated st v)) ≡ false) × SeparatesNone v)
    unfolding null
    null_cases [] e = inr (ap (λ (l : List ℕ). not (null l)) e, λ p h. go p (separated_or p h))
      where
        go : (p : ℕ) → Memᴰ p (separated st v) ⊎ ReachesEnd st v p → ReachesEnd st v p
        go p (inl m) = absurd (mathlib.Core.List.Memᴰ.not-nil (subst (Memᴰ p) e m))
        go p (inr r) = r
    null_cases (x ∷ xs) e =
        let h = (separated_iff x).0 (subst (Memᴰ x) (sym e) (mathlib.Core.List.Memᴰ.head refl)) in
        inl (ap (λ (l : List ℕ). not (null l)) e, (x, h.0, h.1))

  decides10 : (v : ℕ) → v < st.parts
      → ((not (null (separated st v)) ≡ true) × SeparatesSome v) ⊎ ((not (null (separated st v)) ≡ false) × SeparatesNone v)
  decides10 v l = null_cases v (separated st v) refl

  -- 'a part whose removal leaves some other part that reaches neither s nor t', 'lowest such part'
  pub check10_at : (v : ℕ) → (check10 st ≡ Some v) ↔ Lowest st.parts SeparatesSome v
  unfolding check10
  check10_at v = at_iff st.parts (λ u. not (null (separated st u))) SeparatesSome SeparatesNone decides10 (λ u c k. c.2 (k c.0 c.1)) v

  pub check10_nothing : (check10 st ≡ None) ↔ Bipolar st
  unfolding check10
  check10_nothing =
      let iff = nothing_iff st.parts (λ u. not (null (separated st u))) SeparatesSome SeparatesNone decides10 (λ u c k. c.2 (k c.0 c.1)) in
      (λ e v p l m n. iff.0 e v l p (m, n), λ B. iff.1 (λ v l p h. B v p l h.0 h.1))
