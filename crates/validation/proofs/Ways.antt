-- Two lines, each right by itself, share only what they may exactly if at no spot their ways clash but at that of a part that both join.
-- Assumes nothing.
use Prim.Native.Nat.{ℕ, zero, suc, ◌-◌, ◌<◌, ◌≤◌}
use native.Mathlib.Omega.{arith}
use native.Mathlib.Decide.{ℕ_discrete, dec_lt}
use mathlib.Core.Path.{◌≡◌, refl, sym, ap, ◌∙◌, subst}
use mathlib.Core.Bool.{Bool, true, false, cond, not, ◌&&◌, true≢false}
use mathlib.Core.Logic.{◌⊎◌, inl, inr, ⊎_elim}
use mathlib.Core.List.{List}
use lib.ListN.{length}
use Rattle.lists.specs.Select.{any}
use Rattle.lists.proofs.Bools.{and_e, and_i, or_e, or_left, or_right, not_e, not_i}
use Rattle.lists.proofs.Any.{any_at_e, any_at_i, any_range_e, any_range_i}
use Rattle.geometry.specs.Spots.{Spot, origin, same_spot}
use Rattle.geometry.specs.Lines.{Lone, Together, CommonPart, point, IsRun, OnLine, OnLevel, OnUpright, NoPoint, CrossingAt, Level, Upright}
use Rattle.geometry.specs.Crossing.{between}
use Rattle.validation.specs.Alone.{level_run, upright_run}
use Rattle.validation.specs.Ways.{Way, off, end, corner, level, upright, level_has, upright_has, on_level, on_upright, at_end, way_at, passing, is_level, is_upright, is_end, cross_wise, clash, wrong_ways, Passing}
use Rattle.geometry.proofs.Spots.{spot_path, same_spot_e}
use Rattle.geometry.proofs.Crossing.{between_e, between_i}
use Rattle.validation.proofs.Alone.{not_same, same_spot_i, level_run_e, level_run_i, upright_run_e, upright_run_i, start_on, end_on, first_apart, last_apart}

module _ (ps : List Spot) (s : Spot) where
  pub on_level_e : on_level ps s ≡ true → OnLevel ps s
  unfolding on_level
  on_level_e h =
      let r = any_range_e (level_has ps s) (length ps - 1) h in
      let t = and_e (level_run ps r.0) (between (point ps r.0) (point ps (suc r.0)) s) r.2 in
      (r.0, omega (arith, r.1), level_run_e ps r.0 t.0, between_e _ _ s t.1)

  pub on_level_i : OnLevel ps s → on_level ps s ≡ true
  unfolding on_level
  on_level_i (k, l, f, B) =
      any_range_i (level_has ps s) (length ps - 1) k (omega arith) (and_i _ _ (level_run_i ps k f) (between_i _ _ s B))

  pub on_upright_e : on_upright ps s ≡ true → OnUpright ps s
  unfolding on_upright
  on_upright_e h =
      let r = any_range_e (upright_has ps s) (length ps - 1) h in
      let t = and_e (upright_run ps r.0) (between (point ps r.0) (point ps (suc r.0)) s) r.2 in
      (r.0, omega (arith, r.1), upright_run_e ps r.0 t.0, between_e _ _ s t.1)

  pub on_upright_i : OnUpright ps s → on_upright ps s ≡ true
  unfolding on_upright
  on_upright_i (k, l, f, B) =
      any_range_i (upright_has ps s) (length ps - 1) k (omega arith) (and_i _ _ (upright_run_i ps k f) (between_i _ _ s B))

  -- s is point k for some k
  pub is_point_e : any (same_spot s) ps ≡ true → (k : ℕ) × (k < length ps) × (point ps k ≡ s)
  unfolding point
  is_point_e h = let r = any_at_e (same_spot s) origin ps h in (r.0, r.1, sym (same_spot_e s (point ps r.0) r.2))

  pub is_point_i : (k : ℕ) → k < length ps → point ps k ≡ s → any (same_spot s) ps ≡ true
  unfolding point
  is_point_i k l e = any_at_i (same_spot s) origin ps k l (same_spot_i s (point ps k) (sym e))

  -- The four tests in the sequence that way_at makes them, with what each way says.
  pub data Passes : Way → Type 0 where
    at_end_lem : (s ≡ point ps 0) ⊎ (s ≡ point ps (length ps - 1)) → Passes end
    at_corner : (k : ℕ) → k < length ps → point ps k ≡ s → ((s ≡ point ps 0) ⊎ (s ≡ point ps (length ps - 1)) → ⊥) → Passes corner
    on_level_lem : OnLevel ps s → NoPoint ps s → Passes level
    on_upright_lem : OnUpright ps s → (OnLevel ps s → ⊥) → NoPoint ps s → Passes upright
    not_on : (OnUpright ps s → ⊥) → (OnLevel ps s → ⊥) → NoPoint ps s → Passes off

  pub at_end_e : at_end ps s ≡ true → (s ≡ point ps 0) ⊎ (s ≡ point ps (length ps - 1))
  unfolding at_end
  at_end_e h =
      ⊎_elim (λ e. inl (same_spot_e s (point ps 0) e)) (λ e. inr (same_spot_e s (point ps (length ps - 1)) e))
      (or_e (same_spot s (point ps 0)) (same_spot s (point ps (length ps - 1))) h)

  pub at_end_i : (s ≡ point ps 0) ⊎ (s ≡ point ps (length ps - 1)) → at_end ps s ≡ true
  unfolding at_end
  at_end_i h =
      ⊎_elim (λ e. or_left (same_spot s (point ps 0)) (same_spot s (point ps (length ps - 1))) (same_spot_i s (point ps 0) e))
      (λ e. or_right (same_spot s (point ps 0)) (same_spot s (point ps (length ps - 1))) (same_spot_i s (point ps (length ps - 1)) e)) h

  fails : (a : Bool) → a ≡ false → a ≡ true → ⊥
  fails a e h = true≢false (sym h ∙ e)

  -- the way that is found says so
  pub passes : Passes (way_at ps s)
  unfolding way_at
  passes = first (at_end ps s) refl
    where
      fourth :
          (b : Bool) → on_upright ps s ≡ b → (OnLevel ps s → ⊥) → NoPoint ps s → Passes (cond b upright off)
      fourth true e f N = on_upright_lem (on_upright_e e) f N
      fourth false e f N = not_on (λ h. fails (on_upright ps s) e (on_upright_i h)) f N

      third :
          (b : Bool) → on_level ps s ≡ b → NoPoint ps s → Passes (cond b level (cond (on_upright ps s) upright off))
      third true e N = on_level_lem (on_level_e e) N
      third false e N = fourth (on_upright ps s) refl (λ h. fails (on_level ps s) e (on_level_i h)) N

      second :
          (b : Bool) → any (same_spot s) ps ≡ b → ((s ≡ point ps 0) ⊎ (s ≡ point ps (length ps - 1)) → ⊥)
          → Passes (cond b corner (cond (on_level ps s) level (cond (on_upright ps s) upright off)))
      second true e f = let r = is_point_e e in at_corner r.0 r.1 r.2 f
      second false e f = third (on_level ps s) refl λ k l q. fails (any (same_spot s) ps) e (is_point_i k l q)

      first :
          (b : Bool) → at_end ps s ≡ b
          → Passes (cond b end (cond (any (same_spot s) ps) corner (cond (on_level ps s) level (cond (on_upright ps s) upright off))))
      first true e = at_end_lem (at_end_e e)
      first false e = second (any (same_spot s) ps) refl λ h. fails (at_end ps s) e (at_end_i h)

-- A line's ways and its spots

-- a point is on the line
pub point_on : (ps : List Spot) (k : ℕ) → 2 ≤ length ps → k < length ps → OnLine ps (point ps k)
point_on ps zero w l = (0, omega arith, start_on ps 0)
point_on ps (suc k) w l = (k, l, end_on ps k)

on_line_at : (ps : List Spot) (s : Spot) (k : ℕ) → 2 ≤ length ps → k < length ps → s ≡ point ps k → OnLine ps s
on_line_at ps s k w l e = subst (λ (t : Spot). OnLine ps t) (sym e) (point_on ps k w l)

module _ (ps : List Spot) (s : Spot) where
  -- it passes exactly the spots that it has
  pub passing_e : (w : Way) → 2 ≤ length ps → Passes ps s w → passing w ≡ true → OnLine ps s
  passing_e end t (at_end_lem (inl e)) h = on_line_at ps s 0 t (omega arith) e
  passing_e end t (at_end_lem (inr e)) h = on_line_at ps s (length ps - 1) t (omega arith) e
  passing_e corner t (at_corner k l e f) h = on_line_at ps s k t l (sym e)
  passing_e level t (on_level_lem (k, l, f, B) N) h = (k, l, B)
  passing_e upright t (on_upright_lem (k, l, f, B) g N) h = (k, l, B)
  passing_e off t (not_on f g N) h = absurd (true≢false (sym h))

  pub passing_i :
      (w : Way) → ((k : ℕ) → IsRun ps k → Level ps k ⊎ Upright ps k) → OnLine ps s → Passes ps s w → passing w ≡ true
  passing_i end S o (at_end_lem e) = refl
  passing_i corner S o (at_corner k l e f) = refl
  passing_i level S o (on_level_lem a N) = refl
  passing_i upright S o (on_upright_lem a g N) = refl
  passing_i off S (k, l, B) (not_on f g N) = absurd (⊎_elim (λ e. g (k, l, e, B)) (λ e. f (k, l, e, B)) (S k l))

-- A line that is right by itself

module _ (n : ℕ) (spot : ℕ → Spot) (a b : ℕ) (ps : List Spot) (L : Lone n spot a b ps) (s : Spot) where
  -- a level and an upright run of it share points alone
  level_not_upright : OnLevel ps s → OnUpright ps s → NoPoint ps s → ⊥
  level_not_upright (j, l, f, A) (k, m, g, B) N = go (ℕ_discrete j k) (dec_lt j k)
    where
      go : Dec (j ≡ k) → Dec (j < k) → ⊥
      go (yes e) q = L.differ k m (spot_path g (subst (λ (i : ℕ). Level ps i) e f))
      go (no e) (yes q) = N k (omega arith) (sym (L.itself j k q m s A B).1)
      go (no e) (no q) = N j (omega arith) (sym (L.itself k j (omega arith) l s B A).1)

  end_point : (s ≡ point ps 0) ⊎ (s ≡ point ps (length ps - 1)) → NoPoint ps s → ⊥
  end_point (inl e) N = N 0 (omega (arith, L.two)) (sym e)
  end_point (inr e) N = N (length ps - 1) (omega (arith, L.two)) (sym e)

  passes_level : (w : Way) → OnLevel ps s → NoPoint ps s → Passes ps s w → is_level w ≡ true
  passes_level end o M (at_end_lem e) = absurd (end_point e M)
  passes_level corner o M (at_corner k l e f) = absurd (M k l e)
  passes_level level o M (on_level_lem p N) = refl
  passes_level upright o M (on_upright_lem p g N) = absurd (g o)
  passes_level off o M (not_on f g N) = absurd (g o)

  passes_upright : (w : Way) → OnUpright ps s → NoPoint ps s → Passes ps s w → is_upright w ≡ true
  passes_upright end o M (at_end_lem e) = absurd (end_point e M)
  passes_upright corner o M (at_corner k l e f) = absurd (M k l e)
  passes_upright level o M (on_level_lem p N) = absurd (level_not_upright p o N)
  passes_upright upright o M (on_upright_lem p g N) = refl
  passes_upright off o M (not_on f g N) = absurd (f o)

  level_passes : (w : Way) → is_level w ≡ true → Passes ps s w → OnLevel ps s × NoPoint ps s
  level_passes end h (at_end_lem e) = absurd (true≢false (sym h))
  level_passes corner h (at_corner k l e f) = absurd (true≢false (sym h))
  level_passes level h (on_level_lem p N) = (p, N)
  level_passes upright h (on_upright_lem p g N) = absurd (true≢false (sym h))
  level_passes off h (not_on f g N) = absurd (true≢false (sym h))

  upright_passes : (w : Way) → is_upright w ≡ true → Passes ps s w → OnUpright ps s × NoPoint ps s
  upright_passes end h (at_end_lem e) = absurd (true≢false (sym h))
  upright_passes corner h (at_corner k l e f) = absurd (true≢false (sym h))
  upright_passes level h (on_level_lem p N) = absurd (true≢false (sym h))
  upright_passes upright h (on_upright_lem p g N) = (p, N)
  upright_passes off h (not_on f g N) = absurd (true≢false (sym h))

  end_passes : (w : Way) → is_end w ≡ true → Passes ps s w → (s ≡ spot a) ⊎ (s ≡ spot b)
  end_passes end h (at_end_lem e) = ⊎_elim (λ f. inl (f ∙ L.starts)) (λ f. inr (f ∙ L.ends (length ps - 1) (omega (arith, L.two)))) e
  end_passes corner h (at_corner k l e f) = absurd (true≢false (sym h))
  end_passes level h (on_level_lem p N) = absurd (true≢false (sym h))
  end_passes upright h (on_upright_lem p g N) = absurd (true≢false (sym h))
  end_passes off h (not_on f g N) = absurd (true≢false (sym h))

  -- how it passes a spot, as tests of the way
  pub end_way_e : is_end (way_at ps s) ≡ true → (s ≡ spot a) ⊎ (s ≡ spot b)
  end_way_e h = end_passes (way_at ps s) h (passes ps s)

  pub level_way_i : OnLevel ps s → NoPoint ps s → is_level (way_at ps s) ≡ true
  level_way_i o N = passes_level (way_at ps s) o N (passes ps s)

  pub level_way_e : is_level (way_at ps s) ≡ true → OnLevel ps s × NoPoint ps s
  level_way_e h = level_passes (way_at ps s) h (passes ps s)

  pub upright_way_i : OnUpright ps s → NoPoint ps s → is_upright (way_at ps s) ≡ true
  upright_way_i o N = passes_upright (way_at ps s) o N (passes ps s)

  pub upright_way_e : is_upright (way_at ps s) ≡ true → OnUpright ps s × NoPoint ps s
  upright_way_e h = upright_passes (way_at ps s) h (passes ps s)

  pub passing_way_i : OnLine ps s → passing (way_at ps s) ≡ true
  passing_way_i o = passing_i ps s (way_at ps s) L.straight o (passes ps s)

  pub passing_way_e : passing (way_at ps s) ≡ true → OnLine ps s
  passing_way_e h = passing_e ps s (way_at ps s) L.two (passes ps s) h

  -- its parts' spots are its ends
  pub end_way : (k : ℕ) → (k ≡ a) ⊎ (k ≡ b) → spot k ≡ s → way_at ps s ≡ end
  unfolding way_at
  end_way k h e = rw (at_end_i ps s (go h))
    where
      go : (k ≡ a) ⊎ (k ≡ b) → (s ≡ point ps 0) ⊎ (s ≡ point ps (length ps - 1))
      go (inl q) = inl (sym e ∙ ap spot q ∙ sym L.starts)
      go (inr q) = inr (sym e ∙ ap spot q ∙ sym (L.ends (length ps - 1) (omega (arith, L.two))))

-- Two such lines

module _ (n : ℕ) (spot : ℕ → Spot) (a b : ℕ) (ps : List Spot) (c d : ℕ) (qs : List Spot) (L : Lone n spot a b ps)
    (K : Lone n spot c d qs) where
  pub crossing_ways_i : (s : Spot) → CrossingAt ps qs s → cross_wise (way_at ps s) (way_at qs s) ≡ true
  unfolding cross_wise
  crossing_ways_i s (inl X) =
      or_left (is_level (way_at ps s) && is_upright (way_at qs s)) (is_upright (way_at ps s) && is_level (way_at qs s))
      (and_i _ _ (level_way_i n spot a b ps L s X.level X.free_first) (upright_way_i n spot c d qs K s X.upright X.free_second))
  crossing_ways_i s (inr X) =
      or_right (is_level (way_at ps s) && is_upright (way_at qs s)) (is_upright (way_at ps s) && is_level (way_at qs s))
      (and_i _ _ (upright_way_i n spot a b ps L s X.upright X.free_second) (level_way_i n spot c d qs K s X.level X.free_first))

  pub crossing_ways_e : (s : Spot) → cross_wise (way_at ps s) (way_at qs s) ≡ true → CrossingAt ps qs s
  unfolding cross_wise
  crossing_ways_e s h = go (or_e (is_level w && is_upright v) (is_upright w && is_level v) h)
    where
      w : Way
      w = way_at ps s

      v : Way
      v = way_at qs s

      go : ((is_level w && is_upright v) ≡ true) ⊎ ((is_upright w && is_level v) ≡ true) → CrossingAt ps qs s
      go (inl e) =
          let r = and_e (is_level w) (is_upright v) e in
          let f = level_way_e n spot a b ps L s r.0 in
          let g = upright_way_e n spot c d qs K s r.1 in
          inl (record { level = f.0; upright = g.0; free_first = f.1; free_second = g.1 })
      go (inr e) =
          let r = and_e (is_upright w) (is_level v) e in
          let f = upright_way_e n spot a b ps L s r.0 in
          let g = level_way_e n spot c d qs K s r.1 in
          inr (record { level = g.0; upright = f.0; free_first = g.1; free_second = f.1 })

  -- the ways clash exactly at a spot that both have and that is no crossing
  pub clash_e : (s : Spot) → clash (way_at ps s) (way_at qs s) ≡ true → OnLine ps s × OnLine qs s × (CrossingAt ps qs s → ⊥)
  unfolding clash
  clash_e s h =
      let w = way_at ps s in
      let v = way_at qs s in
      let r = and_e (passing w && passing v) (not (cross_wise w v)) h in
      let t = and_e (passing w) (passing v) r.0 in (
        passing_way_e n spot a b ps L s t.0,
        passing_way_e n spot c d qs K s t.1,
        λ X. not_e (cross_wise w v) r.1 (crossing_ways_i s X),
      )

  pub clash_i : (s : Spot) → OnLine ps s → OnLine qs s → (CrossingAt ps qs s → ⊥) → clash (way_at ps s) (way_at qs s) ≡ true
  unfolding clash
  clash_i s f g N =
      and_i _ _ (and_i _ _ (passing_way_i n spot a b ps L s f) (passing_way_i n spot c d qs K s g))
      (not_i (cross_wise (way_at ps s) (way_at qs s)) λ h. N (crossing_ways_e s h))

  -- at the spot of a part that both join, both ways are ends
  pub common_ends : (s : Spot) → CommonPart spot a b c d s → (way_at ps s ≡ end) × (way_at qs s ≡ end)
  common_ends s (k, f, g, e) = (end_way n spot a b ps L s k f e, end_way n spot c d qs K s k g e)

  -- and where both are, the two ends are of one part, since another part's spot is on no cable
  pub ends_common : (s : Spot) → is_end (way_at ps s) ≡ true → is_end (way_at qs s) ≡ true → CommonPart spot a b c d s
  ends_common s f g = go (end_way_e n spot a b ps L s f) (end_way_e n spot c d qs K s g)
    where
      go : (s ≡ spot a) ⊎ (s ≡ spot b) → (s ≡ spot c) ⊎ (s ≡ spot d) → CommonPart spot a b c d s
      go (inl e) (inl h) = (a, inl refl, inl (first_apart n spot a b ps L c K.parts.0 (sym e ∙ h)), sym e)
      go (inl e) (inr h) = (a, inl refl, inr (first_apart n spot a b ps L d K.parts.1 (sym e ∙ h)), sym e)
      go (inr e) (inl h) = (b, inr refl, inl (last_apart n spot a b ps L c K.parts.0 (sym e ∙ h)), sym e)
      go (inr e) (inr h) = (b, inr refl, inr (last_apart n spot a b ps L d K.parts.1 (sym e ∙ h)), sym e)

  -- so that the ways alone tell whether a clash is wrong
  pub wrong_ways_e :
      (s : Spot) → wrong_ways (way_at ps s) (way_at qs s) ≡ true
      → (clash (way_at ps s) (way_at qs s) ≡ true) × (CommonPart spot a b c d s → ⊥)
  unfolding wrong_ways
  wrong_ways_e s h =
      let w = way_at ps s in
      let v = way_at qs s in
      let r = and_e (clash w v) (not (is_end w && is_end v)) h in (
        r.0,
        λ C.
            let t = common_ends s C in
            not_e (is_end w && is_end v) r.1 (and_i (is_end w) (is_end v) (ap is_end t.0) (ap is_end t.1)),
      )

  -- a clash that is not wrong is at the spot of a common part
  pub common_part :
      (s : Spot) → clash (way_at ps s) (way_at qs s) ≡ true → (wrong_ways (way_at ps s) (way_at qs s) ≡ true → ⊥) → CommonPart spot a b c d s
  unfolding wrong_ways
  common_part s h N = go (not_same (is_end (way_at ps s) && is_end (way_at qs s)))
    where
      go :
          ((is_end (way_at ps s) && is_end (way_at qs s)) ≡ true) ⊎ ((is_end (way_at ps s) && is_end (way_at qs s)) ≡ true → ⊥)
          → CommonPart spot a b c d s
      go (inl e) = let r = and_e (is_end (way_at ps s)) (is_end (way_at qs s)) e in ends_common s r.0 r.1
      go (inr e) = absurd (N (and_i _ _ h (not_i (is_end (way_at ps s) && is_end (way_at qs s)) e)))

  -- so what document 01 asks of two lines can be asked of their ways
  pub together_passing : Together spot a b ps c d qs → Passing spot a b ps c d qs
  together_passing T = record {
    once = λ s r f g. T.once s r (crossing_ways_e s f) (crossing_ways_e r g);
    shared = λ s h. let t = clash_e s h in ⊎_elim (λ X. absurd (t.2 X)) (λ C. C) (T.shared s t.0 t.1);
  }

  pub passing_together : Passing spot a b ps c d qs → Together spot a b ps c d qs
  passing_together P = record {
    once = λ s r f g. P.once s r (crossing_ways_i s f) (crossing_ways_i r g);
    shared = λ s f g. go s f g (not_same (cross_wise (way_at ps s) (way_at qs s)));
  }
    where
      go :
          (s : Spot) → OnLine ps s → OnLine qs s
          → (cross_wise (way_at ps s) (way_at qs s) ≡ true) ⊎ (cross_wise (way_at ps s) (way_at qs s) ≡ true → ⊥)
          → CrossingAt ps qs s ⊎ CommonPart spot a b c d s
      go s f g (inl e) = inl (crossing_ways_e s e)
      go s f g (inr e) = inr (P.shared s (clash_i s f g λ X. e (crossing_ways_i s X)))
