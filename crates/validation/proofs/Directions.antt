-- A cable's corners may run from either end: a line that is right in both directions has at most one corner, and is passed alike in both.
-- With more corners, the end runs tell the two directions apart. Assumes nothing.
use Prim.Native.Nat.{ℕ, zero, suc, ◌+◌, ◌-◌, ◌<◌, ◌≤◌, min, max}
use native.Mathlib.Omega.{arith}
use native.Mathlib.Decide.{dec_lt}
use mathlib.Core.Path.{◌≡◌, sym, ap, ◌∙◌, subst₂}
use mathlib.Core.Bool.{true}
use mathlib.Core.Logic.{◌⊎◌, inl, inr, ⊎_elim}
use mathlib.Core.List.{List, [], ◌∷◌}
use lib.ListN.{length, get_or, length-append, get_or-append}
use lib.Seq.{get_or-append_seam}
use Rattle.lists.specs.Select.{any}
use Rattle.lists.proofs.Bools.{same_test}
use Rattle.geometry.specs.Spots.{Spot, origin, spot_at, same_spot}
use Rattle.geometry.specs.Lines.{Lone, Together, point, OnRun, OnLine, OnLevel, OnUpright, Between, Level, Upright}
use Rattle.validation.specs.Facing.{line_over}
use Rattle.validation.specs.Ways.{Way, on_level, on_upright, at_end, way_at, cross_wise, clash}
use Rattle.geometry.proofs.Spots.{spot_path}
use Rattle.validation.proofs.Alone.{Alternating, in_both, lone_of, lone_alternates, ends_apart}
use Rattle.validation.proofs.Ways.{on_level_e, on_level_i, on_upright_e, on_upright_i, is_point_e, is_point_i, at_end_e, at_end_i, together_passing, passing_together}

-- One line and the same points from its other end

pub record Mirrored (ps qs : List Spot) : Type 0 where
  pub as_long : length ps ≡ length qs
  pub back : (k j : ℕ) → suc (k + j) ≡ length ps → point ps k ≡ point qs j

pub mirrored_back : (ps qs : List Spot) → Mirrored ps qs → Mirrored qs ps
mirrored_back ps qs M = let e = M.as_long in record { as_long = sym e; back = λ k j h. sym (M.back j k (omega arith)) }

between_back : (p q s : Spot) → Between p q s → Between q p s
between_back p q s B = record {
  left = omega (arith, B.left);
  right = omega (arith, B.right);
  below = omega (arith, B.below);
  above = omega (arith, B.above);
}

module _ (ps qs : List Spot) (M : Mirrored ps qs) where
  level_back : (k j : ℕ) → suc (suc (k + j)) ≡ length ps → Level ps k → Level qs j
  level_back k j h f =
      let u = ap (λ (p : Spot). p.y) (M.back k (suc j) (omega arith)) in
      let v = ap (λ (p : Spot). p.y) (M.back (suc k) j (omega arith)) in
      sym v ∙ sym f ∙ u

  upright_back : (k j : ℕ) → suc (suc (k + j)) ≡ length ps → Upright ps k → Upright qs j
  upright_back k j h f =
      let u = ap (λ (p : Spot). p.x) (M.back k (suc j) (omega arith)) in
      let v = ap (λ (p : Spot). p.x) (M.back (suc k) j (omega arith)) in
      sym v ∙ sym f ∙ u

module _ (ps qs : List Spot) (M : Mirrored ps qs) (s : Spot) where
  mirrored_run : (k j : ℕ) → suc (suc (k + j)) ≡ length ps → OnRun ps k s → OnRun qs j s
  mirrored_run k j h B =
      between_back (point qs (suc j)) (point qs j) s
      (subst₂ (λ (p q : Spot). Between p q s) (M.back k (suc j) (omega arith)) (M.back (suc k) j (omega arith)) B)

  mirrored_level : OnLevel ps s → OnLevel qs s
  mirrored_level (k, l, f, B) =
      let j = length ps - 2 - k in
      let e = M.as_long in
      let h : suc (suc (k + j)) ≡ length ps = omega arith in
      (j, omega arith, level_back ps qs M k j h f, mirrored_run k j h B)

  mirrored_upright : OnUpright ps s → OnUpright qs s
  mirrored_upright (k, l, f, B) =
      let j = length ps - 2 - k in
      let e = M.as_long in
      let h : suc (suc (k + j)) ≡ length ps = omega arith in
      (j, omega arith, upright_back ps qs M k j h f, mirrored_run k j h B)

  mirrored_line : OnLine ps s → OnLine qs s
  mirrored_line (k, l, B) =
      let j = length ps - 2 - k in
      let e = M.as_long in
      (j, omega arith, mirrored_run k j (omega arith) B)

  mirrored_point : any (same_spot s) ps ≡ true → any (same_spot s) qs ≡ true
  mirrored_point h =
      let r = is_point_e ps s h in
      let e = M.as_long in
      let k = r.0 in
      let l = r.1 in
      let j = length ps - 1 - k in
      is_point_i qs s j (omega arith) (sym (M.back k j (omega arith)) ∙ r.2)

  mirrored_end : 2 ≤ length ps → at_end ps s ≡ true → at_end qs s ≡ true
  mirrored_end w h =
      let e = M.as_long in
      at_end_i qs s
      (⊎_elim (λ f. inr (f ∙ M.back 0 (length qs - 1) (omega arith)))
      (λ f. inl (f ∙ M.back (length ps - 1) 0 (omega arith))) (at_end_e ps s h))

module _ (ps qs : List Spot) (M : Mirrored ps qs) (w : 2 ≤ length ps) (s : Spot) where
  -- both pass every spot alike
  pub same_ways : way_at ps s ≡ way_at qs s
  unfolding way_at
  same_ways =
      let N = mirrored_back ps qs M in
      let l = M.as_long in
      let e = same_test (at_end ps s) (at_end qs s) (mirrored_end ps qs M s w) (mirrored_end qs ps N s (omega arith)) in
      let f = same_test (any (same_spot s) ps) (any (same_spot s) qs) (mirrored_point ps qs M s) (mirrored_point qs ps N s) in
      let g =
      same_test (on_level ps s) (on_level qs s) (λ h. on_level_i qs s (mirrored_level ps qs M s (on_level_e ps s h)))
      (λ h. on_level_i ps s (mirrored_level qs ps N s (on_level_e qs s h))) in
      let i =
      same_test (on_upright ps s) (on_upright qs s) (λ h. on_upright_i qs s (mirrored_upright ps qs M s (on_upright_e ps s h)))
      (λ h. on_upright_i ps s (mirrored_upright qs ps N s (on_upright_e qs s h))) in
      rw (e, f, g, i)

-- A right line is right from its other end too.
module _ (ps qs : List Spot) (M : Mirrored ps qs) where
  alternating_back : Alternating ps → Alternating qs
  alternating_back A = record {
    differ = λ k l e.
        let j = length ps - 2 - k in
        let q = M.as_long in
        A.differ j (omega arith) (M.back j (suc k) (omega arith) ∙ sym e ∙ sym (M.back (suc j) k (omega arith)));
    straight = λ k l.
        let j = length ps - 2 - k in
        let q = M.as_long in
        ⊎_elim (λ f. inl (level_back ps qs M j k (omega arith) f)) (λ f. inr (upright_back ps qs M j k (omega arith) f))
        (A.straight j (omega arith));
    level_upright = λ k l f.
        let j = length ps - 3 - k in
        let q = M.as_long in
        let g = level_back qs ps (mirrored_back ps qs M) k (suc j) (omega arith) f in
        ⊎_elim (λ h. absurd (A.differ (suc j) (omega arith) (spot_path (A.level_upright j (omega arith) h) g)))
        (λ h. upright_back ps qs M j (suc k) (omega arith) h) (A.straight j (omega arith));
    upright_level = λ k l f.
        let j = length ps - 3 - k in
        let q = M.as_long in
        let g = upright_back qs ps (mirrored_back ps qs M) k (suc j) (omega arith) f in
        ⊎_elim (λ h. level_back ps qs M j (suc k) (omega arith) h)
        (λ h. absurd (A.differ (suc j) (omega arith) (spot_path g (A.upright_level j (omega arith) h)))) (A.straight j (omega arith));
  }

  pub lone_back : (n : ℕ) (spot : ℕ → Spot) (a b : ℕ) → Lone n spot a b ps → Lone n spot b a qs
  lone_back n spot a b L =
      let q = M.as_long in
      let w = L.two in
      lone_of n spot b a qs
      record {
        starts = sym (M.back (length ps - 1) 0 (omega arith)) ∙ L.ends (length ps - 1) (omega arith);
        ends = λ k e. sym (M.back 0 k (omega arith)) ∙ L.starts;
        two = omega arith;
        parts = (L.parts.1, L.parts.0, λ e. L.parts.2 (sym e));
      }
      (alternating_back (lone_alternates n spot a b ps L))
      (λ j k g l s f h.
      let N = mirrored_back ps qs M in
      let i = length ps - 2 - j in
      let m = length ps - 2 - k in
      let r =
      L.itself m i (omega arith) (omega arith) s (mirrored_run qs ps N s k m (omega arith) h)
      (mirrored_run qs ps N s j i (omega arith) f) in
      let t = r.0 in
      (omega arith, r.1 ∙ M.back i k (omega arith)))
      (λ p l o. ⊎_elim inr inl (L.others p l (mirrored_line qs ps (mirrored_back ps qs M) (spot p) o)))

-- A line that is right in both directions

-- two runs in one row or column with nothing in common, as numbers
pub apart_numbers :
    (a c k b : ℕ) → ((w : ℕ) → min a c ≤ w → w ≤ max a c → min k b ≤ w → w ≤ max k b → ⊥)
    → ((a < k) × (a < b) × (c < k) × (c < b)) ⊎ ((k < a) × (b < a) × (k < c) × (b < c))
apart_numbers a c k b f = go (dec_lt (max a c) (min k b)) (dec_lt (max k b) (min a c))
  where
    go :
        Dec (max a c < min k b) → Dec (max k b < min a c)
        → ((a < k) × (a < b) × (c < k) × (c < b)) ⊎ ((k < a) × (b < a) × (k < c) × (b < c))
    go (yes e) h = inl (omega arith, omega arith, omega arith, omega arith)
    go (no e) (yes h) = inr (omega arith, omega arith, omega arith, omega arith)
    go (no e) (no h) =
        let r = in_both (min a c) (max a c) (min k b) (max k b) (omega arith) (omega arith) (omega arith) (omega arith) in
        absurd (f r.0 r.1 r.2 r.3 r.4)

-- of four numbers, the two ways to pair the outer with the inner ones cannot both be apart
pub one_row :
    (a c k b : ℕ) → ((w : ℕ) → min a c ≤ w → w ≤ max a c → min k b ≤ w → w ≤ max k b → ⊥)
    → ((w : ℕ) → min b c ≤ w → w ≤ max b c → min k a ≤ w → w ≤ max k a → ⊥) → ⊥
one_row a c k b f g = go (apart_numbers a c k b f) (apart_numbers b c k a g)
  where
    go :
        ((a < k) × (a < b) × (c < k) × (c < b)) ⊎ ((k < a) × (b < a) × (k < c) × (b < c))
        → ((b < k) × (b < a) × (c < k) × (c < a)) ⊎ ((k < b) × (a < b) × (k < c) × (a < c)) → ⊥
    go (inl p) (inl q) = omega (arith, p.1, q.1)
    go (inl p) (inr q) = omega (arith, p.2, q.2)
    go (inr p) (inl q) = omega (arith, p.2, q.2)
    go (inr p) (inr q) = omega (arith, p.1, q.1)

-- a line that alternates and whose first and last run share no spot, where it has two corners or more
pub record Facing (ps : List Spot) : Type 0 where
  pub alternating : Alternating ps
  pub apart : (z : ℕ) → 0 < z → suc (suc (suc z)) ≡ length ps → (s : Spot) → OnRun ps 0 s → OnRun ps (suc z) s → ⊥

-- a line that is right by itself is such a line
pub lone_facing : (n : ℕ) (spot : ℕ → Spot) (a b : ℕ) (ps : List Spot) → Lone n spot a b ps → Facing ps
lone_facing n spot a b ps L = record {
  alternating = lone_alternates n spot a b ps L;
  apart = λ z w e s A B. let r = L.itself 0 (suc z) (omega arith) (omega arith) s A B in omega (arith, r.0);
}

-- Of two directions with the same inner points, one that faces so leaves the other wrong, where there are two corners.
module _
    (n : ℕ) (spot : ℕ → Spot) (a b : ℕ) (ps qs : List Spot) (F : Facing ps) (S : point ps 0 ≡ spot a)
    (T : (k : ℕ) → suc k ≡ length ps → point ps k ≡ spot b) (K : Lone n spot b a qs)
    (E : length ps ≡ length qs) (I : (k : ℕ) → 0 < k → suc k < length ps → point ps k ≡ point qs k)
  where
    L : Alternating ps
    L = F.alternating

    -- the first run is of one kind in both, where there are two corners
    first_level : 3 < length ps → Level ps 0 → Level qs 0
    first_level w h = ⊎_elim (λ e. e) (λ e. absurd (wrong e)) (K.straight 0 (omega arith))
      where
        across : Upright qs 1
        across =
            ap (λ (s : Spot). s.x) (sym (I 1 (omega arith) (omega arith))) ∙ L.level_upright 0 (omega arith) h
            ∙ ap (λ (s : Spot). s.x) (I 2 (omega arith) (omega arith))

        wrong : Upright qs 0 → ⊥
        wrong e = K.differ 1 (omega arith) (spot_path across (K.upright_level 0 (omega arith) e))

    first_upright : 3 < length ps → Upright ps 0 → Upright qs 0
    first_upright w h = ⊎_elim (λ e. absurd (wrong e)) (λ e. e) (K.straight 0 (omega arith))
      where
        across : Level qs 1
        across =
            ap (λ (s : Spot). s.y) (sym (I 1 (omega arith) (omega arith))) ∙ L.upright_level 0 (omega arith) h
            ∙ ap (λ (s : Spot). s.y) (I 2 (omega arith) (omega arith))

        wrong : Level qs 0 → ⊥
        wrong e = K.differ 1 (omega arith) (spot_path (K.level_upright 0 (omega arith) e) across)

    -- and so is the last, run z + 1
    last_level : (z : ℕ) → 0 < z → suc (suc (suc z)) ≡ length ps → Level ps (suc z) → Level qs (suc z)
    last_level z w e h = ⊎_elim (λ f. absurd (wrong f)) right (L.straight z (omega arith))
      where
        wrong : Level ps z → ⊥
        wrong f = L.differ (suc z) (omega arith) (spot_path (L.level_upright z (omega arith) f) h)

        right : Upright ps z → Level qs (suc z)
        right f =
            K.upright_level z (omega arith)
            (ap (λ (s : Spot). s.x) (sym (I z w (omega arith))) ∙ f ∙ ap (λ (s : Spot). s.x) (I (suc z) (omega arith) (omega arith)))

    last_upright : (z : ℕ) → 0 < z → suc (suc (suc z)) ≡ length ps → Upright ps (suc z) → Upright qs (suc z)
    last_upright z w e h = ⊎_elim right (λ f. absurd (wrong f)) (L.straight z (omega arith))
      where
        wrong : Upright ps z → ⊥
        wrong f = L.differ (suc z) (omega arith) (spot_path h (L.upright_level z (omega arith) f))

        right : Level ps z → Upright qs (suc z)
        right f =
            K.level_upright z (omega arith)
            (ap (λ (s : Spot). s.y) (sym (I z w (omega arith))) ∙ f ∙ ap (λ (s : Spot). s.y) (I (suc z) (omega arith) (omega arith)))

    module _ (z : ℕ) (w : 0 < z) (e : suc (suc (suc z)) ≡ length ps) where
      -- where the points of the two lists agree
      pub record Ends : Type 0 where
        pub a_x : (point qs (suc (suc z))).x ≡ (point ps 0).x
        pub a_y : (point qs (suc (suc z))).y ≡ (point ps 0).y
        pub b_x : (point qs 0).x ≡ (point ps (suc (suc z))).x
        pub b_y : (point qs 0).y ≡ (point ps (suc (suc z))).y
        pub c_x : (point qs 1).x ≡ (point ps 1).x
        pub c_y : (point qs 1).y ≡ (point ps 1).y
        pub k_x : (point qs (suc z)).x ≡ (point ps (suc z)).x
        pub k_y : (point qs (suc z)).y ≡ (point ps (suc z)).y

      agree : Ends
      agree =
          let f = K.ends (suc (suc z)) (omega arith) ∙ sym S in
          let g = K.starts ∙ sym (T (suc (suc z)) (omega arith)) in
          let h = sym (I 1 (omega arith) (omega arith)) in
          let i = sym (I (suc z) (omega arith) (omega arith)) in
          record {
            a_x = ap (λ (s : Spot). s.x) f;
            a_y = ap (λ (s : Spot). s.y) f;
            b_x = ap (λ (s : Spot). s.x) g;
            b_y = ap (λ (s : Spot). s.y) g;
            c_x = ap (λ (s : Spot). s.x) h;
            c_y = ap (λ (s : Spot). s.y) h;
            k_x = ap (λ (s : Spot). s.x) i;
            k_y = ap (λ (s : Spot). s.y) i;
          }

      never_itself_first : (s : Spot) → OnRun ps 0 s → OnRun ps (suc z) s → ⊥
      never_itself_first = F.apart z w e

      never_itself_second : (s : Spot) → OnRun qs 0 s → OnRun qs (suc z) s → ⊥
      never_itself_second s A B = let r = K.itself 0 (suc z) (omega arith) (omega arith) s A B in omega (arith, r.0)

      same_ends : point ps 0 ≡ point ps (suc (suc z)) → ⊥
      same_ends q = ends_apart n spot b a qs K (sym (T (suc (suc z)) (omega arith)) ∙ sym q ∙ S)

      both_level : Level ps 0 → Level qs 0 → Level ps (suc z) → Level qs (suc z) → ⊥
      both_level f g h i =
          let A = agree in
          let y = (point ps 0).y in
          one_row (point ps 0).x (point ps 1).x (point ps (suc z)).x (point ps (suc (suc z))).x
          (λ u l r m t.
          never_itself_first (spot_at u y) (record { left = l; right = r; below = omega arith; above = omega arith })
          (record { left = m; right = t; below = omega arith; above = omega arith }))
          (λ u l r m t.
          never_itself_second (spot_at u y)
          (record { left = omega arith; right = omega arith; below = omega arith; above = omega arith })
          (record { left = omega arith; right = omega arith; below = omega arith; above = omega arith }))

      both_upright : Upright ps 0 → Upright qs 0 → Upright ps (suc z) → Upright qs (suc z) → ⊥
      both_upright f g h i =
          let A = agree in
          let x = (point ps 0).x in
          one_row (point ps 0).y (point ps 1).y (point ps (suc z)).y (point ps (suc (suc z))).y
          (λ u l r m t.
          never_itself_first (spot_at x u) (record { left = omega arith; right = omega arith; below = l; above = r })
          (record { left = omega arith; right = omega arith; below = m; above = t }))
          (λ u l r m t.
          never_itself_second (spot_at x u)
          (record { left = omega arith; right = omega arith; below = omega arith; above = omega arith })
          (record { left = omega arith; right = omega arith; below = omega arith; above = omega arith }))

      level_then_upright : Level ps 0 → Level qs 0 → Upright ps (suc z) → Upright qs (suc z) → ⊥
      level_then_upright f g h i = let A = agree in same_ends (spot_path (omega arith) (omega arith))

      upright_then_level : Upright ps 0 → Upright qs 0 → Level ps (suc z) → Level qs (suc z) → ⊥
      upright_then_level f g h i = let A = agree in same_ends (spot_path (omega arith) (omega arith))

      pub never_both : ⊥
      never_both = go (L.straight 0 (omega arith)) (L.straight (suc z) (omega arith))
        where
          go : Level ps 0 ⊎ Upright ps 0 → Level ps (suc z) ⊎ Upright ps (suc z) → ⊥
          go (inl f) (inl h) = both_level f (first_level (omega arith) f) h (last_level z w e h)
          go (inl f) (inr h) = level_then_upright f (first_level (omega arith) f) h (last_upright z w e h)
          go (inr f) (inl h) = upright_then_level f (first_upright (omega arith) f) h (last_level z w e h)
          go (inr f) (inr h) = both_upright f (first_upright (omega arith) f) h (last_upright z w e h)

-- a line that is right in both directions
module _
    (n : ℕ) (spot : ℕ → Spot) (a b : ℕ) (ps qs : List Spot) (L : Lone n spot a b ps) (K : Lone n spot b a qs)
    (E : length ps ≡ length qs) (I : (k : ℕ) → 0 < k → suc k < length ps → point ps k ≡ point qs k)
  where
    -- at most one corner
    pub both_short : length ps ≤ 3
    both_short = go (dec_lt 3 (length ps))
      where
        go : Dec (3 < length ps) → length ps ≤ 3
        go (yes l) =
            let F = lone_facing n spot a b ps L in
            absurd (never_both n spot a b ps qs F L.starts L.ends K E I (length ps - 3) (omega arith) (omega arith))
        go (no l) = omega arith

    -- so that one is the other from its last point
    pub both_mirrored : Mirrored ps qs
    both_mirrored = record { as_long = E; back = back }
      where
        back : (k j : ℕ) → suc (k + j) ≡ length ps → point ps k ≡ point qs j
        back zero j h = L.starts ∙ sym (K.ends j (omega arith))
        back (suc k) zero h = L.ends (suc k) (omega arith) ∙ sym K.starts
        back (suc k) (suc j) h =
            let s = both_short in
            let q : suc k ≡ suc j = omega arith in
            I (suc k) (omega arith) (omega arith) ∙ ap (point qs) q

-- With the corners between the two parts' spots, in either direction

-- its length, its corners and its last point
pub line_length_lem : (s t : Spot) (cs : List Spot) → length (line_over s cs t) ≡ suc (suc (length cs))
line_length_lem s t cs = omega (arith, length-append cs (t ∷ []))

pub corner_at : (s t : Spot) (cs : List Spot) (k : ℕ) → k < length cs → point (line_over s cs t) (suc k) ≡ get_or cs k origin
unfolding point
corner_at s t cs k l = get_or-append cs (t ∷ []) origin k l

pub last_at : (s t : Spot) (cs : List Spot) (k : ℕ) → k ≡ suc (length cs) → point (line_over s cs t) k ≡ t
unfolding point
last_at s t cs k e = rw e (get_or-append_seam cs t [] origin)

-- the two directions have the same inner points
pub same_inner :
    (p : Spot) (cs : List Spot) (q : Spot) (k : ℕ) → 0 < k → suc k < length (line_over p cs q)
    → point (line_over p cs q) k ≡ point (line_over q cs p) k
same_inner p cs q zero w l = absurd (omega arith)
same_inner p cs q (suc k) w l =
    let h : k < length cs = omega (arith, line_length_lem p q cs) in
    corner_at p q cs k h ∙ sym (corner_at q p cs k h)

-- Two good directions have at most one corner, and pass every spot alike.
module _
    (n : ℕ) (spot : ℕ → Spot) (a b : ℕ) (cs : List Spot)
    (L : Lone n spot a b (line_over (spot a) cs (spot b))) (K : Lone n spot b a (line_over (spot b) cs (spot a)))
  where
    directions_mirrored : Mirrored (line_over (spot a) cs (spot b)) (line_over (spot b) cs (spot a))
    directions_mirrored =
        both_mirrored n spot a b (line_over (spot a) cs (spot b)) (line_over (spot b) cs (spot a)) L K
        (line_length_lem (spot a) (spot b) cs ∙ sym (line_length_lem (spot b) (spot a) cs)) (same_inner (spot a) cs (spot b))

    pub directions_same_ways : (s : Spot) → way_at (line_over (spot a) cs (spot b)) s ≡ way_at (line_over (spot b) cs (spot a)) s
    directions_same_ways s = same_ways (line_over (spot a) cs (spot b)) (line_over (spot b) cs (spot a)) directions_mirrored L.two s

    -- What is asked of two cables may be asked in either direction.
    pub directions_together :
        (c d : ℕ) (qs : List Spot) → Lone n spot c d qs → Together spot a b (line_over (spot a) cs (spot b)) c d qs
        → Together spot b a (line_over (spot b) cs (spot a)) c d qs
    directions_together c d qs N T =
        let P = together_passing n spot a b (line_over (spot a) cs (spot b)) c d qs L N T in
        passing_together n spot b a (line_over (spot b) cs (spot a)) c d qs K N
        record {
          once = λ s r f g.
              P.once s r (ap (λ (w : Way). cross_wise w (way_at qs s)) (directions_same_ways s) ∙ f)
              (ap (λ (w : Way). cross_wise w (way_at qs r)) (directions_same_ways r) ∙ g);
          shared = λ s f.
              let r = P.shared s (ap (λ (w : Way). clash w (way_at qs s)) (directions_same_ways s) ∙ f) in
              (r.0, ⊎_elim inr inl r.1, r.2, r.3);
        }
