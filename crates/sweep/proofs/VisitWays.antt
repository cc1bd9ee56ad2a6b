-- The flags of a visit say how a line that is right by itself passes the spot. Assumes nothing.
use Prim.Native.Nat.{ℕ, zero, suc, ◌-◌, ◌<◌}
use native.Mathlib.Omega.{arith}
use native.Mathlib.Decide.{ℕ_discrete, dec_lt}
use mathlib.Core.Path.{◌≡◌, refl, sym, ap, ◌∙◌, subst}
use mathlib.Core.Bool.{Bool, true, false, true≢false}
use mathlib.Core.Logic.{◌⊎◌, inl, inr}
use mathlib.Core.List.{List, Memᴰ}
use lib.ListN.{length}
use Rattle.geometry.specs.Spots.{Spot, spot_at}
use Rattle.geometry.specs.Lines.{Lone, point, IsRun, OnRun, NoPoint}
use Rattle.geometry.proofs.Spots.{spot_path}
use Rattle.drawing.specs.Drawing.{Drawing, spot_of, route_at, route_points, points_at}
use Rattle.validation.specs.Facing.{line_over}
use Rattle.validation.specs.Ways.{Way, off, end, corner, level, upright, way_at, passing, is_level, is_upright}
use Rattle.validation.proofs.Alone.{start_on, end_on}
use Rattle.validation.proofs.Ways.{Passes, at_end_lem, at_corner, on_level_lem, on_upright_lem, not_on, passes, at_end_i, level_way_i, upright_way_i, passing_way_e}
use Rattle.sweep.specs.Visits.{Visit, visit_at, line_visits}
use Rattle.sweep.specs.Sweep.{route_visits}
use Rattle.sweep.specs.Rows.{visits_of}
use Rattle.sweep.proofs.Visits as visits
use Rattle.sweep.proofs.Visits.{Visiting, InRow, InColumn, row_between, column_between, visit_kind, kind_visit, on_line_kind}
use Rattle.sweep.proofs.Rising.{LoneLine}

-- the flags of a way: the spot is on a level run, and on an upright run, ends apart
abbrev pub level_flag : Way → Bool
level_flag off = false
level_flag end = false
level_flag corner = true
level_flag level = true
level_flag upright = false

abbrev pub upright_flag : Way → Bool
upright_flag off = false
upright_flag end = false
upright_flag corner = true
upright_flag level = false
upright_flag upright = true

-- the line passes, in a way with these flags
pub record Flags (w : Way) (a b : Bool) : Type 0 where
  pub passed : passing w ≡ true
  pub first_flag : level_flag w ≡ a
  pub second_flag : upright_flag w ≡ b

level_flags : (w : Way) → is_level w ≡ true → Flags w true false
level_flags off h = absurd (true≢false (sym h))
level_flags end h = absurd (true≢false (sym h))
level_flags corner h = absurd (true≢false (sym h))
level_flags level h = record { passed = refl; first_flag = refl; second_flag = refl }
level_flags upright h = absurd (true≢false (sym h))

upright_flags : (w : Way) → is_upright w ≡ true → Flags w false true
upright_flags off h = absurd (true≢false (sym h))
upright_flags end h = absurd (true≢false (sym h))
upright_flags corner h = absurd (true≢false (sym h))
upright_flags level h = absurd (true≢false (sym h))
upright_flags upright h = record { passed = refl; first_flag = refl; second_flag = refl }

module _ (n : ℕ) (spot : ℕ → Spot) (a b : ℕ) (ps : List Spot) (L : Lone n spot a b ps) (s : Spot) where
  -- a corner is neither of the ends
  not_end : (k : ℕ) → 0 < k → suc k < length ps → point ps k ≡ s → (s ≡ point ps 0) ⊎ (s ≡ point ps (length ps - 1)) → ⊥
  not_end zero g h e q = absurd (omega arith)
  not_end (suc k) g h e (inl q) =
      let z = L.own_first (suc k) h (subst (λ (t : Spot). OnRun ps (suc k) t) (e ∙ q ∙ L.starts) (start_on ps (suc k))) in
      omega arith
  not_end (suc k) g h e (inr q) =
      let r = e ∙ q ∙ L.ends (length ps - 1) (omega arith) in
      let z = L.own_last k (omega arith) (subst (λ (t : Spot). OnRun ps k t) r (end_on ps k)) in
      omega arith

  -- what a run has besides its two points is no point of the line
  inner_free : (k : ℕ) → IsRun ps k → OnRun ps k s → (point ps k ≡ s → ⊥) → (point ps (suc k) ≡ s → ⊥) → NoPoint ps s
  inner_free k h B f g j l e = go (dec_lt j k) (ℕ_discrete j k) (ℕ_discrete j (suc k))
    where
      before : j < k → ⊥
      before q = f (sym (L.itself j k q h s (subst (λ (t : Spot). OnRun ps j t) e (start_on ps j)) B).1)

      behind : (i : ℕ) → j ≡ suc i → k < i → ⊥
      behind i q r =
          let t = L.itself k i r (omega arith) s B (subst (λ (u : Spot). OnRun ps i u) (ap (point ps) (sym q) ∙ e) (end_on ps i)) in
          g (ap (point ps) (sym t.0) ∙ sym t.1)

      go : Dec (j < k) → Dec (j ≡ k) → Dec (j ≡ suc k) → ⊥
      go (yes q) c d = before q
      go (no q) (yes c) d = f (ap (point ps) (sym c) ∙ e)
      go (no q) (no c) (yes d) = g (ap (point ps) (sym d) ∙ e)
      go (no q) (no c) (no d) = behind (j - 1) (omega arith) (omega arith)

  row_start : (k : ℕ) → InRow (point ps k) (point ps (suc k)) s → point ps k ≡ s → ⊥
  row_start k I e = omega (arith, ap (λ (t : Spot). t.x) e, I.left, I.right)

  row_end : (k : ℕ) → InRow (point ps k) (point ps (suc k)) s → point ps (suc k) ≡ s → ⊥
  row_end k I e = omega (arith, ap (λ (t : Spot). t.x) e, I.left, I.right)

  column_start : (k : ℕ) → InColumn (point ps k) (point ps (suc k)) s → point ps k ≡ s → ⊥
  column_start k I e = omega (arith, ap (λ (t : Spot). t.y) e, I.below, I.above)

  column_end : (k : ℕ) → InColumn (point ps k) (point ps (suc k)) s → point ps (suc k) ≡ s → ⊥
  column_end k I e = omega (arith, ap (λ (t : Spot). t.y) e, I.below, I.above)

  corner_flags :
      (w : Way) (k : ℕ) → k < length ps → point ps k ≡ s → ((s ≡ point ps 0) ⊎ (s ≡ point ps (length ps - 1)) → ⊥) → Passes ps s w
      → Flags w true true
  corner_flags end k l e f (at_end_lem q) = absurd (f q)
  corner_flags corner k l e f (at_corner j g q h) = record { passed = refl; first_flag = refl; second_flag = refl }
  corner_flags level k l e f (on_level_lem o N) = absurd (N k l e)
  corner_flags upright k l e f (on_upright_lem o g N) = absurd (N k l e)
  corner_flags off k l e f (not_on g h N) = absurd (N k l e)

  end_flags : (s ≡ point ps 0) ⊎ (s ≡ point ps (length ps - 1)) → Flags (way_at ps s) false false
  unfolding way_at
  end_flags e = rw (at_end_i ps s e) (record { passed = refl; first_flag = refl; second_flag = refl })

  -- its way has the flags of its visit
  pub kind_way : {c d : Bool} → Visiting ps s c d → Flags (way_at ps s) c d
  kind_way (visits.at_end_lem e) = end_flags e
  kind_way (visits.at_corner k g h e) = corner_flags (way_at ps s) k (omega arith) e (not_end k g h e) (passes ps s)
  kind_way (visits.in_level k h I) =
      let o = row_between (point ps k) (point ps (suc k)) s I in
      level_flags (way_at ps s) (level_way_i n spot a b ps L s (k, h, I.level, o) (inner_free k h o (row_start k I) (row_end k I)))
  kind_way (visits.in_upright k h I) =
      let o = column_between (point ps k) (point ps (suc k)) s I in
      upright_flags (way_at ps s)
      (upright_way_i n spot a b ps L s (k, h, I.upright, o) (inner_free k h o (column_start k I) (column_end k I)))

-- A line's visits in a row

module _ (n : ℕ) (spot : ℕ → Spot) (a b : ℕ) (f : Spot) (cs : List Spot) (l : Spot) (L : Lone n spot a b (line_over f cs l)) where
  -- the flags of a visit are those of the way
  pub visit_way :
      (y : ℕ) (v : Visit) → Memᴰ v (line_visits y f cs l)
      → Flags (way_at (line_over f cs l) (spot_at v.column y)) v.level v.upright
  visit_way y v m = kind_way n spot a b (line_over f cs l) L (spot_at v.column y) (visit_kind f cs l y L.straight m)

  -- and a spot that the line passes has such a visit
  pub way_visit :
      (s : Spot) → passing (way_at (line_over f cs l) s) ≡ true
      → (v : Visit) × Memᴰ v (line_visits s.y f cs l) × (v.column ≡ s.x)
      × Flags (way_at (line_over f cs l) s) v.level v.upright
  way_visit s h =
      let r = on_line_kind (line_over f cs l) s L.straight (passing_way_e n spot a b (line_over f cs l) L s h) in
      (visit_at s.x r.0 r.1, kind_visit f cs l s r.2, refl, kind_way n spot a b (line_over f cs l) L s r.2)

-- of a drawing's line
module _ (d : Drawing) (i : ℕ) (L : LoneLine d i) where
  pub line_visit_way :
      (s : Spot) (v : Visit) → Memᴰ v (visits_of d s.y i) → v.column ≡ s.x → Flags (way_at (points_at d i) s) v.level v.upright
  unfolding points_at route_points route_visits
  line_visit_way s v m e =
      let r = route_at d i in
      subst (λ (t : Spot). Flags (way_at (points_at d i) t) v.level v.upright) (spot_path e refl)
      (visit_way (length d.parts) (spot_of d) r.first r.last (spot_of d r.first) r.corners (spot_of d r.last) L s.y v m)

  pub line_way_visit :
      (s : Spot) → passing (way_at (points_at d i) s) ≡ true
      → (v : Visit) × Memᴰ v (visits_of d s.y i) × (v.column ≡ s.x) × Flags (way_at (points_at d i) s) v.level v.upright
  unfolding points_at route_points route_visits
  line_way_visit s h =
      let r = route_at d i in
      way_visit (length d.parts) (spot_of d) r.first r.last (spot_of d r.first) r.corners (spot_of d r.last) L s h
