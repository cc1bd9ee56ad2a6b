-- What demand 3 says of one cable by itself: its runs are the segments of its course, level and upright in turn, and share no spot but the
-- points between neighbours. Assumes nothing.
use Prim.Native.Nat.{ℕ, zero, suc, ◌+◌, ◌<◌, ◌≤◌, min, max}
use native.Mathlib.Nat.{add-zero, add-suc}
use native.Mathlib.Omega.{arith}
use native.Mathlib.Decide.{ℕ_discrete}
use mathlib.Core.Path.{◌≡◌, refl, sym, ◌∙◌, ap, subst, subst₂}
use mathlib.Core.Logic.{◌⊎◌, inl, inr}
use mathlib.Core.List.{List}
use lib.ListN.{length}
use Rattle.geometry.specs.Spots.{Spot}
use Rattle.layout.specs.Points.{Course}
use Rattle.geometry.specs.Lines.{point, IsRun, OnRun, Between, Level, Upright}
use Rattle.geometry.proofs.Spots.{spot_path}
use Rattle.layout.proofs.Segments.{Proper, turn, First, Last, Drawn}

-- the spots of an upright segment, in a column from one row up to another
pub record Vertical (x low high : ℕ) (s : Spot) : Type 0 where
  pub column : s.x ≡ x
  pub floor : low ≤ s.y
  pub ceiling : s.y ≤ high

-- the spots of a level segment, in a row between two columns
pub record Horizontal (y p q : ℕ) (s : Spot) : Type 0 where
  pub row : s.y ≡ y
  pub left : min p q ≤ s.x
  pub right : s.x ≤ max p q

abbrev pub Segment : Course → ℕ → Spot → Type 0
Segment c zero s = Vertical c.from.x c.low c.from.y s
Segment c (suc zero) s = Horizontal c.low c.from.x c.column s
Segment c (suc (suc zero)) s = Vertical c.column c.low c.high s
Segment c (suc (suc (suc zero))) s = Horizontal c.high c.column c.to.x s
Segment c (suc (suc (suc (suc zero)))) s = Vertical c.to.x c.to.y c.high s
Segment c (suc (suc (suc (suc (suc q))))) s = Between c.to c.to s

module _ (c : Course) (P : Proper c) where
  to_segment : (q : ℕ) (s : Spot) → Between (turn c q) (turn c (suc q)) s → Segment c q s
  to_segment zero s h = omega (arith, P.low_le, h.left, h.right, h.below, h.above)
  to_segment (suc zero) s h = omega (arith, h.left, h.right, h.below, h.above)
  to_segment (suc (suc zero)) s h = omega (arith, P.low_le, P.rises, P.high_ge, h.left, h.right, h.below, h.above)
  to_segment (suc (suc (suc zero))) s h = omega (arith, h.left, h.right, h.below, h.above)
  to_segment (suc (suc (suc (suc zero)))) s h = omega (arith, P.high_ge, h.left, h.right, h.below, h.above)
  to_segment (suc (suc (suc (suc (suc q))))) s h = h

  of_segment : (q : ℕ) (s : Spot) → Segment c q s → Between (turn c q) (turn c (suc q)) s
  of_segment zero s h = omega (arith, P.low_le)
  of_segment (suc zero) s h = omega arith
  of_segment (suc (suc zero)) s h = omega (arith, P.low_le, P.rises, P.high_ge)
  of_segment (suc (suc (suc zero))) s h = omega arith
  of_segment (suc (suc (suc (suc zero)))) s h = omega (arith, P.high_ge)
  of_segment (suc (suc (suc (suc (suc q))))) s h = h

first_spot : (c : Course) (b : ℕ) → First c b → turn c b ≡ c.from
first_spot c zero F = refl
first_spot c (suc zero) F = spot_path refl (F.flat (omega arith))
first_spot c (suc (suc zero)) F = spot_path (F.above (omega arith)) (F.flat (omega arith))
first_spot c (suc (suc (suc b))) F = absurd (omega (arith, F.small))

last_spot : (c : Course) (e : ℕ) → Last c e → turn c e ≡ c.to
last_spot c zero L = absurd (omega (arith, L.large))
last_spot c (suc zero) L = absurd (omega (arith, L.large))
last_spot c (suc (suc zero)) L = absurd (omega (arith, L.large))
last_spot c (suc (suc (suc zero))) L = spot_path (L.below (omega arith)) (L.flat (omega arith))
last_spot c (suc (suc (suc (suc zero)))) L = spot_path refl (L.flat (omega arith))
last_spot c (suc (suc (suc (suc (suc e))))) L = refl

at_least : (k b : ℕ) → b ≤ k → (b < k → ⊥) → k ≡ b
at_least k b h f = omega arith

at_most : (k e : ℕ) → k ≤ e → (suc k ≤ e → ⊥) → k ≡ e
at_most k e h f = omega arith

module _ (c : Course) (P : Proper c) (b e : ℕ) (F : First c b) (L : Last c e) where
  differ_at : (q : ℕ) → b ≤ q → q < e → turn c q ≡ turn c (suc q) → ⊥
  differ_at zero g l h = omega (arith, F.stub (omega arith), ap (λ (p : Spot). p.y) h)
  differ_at (suc zero) g l h = F.aside (omega arith) (sym (ap (λ (p : Spot). p.x) h))
  differ_at (suc (suc zero)) g l h = omega (arith, P.rises, P.low_le, P.high_ge, ap (λ (p : Spot). p.y) h)
  differ_at (suc (suc (suc zero))) g l h = L.aside (omega arith) (ap (λ (p : Spot). p.x) h)
  differ_at (suc (suc (suc (suc zero)))) g l h = omega (arith, L.stub (omega arith), ap (λ (p : Spot). p.y) h)
  differ_at (suc (suc (suc (suc (suc q))))) g l h = omega (arith, L.small)

  straight_at : (q : ℕ) → q < e → ((turn c q).y ≡ (turn c (suc q)).y) ⊎ ((turn c q).x ≡ (turn c (suc q)).x)
  straight_at zero l = inr refl
  straight_at (suc zero) l = inl refl
  straight_at (suc (suc zero)) l = inr refl
  straight_at (suc (suc (suc zero))) l = inl refl
  straight_at (suc (suc (suc (suc zero)))) l = inr refl
  straight_at (suc (suc (suc (suc (suc q))))) l = absurd (omega (arith, L.small))

  level_upright_at : (q : ℕ) → b ≤ q → suc q < e → (turn c q).y ≡ (turn c (suc q)).y → (turn c (suc q)).x ≡ (turn c (suc (suc q))).x
  level_upright_at zero g l h = absurd (omega (arith, F.stub (omega arith)))
  level_upright_at (suc zero) g l h = refl
  level_upright_at (suc (suc zero)) g l h = absurd (omega (arith, P.rises, P.low_le, P.high_ge))
  level_upright_at (suc (suc (suc zero))) g l h = refl
  level_upright_at (suc (suc (suc (suc q)))) g l h = absurd (omega (arith, L.small))

  upright_level_at : (q : ℕ) → b ≤ q → suc q < e → (turn c q).x ≡ (turn c (suc q)).x → (turn c (suc q)).y ≡ (turn c (suc (suc q))).y
  upright_level_at zero g l h = refl
  upright_level_at (suc zero) g l h = absurd (F.aside (omega arith) (sym h))
  upright_level_at (suc (suc zero)) g l h = refl
  upright_level_at (suc (suc (suc zero))) g l h = absurd (L.aside (omega arith) h)
  upright_level_at (suc (suc (suc (suc q)))) g l h = absurd (omega (arith, L.small))

  -- neighbouring segments share the turn between them
  neighbours : (q : ℕ) → suc q < e → (s : Spot) → Segment c q s → Segment c (suc q) s → s ≡ turn c (suc q)
  neighbours zero l s g h = spot_path g.column h.row
  neighbours (suc zero) l s g h = spot_path h.column g.row
  neighbours (suc (suc zero)) l s g h = spot_path g.column h.row
  neighbours (suc (suc (suc zero))) l s g h = spot_path h.column g.row
  neighbours (suc (suc (suc (suc q)))) l s g h = absurd (omega (arith, L.small))

  -- the segments before the third are not above the lower part, those behind it not below the upper
  low_row : (q : ℕ) → q < 2 → (s : Spot) → Segment c q s → s.y ≤ c.from.y
  low_row zero l s h = h.ceiling
  low_row (suc zero) l s h = omega (arith, P.low_le, h.row)
  low_row (suc (suc q)) l s h = absurd (omega arith)

  high_row : (q : ℕ) → 2 < q → q < e → (s : Spot) → Segment c q s → c.to.y ≤ s.y
  high_row zero g l s h = absurd (omega arith)
  high_row (suc zero) g l s h = absurd (omega arith)
  high_row (suc (suc zero)) g l s h = absurd (omega arith)
  high_row (suc (suc (suc zero))) g l s h = omega (arith, P.high_ge, h.row)
  high_row (suc (suc (suc (suc zero)))) g l s h = h.floor
  high_row (suc (suc (suc (suc (suc q))))) g l s h = absurd (omega (arith, L.small))

  -- other segments share no spot
  apart : (p q : ℕ) → b ≤ p → suc p < q → q < e → (s : Spot) → Segment c p s → Segment c q s → ⊥
  apart zero zero f g l s h k = omega arith
  apart zero (suc zero) f g l s h k = omega arith
  apart zero (suc (suc zero)) f g l s h k = F.aside (omega arith) (sym k.column ∙ h.column)
  apart zero (suc (suc (suc q))) f g l s h k =
      omega (arith, P.rises, low_row 0 (omega arith) s h, high_row (suc (suc (suc q))) (omega arith) l s k)
  apart (suc zero) zero f g l s h k = omega arith
  apart (suc zero) (suc zero) f g l s h k = omega arith
  apart (suc zero) (suc (suc zero)) f g l s h k = omega arith
  apart (suc zero) (suc (suc (suc q))) f g l s h k =
      omega (arith, P.rises, low_row 1 (omega arith) s h, high_row (suc (suc (suc q))) (omega arith) l s k)
  apart (suc (suc zero)) zero f g l s h k = omega arith
  apart (suc (suc zero)) (suc zero) f g l s h k = omega arith
  apart (suc (suc zero)) (suc (suc zero)) f g l s h k = omega arith
  apart (suc (suc zero)) (suc (suc (suc zero))) f g l s h k = omega arith
  apart (suc (suc zero)) (suc (suc (suc (suc zero)))) f g l s h k = L.aside (omega arith) (sym h.column ∙ k.column)
  apart (suc (suc zero)) (suc (suc (suc (suc (suc q))))) f g l s h k = omega (arith, L.small)
  apart (suc (suc (suc p))) q f g l s h k = omega (arith, L.small)

  itself_at :
      (p q : ℕ) → b ≤ p → p < q → q < e → (s : Spot) → Segment c p s → Segment c q s → (q ≡ suc p) × (s ≡ turn c q)
  itself_at p q f g l s h k = go (ℕ_discrete q (suc p))
    where
      go : Dec (q ≡ suc p) → (q ≡ suc p) × (s ≡ turn c q)
      go (yes r) = (r, rw r (neighbours p (omega arith) s h (subst (λ (i : ℕ). Segment c i s) r k)))
      go (no r) = absurd (apart p q f (omega arith) l s h k)

  own_first_at : (q : ℕ) → b ≤ q → q < e → Segment c q c.from → q ≡ b
  own_first_at zero g l h = omega arith
  own_first_at (suc zero) g l h = at_least 1 b g λ f. omega (arith, F.stub f, h.row)
  own_first_at (suc (suc zero)) g l h = at_least 2 b g λ f. F.aside f (sym h.column)
  own_first_at (suc (suc (suc q))) g l h = absurd (omega (arith, P.rises, high_row (suc (suc (suc q))) (omega arith) l c.from h))

  own_last_at : (q : ℕ) → b ≤ q → q < e → Segment c q c.to → suc q ≡ e
  own_last_at zero g l h = absurd (omega (arith, P.rises, low_row 0 (omega arith) c.to h))
  own_last_at (suc zero) g l h = absurd (omega (arith, P.rises, low_row 1 (omega arith) c.to h))
  own_last_at (suc (suc zero)) g l h = at_most 3 e l λ f. L.aside f (sym h.column)
  own_last_at (suc (suc (suc zero))) g l h = at_most 4 e l λ f. omega (arith, L.stub f, h.row)
  own_last_at (suc (suc (suc (suc q)))) g l h = omega (arith, L.small)

module _ (c : Course) (ps : List Spot) (P : Proper c) (D : Drawn c ps) where
  pub starts_at_lem : (k : ℕ) → k < length ps → point ps k ≡ turn c (D.b + k)
  starts_at_lem k l = D.kept.at k l

  pub ends_at : (k : ℕ) → IsRun ps k → point ps (suc k) ≡ turn c (suc (D.b + k))
  ends_at k l = rw add-suc at (D.kept.at (suc k) l)

  -- run k is segment b + k
  pub run_segment : (k : ℕ) → IsRun ps k → (s : Spot) → OnRun ps k s → Segment c (D.b + k) s
  run_segment k l s h =
      to_segment c P (D.b + k) s
      (subst₂ (λ (p q : Spot). Between p q s) (starts_at_lem k (omega arith)) (ends_at k l) h)

  pub segment_run : (k : ℕ) → IsRun ps k → (s : Spot) → Segment c (D.b + k) s → OnRun ps k s
  segment_run k l s h =
      subst₂ (λ (p q : Spot). Between p q s) (sym (starts_at_lem k (omega arith))) (sym (ends_at k l)) (of_segment c P (D.b + k) s h)

  pub line_starts : point ps 0 ≡ c.from
  line_starts =
      starts_at_lem 0 (omega (arith, D.kept.size, D.first.small, D.last.large))
      ∙ ap (turn c) (add-zero D.b)
      ∙ first_spot c D.b D.first

  pub line_ends : (k : ℕ) → suc k ≡ length ps → point ps k ≡ c.to
  line_ends k h =
      let r : D.b + k ≡ D.e = omega (arith, D.kept.size) in
      starts_at_lem k (omega arith) ∙ ap (turn c) r ∙ last_spot c D.e D.last

  pub line_two : 2 ≤ length ps
  line_two = omega (arith, D.kept.size, D.first.small, D.last.large)

  pub line_differ : (k : ℕ) → IsRun ps k → point ps k ≡ point ps (suc k) → ⊥
  line_differ k l h =
      differ_at c P D.b D.e D.first D.last (D.b + k) (omega arith) (omega (arith, D.kept.size))
      (sym (starts_at_lem k (omega arith)) ∙ h ∙ ends_at k l)

  pub line_straight : (k : ℕ) → IsRun ps k → Level ps k ⊎ Upright ps k
  line_straight k l =
      rw (starts_at_lem k (omega arith), ends_at k l)
      (straight_at c P D.b D.e D.first D.last (D.b + k) (omega (arith, D.kept.size)))

  pub line_level_upright : (k : ℕ) → IsRun ps (suc k) → Level ps k → Upright ps (suc k)
  line_level_upright k l h =
      let p = starts_at_lem k (omega arith) in
      let q = ends_at k (omega arith) in
      let r : point ps (suc (suc k)) ≡ turn c (suc (suc (D.b + k))) = rw add-suc at (ends_at (suc k) l) in
      rw (q, r)
      (level_upright_at c P D.b D.e D.first D.last (D.b + k) (omega arith) (omega (arith, D.kept.size))
      (sym (ap (λ (s : Spot). s.y) p) ∙ h ∙ ap (λ (s : Spot). s.y) q))

  pub line_upright_level : (k : ℕ) → IsRun ps (suc k) → Upright ps k → Level ps (suc k)
  line_upright_level k l h =
      let p = starts_at_lem k (omega arith) in
      let q = ends_at k (omega arith) in
      let r : point ps (suc (suc k)) ≡ turn c (suc (suc (D.b + k))) = rw add-suc at (ends_at (suc k) l) in
      rw (q, r)
      (upright_level_at c P D.b D.e D.first D.last (D.b + k) (omega arith) (omega (arith, D.kept.size))
      (sym (ap (λ (s : Spot). s.x) p) ∙ h ∙ ap (λ (s : Spot). s.x) q))

  pub line_itself :
      (j k : ℕ) → j < k → IsRun ps k → (s : Spot) → OnRun ps j s → OnRun ps k s → (k ≡ suc j) × (s ≡ point ps k)
  line_itself j k g l s h i =
      let r =
      itself_at c P D.b D.e D.first D.last (D.b + j) (D.b + k) (omega arith) (omega arith)
      (omega (arith, D.kept.size)) s (run_segment j (omega arith) s h) (run_segment k l s i)
      in
      (omega (arith, r.0), r.1 ∙ sym (starts_at_lem k (omega arith)))

  pub line_own_first : (k : ℕ) → IsRun ps k → OnRun ps k c.from → k ≡ 0
  line_own_first k l h =
      omega
      (arith, own_first_at c P D.b D.e D.first D.last (D.b + k) (omega arith) (omega (arith, D.kept.size)) (run_segment k l c.from h))

  pub line_own_last : (k : ℕ) → IsRun ps k → OnRun ps k c.to → suc (suc k) ≡ length ps
  line_own_last k l h =
      omega (
        arith,
        D.kept.size,
        own_last_at c P D.b D.e D.first D.last (D.b + k) (omega arith) (omega (arith, D.kept.size)) (run_segment k l c.to h),
      )
