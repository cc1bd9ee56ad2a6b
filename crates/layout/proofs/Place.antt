-- Where on its line a spot of a cable lies: on a level run, ends included; on its column strictly between its lanes; or on a stub between a
-- lane and the part beyond which it lies. Assumes nothing.
use Prim.Native.Nat.{ℕ, zero, suc, ◌+◌, ◌-◌, ◌<◌, ◌≤◌}
use native.Mathlib.Omega.{arith}
use native.Mathlib.Decide.{dec_lt}
use mathlib.Core.Path.{◌≡◌, refl, sym, ◌∙◌, ap}
use mathlib.Core.Logic.{◌⊎◌, inl, inr}
use mathlib.Core.List.{List}
use Rattle.geometry.specs.Spots.{Spot}
use Rattle.layout.specs.Points.{Course}
use Rattle.geometry.specs.Lines.{IsRun, OnLine, OnLevel, OnUpright, NoPoint}
use Rattle.geometry.proofs.Spots.{spot_path}
use Rattle.layout.proofs.Segments.{Proper, turn, First, Last, Drawn}
use Rattle.layout.proofs.Line.{Horizontal, Segment, starts_at_lem, ends_at, run_segment, segment_run}

pub record Inner (c : Course) (s : Spot) : Type 0 where
  pub column : s.x ≡ c.column
  pub above : c.low < s.y
  pub below : s.y < c.high

pub record Dip (c : Course) (s : Spot) : Type 0 where
  pub beyond : c.low < c.from.y
  pub column : s.x ≡ c.from.x
  pub floor : c.low ≤ s.y
  pub ceiling : s.y ≤ c.from.y

pub record Climb (c : Course) (s : Spot) : Type 0 where
  pub beyond : c.to.y < c.high
  pub column : s.x ≡ c.to.x
  pub floor : c.to.y ≤ s.y
  pub ceiling : s.y ≤ c.high

abbrev pub Low : Course → Spot → Type 0
Low c s = Horizontal c.low c.from.x c.column s

abbrev pub High : Course → Spot → Type 0
High c s = Horizontal c.high c.column c.to.x s

pub data Place (c : Course) (s : Spot) : Type 0 where
  low : Low c s → Place c s
  high : High c s → Place c s
  inner : Inner c s → Place c s
  dip : Dip c s → Place c s
  climb : Climb c s → Place c s

-- what an upright run holds but its ends: the column between the lanes, or a stub
abbrev pub Column : Course → Spot → Type 0
Column c s = Inner c s ⊎ (Dip c s ⊎ Climb c s)

module _ (c : Course) (P : Proper c) (b e : ℕ) (F : First c b) (L : Last c e) where
  place_at : (q : ℕ) → b ≤ q → q < e → (s : Spot) → Segment c q s → Place c s
  place_at zero g l s h =
      dip (record { beyond = F.stub (omega arith); column = h.column; floor = h.floor; ceiling = h.ceiling })
  place_at (suc zero) g l s h = low h
  place_at (suc (suc zero)) g l s h = go (dec_lt c.low s.y) (dec_lt s.y c.high)
    where
      go : Dec (c.low < s.y) → Dec (s.y < c.high) → Place c s
      go (yes u) (yes v) = inner (record { column = h.column; above = u; below = v })
      go (no u) v = low (omega (arith, h.column, h.floor))
      go (yes u) (no v) = high (omega (arith, h.column, h.ceiling))
  place_at (suc (suc (suc zero))) g l s h = high h
  place_at (suc (suc (suc (suc zero)))) g l s h =
      climb (record { beyond = L.stub (omega arith); column = h.column; floor = h.floor; ceiling = h.ceiling })
  place_at (suc (suc (suc (suc (suc q))))) g l s h = absurd (omega (arith, L.small))

  lane_at : (q : ℕ) → b ≤ q → q < e → (s : Spot) → (turn c q).y ≡ (turn c (suc q)).y → Segment c q s → Low c s ⊎ High c s
  lane_at zero g l s f h = absurd (omega (arith, F.stub (omega arith)))
  lane_at (suc zero) g l s f h = inl h
  lane_at (suc (suc zero)) g l s f h = absurd (omega (arith, P.rises, P.low_le, P.high_ge))
  lane_at (suc (suc (suc zero))) g l s f h = inr h
  lane_at (suc (suc (suc (suc zero)))) g l s f h = absurd (omega (arith, L.stub (omega arith)))
  lane_at (suc (suc (suc (suc (suc q))))) g l s f h = absurd (omega (arith, L.small))

  column_at_lem :
      (q : ℕ) → b ≤ q → q < e → (s : Spot) → (turn c q).x ≡ (turn c (suc q)).x → (turn c q ≡ s → ⊥) → (turn c (suc q) ≡ s → ⊥) → Segment c q s
      → Column c s
  column_at_lem zero g l s f u v h =
      inr (inl (record { beyond = F.stub (omega arith); column = h.column; floor = h.floor; ceiling = h.ceiling }))
  column_at_lem (suc zero) g l s f u v h = absurd (F.aside (omega arith) (sym f))
  column_at_lem (suc (suc zero)) g l s f u v h = go (dec_lt c.low s.y) (dec_lt s.y c.high)
    where
      go : Dec (c.low < s.y) → Dec (s.y < c.high) → Column c s
      go (yes m) (yes n) = inl (record { column = h.column; above = m; below = n })
      go (no m) n = absurd (u (spot_path (sym h.column) (omega (arith, h.floor))))
      go (yes m) (no n) = absurd (v (spot_path (sym h.column) (omega (arith, h.ceiling))))
  column_at_lem (suc (suc (suc zero))) g l s f u v h = absurd (L.aside (omega arith) f)
  column_at_lem (suc (suc (suc (suc zero)))) g l s f u v h =
      inr (inr (record { beyond = L.stub (omega arith); column = h.column; floor = h.floor; ceiling = h.ceiling }))
  column_at_lem (suc (suc (suc (suc (suc q))))) g l s f u v h = absurd (omega (arith, L.small))

-- a spot strictly inside a course's column is none of its turns
inner_no_turn : (c : Course) → Proper c → (s : Spot) → Inner c s → (q : ℕ) → turn c q ≡ s → ⊥
inner_no_turn c P s I zero h =
    let y : c.from.y ≡ s.y = ap (λ (p : Spot). p.y) h in
    P.dip (omega (arith, I.above)) (sym I.column ∙ sym (ap (λ (p : Spot). p.x) h))
inner_no_turn c P s I (suc zero) h = omega (arith, I.above, ap (λ (p : Spot). p.y) h)
inner_no_turn c P s I (suc (suc zero)) h = omega (arith, I.above, ap (λ (p : Spot). p.y) h)
inner_no_turn c P s I (suc (suc (suc zero))) h = omega (arith, I.below, ap (λ (p : Spot). p.y) h)
inner_no_turn c P s I (suc (suc (suc (suc zero)))) h = omega (arith, I.below, ap (λ (p : Spot). p.y) h)
inner_no_turn c P s I (suc (suc (suc (suc (suc q))))) h =
    let y : c.to.y ≡ s.y = ap (λ (p : Spot). p.y) h in
    P.climb (omega (arith, I.below)) (sym I.column ∙ sym (ap (λ (p : Spot). p.x) h))

-- nor is one strictly inside the level of its upper lane
high_no_turn :
    (c : Course) → Proper c → (s : Spot) → s.y ≡ c.high → (s.x ≡ c.column → ⊥) → (s.x ≡ c.to.x → ⊥) → (q : ℕ) → turn c q ≡ s → ⊥
high_no_turn c P s r f g zero h = omega (arith, P.rises, P.high_ge, ap (λ (p : Spot). p.y) h)
high_no_turn c P s r f g (suc zero) h = omega (arith, P.rises, P.low_le, P.high_ge, ap (λ (p : Spot). p.y) h)
high_no_turn c P s r f g (suc (suc zero)) h = omega (arith, P.rises, P.low_le, P.high_ge, ap (λ (p : Spot). p.y) h)
high_no_turn c P s r f g (suc (suc (suc zero))) h = f (sym (ap (λ (p : Spot). p.x) h))
high_no_turn c P s r f g (suc (suc (suc (suc zero)))) h = g (sym (ap (λ (p : Spot). p.x) h))
high_no_turn c P s r f g (suc (suc (suc (suc (suc q))))) h = g (sym (ap (λ (p : Spot). p.x) h))

module _ (c : Course) (ps : List Spot) (P : Proper c) (D : Drawn c ps) where
  pub place : (s : Spot) → OnLine ps s → Place c s
  place s (k, l, h) =
      place_at c P D.b D.e D.first D.last (D.b + k) (omega arith) (omega (arith, D.kept.size)) s (run_segment c ps P D k l s h)

  pub level_lane : (s : Spot) → OnLevel ps s → Low c s ⊎ High c s
  level_lane s (k, l, f, h) =
      lane_at c P D.b D.e D.first D.last (D.b + k) (omega arith) (omega (arith, D.kept.size)) s
      (sym (ap (λ (p : Spot). p.y) (starts_at_lem c ps P D k (omega arith))) ∙ f ∙ ap (λ (p : Spot). p.y) (ends_at c ps P D k l))
      (run_segment c ps P D k l s h)

  pub upright_column : (s : Spot) → OnUpright ps s → NoPoint ps s → Column c s
  upright_column s (k, l, f, h) N =
      let p = starts_at_lem c ps P D k (omega arith) in
      let q = ends_at c ps P D k l in
      column_at_lem c P D.b D.e D.first D.last (D.b + k) (omega arith) (omega (arith, D.kept.size)) s
      (sym (ap (λ (r : Spot). r.x) p) ∙ f ∙ ap (λ (r : Spot). r.x) q)
      (λ z. N k (omega arith) (p ∙ z))
      (λ z. N (suc k) l (q ∙ z))
      (run_segment c ps P D k l s h)

  no_point : (s : Spot) → ((q : ℕ) → turn c q ≡ s → ⊥) → NoPoint ps s
  no_point s f k l h = f (D.b + k) (sym (starts_at_lem c ps P D k l) ∙ h)

  pub inner_free : (s : Spot) → Inner c s → NoPoint ps s
  inner_free s I = no_point s (inner_no_turn c P s I)

  pub high_free : (s : Spot) → s.y ≡ c.high → (s.x ≡ c.column → ⊥) → (s.x ≡ c.to.x → ⊥) → NoPoint ps s
  high_free s r f g = no_point s (high_no_turn c P s r f g)

  -- segment q is run q - b
  run_of : (q : ℕ) → D.b ≤ q → q < D.e → (k : ℕ) × IsRun ps k × (D.b + k ≡ q)
  run_of q g l = (q - D.b, omega (arith, D.kept.size), omega arith)

  pub inner_upright : (s : Spot) → Inner c s → OnUpright ps s
  inner_upright s I = go (run_of 2 D.first.small D.last.large)
    where
      go : (k : ℕ) × IsRun ps k × (D.b + k ≡ 2) → OnUpright ps s
      go (k, l, r) = (
        k,
        l,
        rw (starts_at_lem c ps P D k (omega arith), ends_at c ps P D k l, r) refl,
        segment_run c ps P D k l s (rw r (record { column = I.column; floor = omega (arith, I.above); ceiling = omega (arith, I.below) })),
      )

  pub high_level : (s : Spot) → (c.column ≡ c.to.x → ⊥) → High c s → OnLevel ps s
  high_level s f h = go (run_of 3 (omega (arith, D.first.small)) (beyond (dec_lt 3 D.e)))
    where
      beyond : Dec (3 < D.e) → 3 < D.e
      beyond (yes l) = l
      beyond (no l) = absurd (f (D.last.below (omega arith)))

      go : (k : ℕ) × IsRun ps k × (D.b + k ≡ 3) → OnLevel ps s
      go (k, l, r) = (
        k,
        l,
        rw (starts_at_lem c ps P D k (omega arith), ends_at c ps P D k l, r) refl,
        segment_run c ps P D k l s (rw r h),
      )
