-- The meeting theorem: from the facts of a layout, all that demand 3 says of how cables and parts meet. Assumes nothing.
use Prim.Native.Nat.{ℕ, ◌-◌, ◌<◌, ◌≤◌, min, max}
use native.Mathlib.Omega.{arith}
use native.Mathlib.Decide.{ℕ_discrete, dec_lt}
use mathlib.Core.Path.{◌≡◌, refl, sym, ◌∙◌, ap, subst}
use mathlib.Core.Logic.{◌⊎◌, inl, inr}
use mathlib.Core.List.{List}
use lib.ListN.{length}
use Rattle.order.specs.Graph.{StGraph, size, lower, upper}
use Rattle.geometry.specs.Spots.{Spot}
use Rattle.layout.specs.Points.{Course, points_of}
use Rattle.geometry.specs.Lines.{NoPoint, CrossesOver, CrossingAt, Meetings}
use Rattle.layout.proofs.Facts.{Facts}
use Rattle.geometry.proofs.Spots.{spot_path}
use Rattle.layout.proofs.Segments.{Proper, Drawn, drawn}
use Rattle.layout.proofs.Line.{line_starts, line_ends, line_two, line_differ, line_straight, line_level_upright, line_upright_level, line_itself, line_own_first, line_own_last}
use Rattle.layout.proofs.Place.{Low, High, Inner, Dip, Climb, Place, low, high, inner, dip, climb, Column, place, level_lane, upright_column, inner_free, high_free, inner_upright, high_level}

-- The level of c in its upper lane goes over the column of d: the lane is strictly between d's lanes, d's column strictly between the
-- level's ends.
pub record Over (c d : Course) : Type 0 where
  pub low : d.low < c.high
  pub high : c.high < d.high
  pub left : min c.column c.to.x < d.column
  pub right : d.column < max c.column c.to.x

-- where it does
abbrev pub over_spot : Course → Course → Spot
over_spot c d = record { x = d.column; y = c.high }

pub over_crosses : (c d : Course) → Proper c → Proper d → Over c d → CrossesOver (points_of c) (points_of d) (over_spot c d)
over_crosses c d P Q O =
    let s = over_spot c d in
    let I : Inner d s = record { column = refl; above = O.low; below = O.high } in
    record {
      level =
          high_level c (points_of c) P (drawn c P) s (λ e. omega (arith, O.left, O.right))
          (record { row = refl; left = omega (arith, O.left); right = omega (arith, O.right) });
      upright = inner_upright d (points_of d) Q (drawn d Q) s I;
      free_first = high_free c (points_of c) P (drawn c P) s refl (λ e. omega (arith, O.left, O.right)) (λ e. omega (arith, O.left, O.right));
      free_second = inner_free d (points_of d) Q (drawn d Q) s I;
    }

module _ (G : StGraph) (x lo hi col row : ℕ → ℕ) where
  abbrev pub spot_at : ℕ → Spot
  spot_at k = record { x = col k; y = row k }

  abbrev pub course_at : ℕ → Course
  course_at i = record { from = spot_at (lower G i); low = lo i; column = x i; high = hi i; to = spot_at (upper G i) }

  abbrev pub polyline : ℕ → List Spot
  polyline i = points_of (course_at i)

  -- s is the spot of a part that both join
  abbrev pub Common : ℕ → ℕ → Spot → Type 0
  Common i j s = (k : ℕ) × ((k ≡ lower G i) ⊎ (k ≡ upper G i)) × ((k ≡ lower G j) ⊎ (k ≡ upper G j)) × (spot_at k ≡ s)

  flip : (i j : ℕ) (s : Spot) → Common i j s → Common j i s
  flip i j s (k, a, b, e) = (k, b, a, e)

  module _ (F : Facts G x lo hi col row) where
    lower_inside : (i : ℕ) → i < size G → lower G i < G.parts
    lower_inside i l = omega (arith, F.rises i l, F.inside i l)

    rows_rise : (i : ℕ) → i < size G → row (lower G i) < row (upper G i)
    rows_rise i l = F.rows (lower G i) (upper G i) (F.rises i l) (F.inside i l)

    pub proper : (i : ℕ) → i < size G → Proper (course_at i)
    proper i l =
        record {
          rises = rows_rise i l;
          low_le = F.lo_le i l;
          high_ge = F.hi_ge i l;
          dip = λ d e. F.passes i (lower G i) l (lower_inside i l) d (omega (arith, rows_rise i l, F.hi_ge i l)) e;
          climb = λ d e. F.passes i (upper G i) l (F.inside i l) (omega (arith, rows_rise i l, F.lo_le i l)) d e;
        }

    lanes_rise : (i : ℕ) → i < size G → lo i < hi i
    lanes_rise i l = omega (arith, rows_rise i l, F.lo_le i l, F.hi_ge i l)

    -- parts by their rows
    rank_le : (j k : ℕ) → j < G.parts → row j ≤ row k → j ≤ k
    rank_le j k g h = go (dec_lt k j)
      where
        go : Dec (k < j) → j ≤ k
        go (yes l) = absurd (omega (arith, F.rows k j l g))
        go (no l) = omega arith

    same_rank : (j k : ℕ) → j < G.parts → k < G.parts → row j ≡ row k → j ≡ k
    same_rank j k g h e = omega (arith, rank_le j k g (omega arith), rank_le k j h (omega arith))

    row_le : (j k : ℕ) → j ≤ k → k < G.parts → row j ≤ row k
    row_le j k g h = go (ℕ_discrete j k)
      where
        go : Dec (j ≡ k) → row j ≤ row k
        go (yes e) = omega (arith, ap row e)
        go (no e) = omega (arith, F.rows j k (omega arith) h)

    -- where one cable dips or climbs, every other's lane is in its part's row
    other_low : (i j : ℕ) → i < size G → j < size G → (i ≡ j → ⊥) → lo i < row (lower G i) → lo j ≡ row (lower G j)
    other_low i j g h f d = go (dec_lt (lo j) (row (lower G j)))
      where
        go : Dec (lo j < row (lower G j)) → lo j ≡ row (lower G j)
        go (yes e) = absurd (f (F.one_dip i j g h d e))
        go (no e) = omega (arith, F.lo_le j h)

    other_high : (i j : ℕ) → i < size G → j < size G → (i ≡ j → ⊥) → row (upper G i) < hi i → hi j ≡ row (upper G j)
    other_high i j g h f d = go (dec_lt (row (upper G j)) (hi j))
      where
        go : Dec (row (upper G j) < hi j) → hi j ≡ row (upper G j)
        go (yes e) = absurd (f (F.one_climb i j g h d e))
        go (no e) = omega (arith, F.hi_ge j h)

    -- a lane that is not below, or not above, every other is in its part's row
    low_row : (i j : ℕ) → i < size G → j < size G → (i ≡ j → ⊥) → lo j ≤ lo i → lo i ≡ row (lower G i)
    low_row i j g h f l = go (dec_lt (lo i) (row (lower G i)))
      where
        go : Dec (lo i < row (lower G i)) → lo i ≡ row (lower G i)
        go (no d) = omega (arith, F.lo_le i g)
        go (yes d) =
            let z = row_le (lower G i) (lower G j) (omega (arith, F.dip i g d)) (lower_inside j h) in
            absurd (omega (arith, other_low i j g h f d))

    high_row : (i j : ℕ) → i < size G → j < size G → (i ≡ j → ⊥) → hi i ≤ hi j → hi i ≡ row (upper G i)
    high_row i j g h f l = go (dec_lt (row (upper G i)) (hi i))
      where
        go : Dec (row (upper G i) < hi i) → hi i ≡ row (upper G i)
        go (no d) = omega (arith, F.hi_ge i g)
        go (yes d) =
            let z = row_le (upper G j) (upper G i) (omega (arith, F.climb i g d, F.inside j h)) (F.inside i g) in
            absurd (omega (arith, other_high i j g h f d))

    -- two levels in a rank's row are on its two sides
    beside :
        (i j k : ℕ) → i < size G → j < size G → k < G.parts → (i ≡ j → ⊥) → (lo i ≡ row k) ⊎ (hi i ≡ row k) → (lo j ≡ row k) ⊎ (hi j ≡ row k) → (s : ℕ)
        → (s < col k → x i < col k) → (s < col k → x j < col k) → (col k < s → col k < x i) → (col k < s → col k < x j)
        → s ≡ col k
    beside i j k g h l f a b s p q r t = go (dec_lt s (col k)) (dec_lt (col k) s)
      where
        go : Dec (s < col k) → Dec (col k < s) → s ≡ col k
        go (yes u) v = absurd (F.left i j k g h l f a b (p u) (q u))
        go (no u) (yes v) = absurd (F.right i j k g h l f a b (r v) (t v))
        go (no u) (no v) = omega arith

    module _ (i j : ℕ) (g : i < size G) (h : j < size G) (f : i ≡ j → ⊥) (s : Spot) where
      low_low : Low (course_at i) s → Low (course_at j) s → Common i j s
      low_low u v =
          let a = low_row i j g h f (omega (arith, u.row, v.row)) in
          let b = low_row j i h g (λ e. f (sym e)) (omega (arith, u.row, v.row)) in
          let e : lower G j ≡ lower G i = same_rank (lower G j) (lower G i) (lower_inside j h) (lower_inside i g) (omega (arith, u.row, v.row)) in
          let c = ap col e in
          let w = beside i j (lower G i) g h (lower_inside i g) f (inl a) (inl (b ∙ ap row e)) s.x (omega arith) (omega arith) (omega arith) (omega arith) in
          (lower G i, inl refl, inl (sym e), spot_path (sym w) (omega (arith, u.row)))

      low_high : Low (course_at i) s → High (course_at j) s → Common i j s
      low_high u v =
          let a = low_row i j g h f (omega (arith, u.row, v.row, lanes_rise j h)) in
          let b = high_row j i h g (λ e. f (sym e)) (omega (arith, u.row, v.row, lanes_rise i g)) in
          let e : upper G j ≡ lower G i = same_rank (upper G j) (lower G i) (F.inside j h) (lower_inside i g) (omega (arith, u.row, v.row)) in
          let c = ap col e in
          let w = beside i j (lower G i) g h (lower_inside i g) f (inl a) (inr (b ∙ ap row e)) s.x (omega arith) (omega arith) (omega arith) (omega arith) in
          (lower G i, inl refl, inr (sym e), spot_path (sym w) (omega (arith, u.row)))

      high_high : High (course_at i) s → High (course_at j) s → Common i j s
      high_high u v =
          let a = high_row i j g h f (omega (arith, u.row, v.row)) in
          let b = high_row j i h g (λ e. f (sym e)) (omega (arith, u.row, v.row)) in
          let e : upper G j ≡ upper G i = same_rank (upper G j) (upper G i) (F.inside j h) (F.inside i g) (omega (arith, u.row, v.row)) in
          let c = ap col e in
          let w = beside i j (upper G i) g h (F.inside i g) f (inr a) (inr (b ∙ ap row e)) s.x (omega arith) (omega arith) (omega arith) (omega arith) in
          (upper G i, inr refl, inr (sym e), spot_path (sym w) (omega (arith, u.row)))

      inner_inner : Inner (course_at i) s → Inner (course_at j) s → ⊥
      inner_inner u v =
          F.lanes i j g h f (omega (arith, u.above, v.below)) (omega (arith, v.above, u.below)) (sym u.column ∙ v.column)

      low_inner : Low (course_at i) s → Inner (course_at j) s → ⊥
      low_inner u v = go (ℕ_discrete (x i) (x j)) (ℕ_discrete (x j) (col (lower G i))) (dec_lt (x i) (x j))
        where
          a : lo i ≡ row (lower G i)
          a = low_row i j g h f (omega (arith, u.row, v.above))

          over : lo j < row (lower G i)
          over = omega (arith, a, u.row, v.above)

          under : row (lower G i) < hi j
          under = omega (arith, a, u.row, v.below)

          go : Dec (x i ≡ x j) → Dec (x j ≡ col (lower G i)) → Dec (x i < x j) → ⊥
          go (yes e) q r = F.lanes i j g h f (omega (arith, u.row, v.below)) (omega (arith, u.row, v.above, lanes_rise i g)) e
          go (no e) (yes q) r = F.passes j (lower G i) h (lower_inside i g) over under q
          go (no e) (no q) (yes r) = F.free_left i j (lower G i) g h (lower_inside i g) f a over under r (omega (arith, u.right, v.column))
          go (no e) (no q) (no r) =
              F.free_right i j (lower G i) g h (lower_inside i g) f a over under (omega (arith, u.left, v.column)) (omega arith)

      high_inner : High (course_at i) s → Inner (course_at j) s → Over (course_at i) (course_at j)
      high_inner u v =
          let a = high_row i j g h f (omega (arith, u.row, v.below)) in
          let p : x i ≡ x j → ⊥ =
          F.lanes i j g h f (omega (arith, u.row, v.below, lanes_rise i g)) (omega (arith, u.row, v.above))
          in
          let q : x j ≡ col (upper G i) → ⊥ =
          F.passes j (upper G i) h (F.inside i g) (omega (arith, u.row, v.above)) (omega (arith, u.row, v.below))
          in
          record {
            low = omega (arith, u.row, v.above);
            high = omega (arith, u.row, v.below);
            left = omega (arith, u.left, v.column);
            right = omega (arith, u.right, v.column);
          }

      dip_any : Dip (course_at i) s → lo j ≤ s.y → Common i j s
      dip_any u v =
          let z = F.dip i g u.beyond in
          let a = other_low i j g h f u.beyond in
          let e : lower G j ≡ lower G i = omega (arith, rank_le (lower G j) (lower G i) (lower_inside j h) (omega (arith, u.ceiling))) in
          (lower G i, inl refl, inl (sym e), spot_path (sym u.column) (omega (arith, ap row e, u.ceiling)))

      climb_any : Climb (course_at i) s → s.y ≤ hi j → Common i j s
      climb_any u v =
          let z = F.climb i g u.beyond in
          let a = other_high i j g h f u.beyond in
          let e : upper G j ≡ upper G i = omega (arith, F.inside j h, rank_le (upper G i) (upper G j) (F.inside i g) (omega (arith, u.floor))) in
          (upper G i, inr refl, inr (sym e), spot_path (sym u.column) (omega (arith, ap row e, u.floor)))

    line : (i : ℕ) (l : i < size G) → Drawn (course_at i) (polyline i)
    line i l = drawn (course_at i) (proper i l)

    -- a part's spot is a point of the cables that join it
    no_common : (i j : ℕ) → i < size G → (s : Spot) → NoPoint (polyline i) s → Common i j s → ⊥
    no_common i j l s N (k, inl e, b, r) =
        N 0 (omega (arith, line_two (course_at i) (polyline i) (proper i l) (line i l)))
        (line_starts (course_at i) (polyline i) (proper i l) (line i l) ∙ ap spot_at (sym e) ∙ r)
    no_common i j l s N (k, inr e, b, r) =
        let t = line_two (course_at i) (polyline i) (proper i l) (line i l) in
        N (length (polyline i) - 1) (omega arith)
        (line_ends (course_at i) (polyline i) (proper i l) (line i l) (length (polyline i) - 1) (omega arith) ∙ ap spot_at (sym e) ∙ r)

    place_low : (i : ℕ) → i < size G → (s : Spot) → Place (course_at i) s → lo i ≤ s.y
    place_low i l s (low h) = omega (arith, h.row)
    place_low i l s (high h) = omega (arith, h.row, lanes_rise i l)
    place_low i l s (inner h) = omega (arith, h.above)
    place_low i l s (dip h) = h.floor
    place_low i l s (climb h) = omega (arith, h.floor, rows_rise i l, F.lo_le i l)

    place_high : (i : ℕ) → i < size G → (s : Spot) → Place (course_at i) s → s.y ≤ hi i
    place_high i l s (low h) = omega (arith, h.row, lanes_rise i l)
    place_high i l s (high h) = omega (arith, h.row)
    place_high i l s (inner h) = omega (arith, h.below)
    place_high i l s (dip h) = omega (arith, h.ceiling, rows_rise i l, F.hi_ge i l)
    place_high i l s (climb h) = h.ceiling

    module _ (i j : ℕ) (g : i < size G) (h : j < size G) (f : i ≡ j → ⊥) (s : Spot) where
      f' : j ≡ i → ⊥
      f' e = f (sym e)

      -- a crossing is the upper level of one over the column of the other
      pub crosses_over_lem : CrossesOver (polyline i) (polyline j) s → Over (course_at i) (course_at j) × (s ≡ over_spot (course_at i) (course_at j))
      crosses_over_lem X =
          go (level_lane (course_at i) (polyline i) (proper i g) (line i g) s X.level)
          (upright_column (course_at j) (polyline j) (proper j h) (line j h) s X.upright X.free_second)
        where
          go :
              Low (course_at i) s ⊎ High (course_at i) s → Column (course_at j) s
              → Over (course_at i) (course_at j) × (s ≡ over_spot (course_at i) (course_at j))
          go (inl u) (inl v) = absurd (low_inner i j g h f s u v)
          go (inr u) (inl v) = (high_inner i j g h f s u v, spot_path v.column u.row)
          go (inl u) (inr (inl v)) = absurd (no_common i j g s X.free_first (flip j i s (dip_any j i h g f' s v (place_low i g s (low u)))))
          go (inr u) (inr (inl v)) = absurd (no_common i j g s X.free_first (flip j i s (dip_any j i h g f' s v (place_low i g s (high u)))))
          go (inl u) (inr (inr v)) = absurd (no_common i j g s X.free_first (flip j i s (climb_any j i h g f' s v (place_high i g s (low u)))))
          go (inr u) (inr (inr v)) = absurd (no_common i j g s X.free_first (flip j i s (climb_any j i h g f' s v (place_high i g s (high u)))))

    -- the upper level of one over the column of the other is a crossing
    over_at :
        (i j : ℕ) → i < size G → j < size G → (i ≡ j → ⊥) → (s : Spot) → High (course_at i) s → Inner (course_at j) s → CrossesOver (polyline i) (polyline j) s
    over_at i j g h f s u v =
        subst (CrossesOver (polyline i) (polyline j)) (spot_path (sym v.column) (sym u.row))
        (over_crosses (course_at i) (course_at j) (proper i g) (proper j h) (high_inner i j g h f s u v))

    -- a spot on both lines is a crossing, or a common part's
    met :
        (i j : ℕ) → i < size G → j < size G → (i ≡ j → ⊥) → (j ≡ i → ⊥) → (s : Spot) → Place (course_at i) s → Place (course_at j) s
        → CrossingAt (polyline i) (polyline j) s ⊎ Common i j s
    met i j g h f f' s (dip u) q = inr (dip_any i j g h f s u (place_low j h s q))
    met i j g h f f' s (climb u) q = inr (climb_any i j g h f s u (place_high j h s q))
    met i j g h f f' s (low u) (dip v) = inr (flip j i s (dip_any j i h g f' s v (place_low i g s (low u))))
    met i j g h f f' s (low u) (climb v) = inr (flip j i s (climb_any j i h g f' s v (place_high i g s (low u))))
    met i j g h f f' s (low u) (low v) = inr (low_low i j g h f s u v)
    met i j g h f f' s (low u) (high v) = inr (low_high i j g h f s u v)
    met i j g h f f' s (low u) (inner v) = absurd (low_inner i j g h f s u v)
    met i j g h f f' s (high u) (dip v) = inr (flip j i s (dip_any j i h g f' s v (place_low i g s (high u))))
    met i j g h f f' s (high u) (climb v) = inr (flip j i s (climb_any j i h g f' s v (place_high i g s (high u))))
    met i j g h f f' s (high u) (low v) = inr (flip j i s (low_high j i h g f' s v u))
    met i j g h f f' s (high u) (high v) = inr (high_high i j g h f s u v)
    met i j g h f f' s (high u) (inner v) = inl (inl (over_at i j g h f s u v))
    met i j g h f f' s (inner u) (dip v) = inr (flip j i s (dip_any j i h g f' s v (place_low i g s (inner u))))
    met i j g h f f' s (inner u) (climb v) = inr (flip j i s (climb_any j i h g f' s v (place_high i g s (inner u))))
    met i j g h f f' s (inner u) (low v) = absurd (low_inner j i h g f' s v u)
    met i j g h f f' s (inner u) (high v) = inl (inr (over_at j i h g f' s v u))
    met i j g h f f' s (inner u) (inner v) = absurd (inner_inner i j g h f s u v)

    one_way : (i j : ℕ) → Over (course_at i) (course_at j) → Over (course_at j) (course_at i) → ⊥
    one_way i j o p = omega (arith, o.high, p.high)

    once :
        (i j : ℕ) → i < size G → j < size G → (i ≡ j → ⊥) → (s r : Spot) → CrossingAt (polyline i) (polyline j) s → CrossingAt (polyline i) (polyline j) r → s ≡ r
    once i j g h f s r (inl p) (inl q) = (crosses_over_lem i j g h f s p).1 ∙ sym (crosses_over_lem i j g h f r q).1
    once i j g h f s r (inl p) (inr q) =
        absurd (one_way i j (crosses_over_lem i j g h f s p).0 (crosses_over_lem j i h g (λ e. f (sym e)) r q).0)
    once i j g h f s r (inr p) (inl q) =
        absurd (one_way i j (crosses_over_lem i j g h f r q).0 (crosses_over_lem j i h g (λ e. f (sym e)) s p).0)
    once i j g h f s r (inr p) (inr q) =
        (crosses_over_lem j i h g (λ e. f (sym e)) s p).1 ∙ sym (crosses_over_lem j i h g (λ e. f (sym e)) r q).1

    others_at : (i p : ℕ) → i < size G → p < G.parts → Place (course_at i) (spot_at p) → (p ≡ lower G i) ⊎ (p ≡ upper G i)
    others_at i p l q (low u) = go (dec_lt (lo i) (row (lower G i)))
      where
        go : Dec (lo i < row (lower G i)) → (p ≡ lower G i) ⊎ (p ≡ upper G i)
        go (yes d) = absurd (omega (arith, u.row, row_le (lower G i) p (omega (arith, F.dip i l d)) q))
        go (no d) = inl (same_rank p (lower G i) q (lower_inside i l) (omega (arith, u.row, F.lo_le i l)))
    others_at i p l q (high u) = go (dec_lt (row (upper G i)) (hi i))
      where
        go : Dec (row (upper G i) < hi i) → (p ≡ lower G i) ⊎ (p ≡ upper G i)
        go (yes d) = absurd (omega (arith, u.row, row_le p (upper G i) (omega (arith, F.climb i l d)) (F.inside i l)))
        go (no d) = inr (same_rank p (upper G i) q (F.inside i l) (omega (arith, u.row, F.hi_ge i l)))
    others_at i p l q (inner u) = absurd (F.passes i p l q u.above u.below (sym u.column))
    others_at i p l q (dip u) =
        inl (omega (arith, F.dip i l u.beyond, rank_le p (lower G i) q u.ceiling))
    others_at i p l q (climb u) =
        inr (omega (arith, F.climb i l u.beyond, rank_le (upper G i) p (F.inside i l) u.floor))

-- the meeting theorem
pub meetings :
    (G : StGraph) (x lo hi col row : ℕ → ℕ) → Facts G x lo hi col row
    → Meetings G.parts (size G) (λ k. record { x = col k; y = row k }) (lower G) (upper G) (polyline G x lo hi col row)
meetings G x lo hi col row F =
    record {
      alone = λ i l. record {
        starts = line_starts (C i) (points_of (C i)) (P i l) (D i l);
        ends = line_ends (C i) (points_of (C i)) (P i l) (D i l);
        two = line_two (C i) (points_of (C i)) (P i l) (D i l);
        parts = (omega (arith, F.rises i l, F.inside i l), F.inside i l, omega (arith, F.rises i l));
        differ = line_differ (C i) (points_of (C i)) (P i l) (D i l);
        straight = line_straight (C i) (points_of (C i)) (P i l) (D i l);
        level_upright = line_level_upright (C i) (points_of (C i)) (P i l) (D i l);
        upright_level = line_upright_level (C i) (points_of (C i)) (P i l) (D i l);
        itself = line_itself (C i) (points_of (C i)) (P i l) (D i l);
        others = λ p q z.
            others_at G x lo hi col row F i p l q (place (C i) (points_of (C i)) (P i l) (D i l) (record { x = col p; y = row p }) z);
        own_first = line_own_first (C i) (points_of (C i)) (P i l) (D i l);
        own_last = line_own_last (C i) (points_of (C i)) (P i l) (D i l);
      };
      together = λ i j g h f. record {
        once = once G x lo hi col row F i j g h f;
        shared = λ s p q.
            met G x lo hi col row F i j g h f (λ e. f (sym e)) s
            (place (C i) (points_of (C i)) (P i g) (D i g) s p)
            (place (C j) (points_of (C j)) (P j h) (D j h) s q);
      };
      apart = λ p q g h e. same_rank G x lo hi col row F p q g h (ap (λ (s : Spot). s.y) e);
    }
  where
    C : ℕ → Course
    C = course_at G x lo hi col row

    P : (i : ℕ) → i < size G → Proper (course_at G x lo hi col row i)
    P = proper G x lo hi col row F

    D : (i : ℕ) → i < size G → Drawn (course_at G x lo hi col row i) (polyline G x lo hi col row i)
    D i l = drawn (course_at G x lo hi col row i) (P i l)
