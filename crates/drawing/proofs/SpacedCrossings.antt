-- Lines cross on a spaced sheet where they cross on the grid: the test says the same, and so does the count. Assumes nothing.
use Prim.Native.Nat.{ℕ, suc, ◌-◌, ◌<◌}
use native.Mathlib.Omega.{arith}
use mathlib.Core.Path.{◌≡◌, ap, ap₂, ◌∙◌}
use mathlib.Core.Bool.{Bool, not, ◌&&◌, ◌||◌}
use mathlib.Core.List.{List, map}
use lib.ListN.{length, length-map}
use lib.Dec.{eqb, leb}
use Rattle.lists.specs.Select.{any, range}
use Rattle.lists.proofs.Select.{get_d_map, range_e}
use Rattle.lists.proofs.Filters.{any_same}
use Rattle.lists.proofs.Maps.{any_map}
use Rattle.lists.proofs.Increasing.{eqb_kept, leb_kept, min_kept, max_kept}
use Rattle.drawing.specs.declared.spacing.Spacing.{Spacing}
use Rattle.geometry.specs.Spots.{Spot, same_spot, origin}
use Rattle.geometry.specs.Lines.{point, IsRun}
use Rattle.geometry.specs.Crossing.{between, meeting_spot, runs_cross, crosses_over, lines_cross}
use Rattle.drawing.specs.Drawing.{Route, Drawing, Meets, cross_pair, crossings}
use Rattle.drawing.specs.Spacing.{column_at, row_at, spaced_spot, spaced_route, spaced}
use Rattle.geometry.proofs.Spots.{spot_path}
use Rattle.drawing.proofs.Inside.{Inside, ends_inside}
use Rattle.drawing.proofs.Pairs.{pairs_same}
use Rattle.drawing.proofs.Spaced.{Increases, route_points_lem}

both : {a b c d : Bool} → a ≡ c → b ≡ d → (a && b) ≡ (c && d)
both e f = ap₂ (λ (x y : Bool). x && y) e f

module _ (s : Spacing) (I : Increases s) where
  -- Spots

  pub same_kept : (p q : Spot) → same_spot (spaced_spot s p) (spaced_spot s q) ≡ same_spot p q
  unfolding same_spot spaced_spot
  same_kept p q = both (eqb_kept (column_at s) I.columns p.x q.x) (eqb_kept (row_at s) I.rows p.y q.y)

  column_same : (p q : Spot) → eqb (spaced_spot s p).x (spaced_spot s q).x ≡ eqb p.x q.x
  unfolding spaced_spot
  column_same p q = eqb_kept (column_at s) I.columns p.x q.x

  row_same : (p q : Spot) → eqb (spaced_spot s p).y (spaced_spot s q).y ≡ eqb p.y q.y
  unfolding spaced_spot
  row_same p q = eqb_kept (row_at s) I.rows p.y q.y

  between_kept : (p q r : Spot) → between (spaced_spot s p) (spaced_spot s q) (spaced_spot s r) ≡ between p q r
  unfolding between spaced_spot
  between_kept p q r =
      both
      (both
      (both
      (ap (λ (z : ℕ). leb z (column_at s r.x)) (min_kept (column_at s) I.columns p.x q.x) ∙ leb_kept (column_at s) I.columns _ r.x)
      (ap (leb (column_at s r.x)) (max_kept (column_at s) I.columns p.x q.x) ∙ leb_kept (column_at s) I.columns r.x _))
      (ap (λ (z : ℕ). leb z (row_at s r.y)) (min_kept (row_at s) I.rows p.y q.y) ∙ leb_kept (row_at s) I.rows _ r.y))
      (ap (leb (row_at s r.y)) (max_kept (row_at s) I.rows p.y q.y) ∙ leb_kept (row_at s) I.rows r.y _)

  free_kept : (p : Spot) (l : List Spot) → any (same_spot (spaced_spot s p)) (map (spaced_spot s) l) ≡ any (same_spot p) l
  free_kept p l = any_map (same_spot (spaced_spot s p)) (spaced_spot s) l ∙ any_same _ _ l (λ q m. same_kept p q)

  point_spaced : (ps : List Spot) (k : ℕ) → k < length ps → point (map (spaced_spot s) ps) k ≡ spaced_spot s (point ps k)
  unfolding point
  point_spaced ps k h = get_d_map (spaced_spot s) ps k origin origin h

  -- Runs

  module _ (ps qs : List Spot) where
    abbrev there : List Spot → List Spot
    there l = map (spaced_spot s) l

    module _ (k l : ℕ) (g : IsRun ps k) (h : IsRun qs l) where
      a : point (there ps) k ≡ spaced_spot s (point ps k)
      a = point_spaced ps k (omega (arith, g))

      b : point (there ps) (suc k) ≡ spaced_spot s (point ps (suc k))
      b = point_spaced ps (suc k) g

      c : point (there qs) l ≡ spaced_spot s (point qs l)
      c = point_spaced qs l (omega (arith, h))

      d : point (there qs) (suc l) ≡ spaced_spot s (point qs (suc l))
      d = point_spaced qs (suc l) h

      meeting_spaced : meeting_spot (there ps) k (there qs) l ≡ spaced_spot s (meeting_spot ps k qs l)
      unfolding meeting_spot spaced_spot
      meeting_spaced = spot_path (ap (λ (p : Spot). p.x) c) (ap (λ (p : Spot). p.y) a)

      between_spaced : (p q p' q' : Spot) → p' ≡ spaced_spot s p → q' ≡ spaced_spot s q
          → between p' q' (meeting_spot (there ps) k (there qs) l) ≡ between p q (meeting_spot ps k qs l)
      between_spaced p q p' q' e f = rw (e, f, meeting_spaced) (between_kept p q (meeting_spot ps k qs l))

      free_spaced : (r : List Spot) → not (any (same_spot (meeting_spot (there ps) k (there qs) l)) (there r)) ≡ not (any (same_spot (meeting_spot ps k qs l)) r)
      free_spaced r = ap not (ap (λ (m : Spot). any (same_spot m) (there r)) meeting_spaced ∙ free_kept (meeting_spot ps k qs l) r)

      runs_kept : runs_cross (there ps) k (there qs) l ≡ runs_cross ps k qs l
      unfolding runs_cross
      runs_kept =
          both
          (both
          (both
          (both
          (both (ap₂ (λ (p q : Spot). eqb p.y q.y) a b ∙ row_same _ _) (ap₂ (λ (p q : Spot). eqb p.x q.x) c d ∙ column_same _ _))
          (between_spaced _ _ _ _ a b))
          (between_spaced _ _ _ _ c d))
          (free_spaced ps))
          (free_spaced qs)

    crosses_over_kept : crosses_over (there ps) (there qs) ≡ crosses_over ps qs
    unfolding crosses_over
    crosses_over_kept =
        rw (length-map ps (spaced_spot s), length-map qs (spaced_spot s))
        (any_same _ _ (range (length ps - 1)) λ k m.
        any_same _ _ (range (length qs - 1)) λ l n.
        runs_kept k l (omega (arith, range_e (length ps - 1) m)) (omega (arith, range_e (length qs - 1) n)))

  -- any two lists of points
  lines_cross_kept : (ps qs : List Spot) → lines_cross (map (spaced_spot s) ps) (map (spaced_spot s) qs) ≡ lines_cross ps qs
  unfolding lines_cross
  lines_cross_kept ps qs = ap₂ (λ (x y : Bool). x || y) (crosses_over_kept ps qs) (crosses_over_kept qs ps)

  -- Drawings

  module _ (d : Drawing) where
    pair_kept :
        (r q : Route) → Inside (length d.parts) r → Inside (length d.parts) q
        → cross_pair (spaced s d) (spaced_route s r) (spaced_route s q) ≡ cross_pair d r q
    unfolding cross_pair
    pair_kept r q J K = ap₂ lines_cross (route_points_lem s d r J) (route_points_lem s d q K) ∙ lines_cross_kept _ _

    pub crossings_spaced : Meets d → crossings (spaced s d) ≡ crossings d
    unfolding crossings spaced
    crossings_spaced M = pairs_same d (spaced s d) (spaced_route s) (Inside (length d.parts)) pair_kept d.routes (ends_inside d M)
