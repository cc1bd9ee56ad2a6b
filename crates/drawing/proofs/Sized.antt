-- Whose drawing it is, and its sizes: what the layout shows of the drawing on the grid, under other numbers of the parts, and as it is
-- spaced. Assumes nothing.
use Rattle.std.specs.Prelude.{None}
use Prim.Native.Nat.{ℕ, ◌+◌, ◌*◌, ◌<◌, ◌≤◌, max}
use native.Mathlib.Nat.{mul_comm}
use native.Mathlib.Omega.{arith}
use mathlib.Core.Path.{◌≡◌, refl, sym, ap, subst, ◌∙◌}
use mathlib.Core.Logic.{◌⊎◌}
use mathlib.Core.Bool.{Bool}
use mathlib.Core.List.Memᴰ
use mathlib.Core.List.{List, map, map-map, Memᴰ}
use lib.ListN.{length, get_or, length-map}
use lib.Dec.{ltb}
use borrow.Author.Tests.{ltb-true}
use Rattle.words.specs.Limits.{most_field}
use Rattle.lists.specs.Select.{range, tabulate, count, index_of}
use Rattle.lists.proofs.Select.{get_d_map, get_d_mem}
use Rattle.lists.proofs.Places.{mem-place}
use Rattle.lists.proofs.Tally.{count_places, count_either}
use Rattle.lists.proofs.Maps.{map_tabulate}
use Rattle.lists.proofs.Agree.{tabulate_same}
use Rattle.lists.proofs.Increasing.{increasing_le}
use Rattle.drawing.specs.declared.spacing.Spacing.{Spacing}
use Rattle.geometry.specs.Spots.{Spot, origin}
use Rattle.geometry.specs.Lines.{point}
use Rattle.drawing.specs.Drawing.{Drawing, Route, no_route, spot_of, route_points, route_at, points_at, Meets, renumbered}
use Rattle.drawing.specs.Spacing.{column_at, row_at, spaced_spot, spaced_route, spaced, check14}
use Rattle.drawing.specs.Reading.{Endpoints, no_endpoints}
use Rattle.drawing.specs.Counts.{corner_count, is_corner}
use Rattle.drawing.specs.Sizes.{Sizes, ManyBends, Bends}
use Rattle.drawing.proofs.ReadBack.{SpotFits, DrawingFits}
use Rattle.drawing.proofs.Spaced.{Increases, parts_spaced, routes_spaced, spot_spaced, first_spaced, last_spaced, corners_spaced, points_spaced}
use Rattle.drawing.proofs.Fields.{Within, width_small, height_small, fields_small}
use Rattle.drawing.proofs.Renumbered.{Names, parts_renumbered, routes_renumbered, spot_renumbered, first_renumbered, last_renumbered, corners_renumbered, points_renumbered, corner_count_renumbered}

-- Whose drawing it is

-- a route between the two parts of a cable, whose corners can be counted
pub record RouteJoins (e : Endpoints) (r : Route) : Type 0 where
  pub first_is : r.first ≡ e.first
  pub last_is : r.last ≡ e.last
  pub few : length r.corners ≤ most_field

-- a drawing of n parts and of cables between these ends
pub record Joins (n : ℕ) (ends : List Endpoints) (d : Drawing) : Type 0 where
  pub parts_count : length d.parts ≡ n
  pub routes_count : length d.routes ≡ length ends
  pub routes : (i : ℕ) → i < length ends → RouteJoins (get_or ends i no_endpoints) (route_at d i)

-- where check 14 passes its numbers fit their fields
pub joins_fit : (n : ℕ) (ends : List Endpoints) (d : Drawing) → Joins n ends d → check14 d ≡ None → DrawingFits n ends d
unfolding route_at
joins_fit n ends d J pass = record {
  width_fits = omega (arith, width_small d pass);
  height_fits = omega (arith, height_small d pass);
  parts_count = J.parts_count;
  parts_fit = λ k h. fit ((fields_small d pass).parts (get_or d.parts k origin) (get_d_mem d.parts k origin h));
  routes_count = J.routes_count;
  routes_fit = λ i h.
      let r = J.routes i h in
      let m = get_d_mem d.routes i no_route (omega (arith, J.routes_count)) in
      record {
        first_is = r.first_is;
        last_is = r.last_is;
        few = r.few;
        corners_fit = λ k g. fit ((fields_small d pass).corners _ (get_or (get_or d.routes i no_route).corners k origin) m (get_d_mem (get_or d.routes i no_route).corners k origin g));
      };
}
  where
    fit : {p : Spot} → (p.x ≤ most_field) × (p.y ≤ most_field) → SpotFits p
    fit h = record { x_fits = omega (arith, h.0); y_fits = omega (arith, h.1) }

-- the two parts of a cable under their names
abbrev pub named : List ℕ → Endpoints → Endpoints
named names e = record { first = get_or names e.first 0; last = get_or names e.last 0 }

module _ (names : List ℕ) (d : Drawing) where
  pub joins_renumbered : (n : ℕ) (ends : List Endpoints) → Joins n ends d → Joins n (map (named names) ends) (renumbered names d)
  joins_renumbered n ends J = record {
    parts_count = parts_renumbered names d ∙ J.parts_count;
    routes_count = routes_renumbered names d ∙ J.routes_count ∙ sym (length-map ends (named names));
    routes = λ i h.
        let g : i < length ends = omega (arith, length-map ends (named names)) in
        let b : i < length d.routes = omega (arith, J.routes_count) in
        let e : get_or (map (named names) ends) i no_endpoints ≡ named names (get_or ends i no_endpoints) = get_d_map (named names) ends i no_endpoints no_endpoints g in
        let r = J.routes i g in
        record {
          first_is = first_renumbered names d i b ∙ ap (λ (p : ℕ). get_or names p 0) r.first_is ∙ sym (ap (λ (z : Endpoints). z.first) e);
          last_is = last_renumbered names d i b ∙ ap (λ (p : ℕ). get_or names p 0) r.last_is ∙ sym (ap (λ (z : Endpoints). z.last) e);
          few = omega (arith, ap length (corners_renumbered names d i b), r.few);
        };
  }

pub joins_spaced : (s : Spacing) (n : ℕ) (ends : List Endpoints) (d : Drawing) → Joins n ends d → Joins n ends (spaced s d)
joins_spaced s n ends d J = record {
  parts_count = parts_spaced s d ∙ J.parts_count;
  routes_count = routes_spaced s d ∙ J.routes_count;
  routes = λ i h.
      let b : i < length d.routes = omega (arith, J.routes_count) in
      let r = J.routes i h in
      record {
        first_is = first_spaced s d i b ∙ r.first_is;
        last_is = last_spaced s d i b ∙ r.last_is;
        few = omega (arith, ap length (corners_spaced s d i b), length-map (route_at d i).corners (spaced_spot s), r.few);
      };
}

-- numbered otherwise and then spaced, or the other way round
pub spaced_renumbered :
    (s : Spacing) (names : List ℕ) (d : Drawing) → Names (length d.parts) names → spaced s (renumbered names d) ≡ renumbered names (spaced s d)
unfolding spaced spaced_route renumbered
spaced_renumbered s names d N =
    λ i. record { width = (spaced s d).width; height = (spaced s d).height; parts = spots i; routes = cables i }
  where
    spots : map (spaced_spot s) (tabulate (length d.parts) (λ p. spot_of d (index_of p names))) ≡ tabulate (length (spaced s d).parts) (λ p. spot_of (spaced s d) (index_of p names))
    spots =
        map_tabulate (spaced_spot s) (length d.parts) (λ p. spot_of d (index_of p names))
        ∙ tabulate_same (length d.parts) _ _ (λ p h. sym (spot_spaced s d (index_of p names) (N.inside p h)))
        ∙ ap (λ (n : ℕ). tabulate n (λ p. spot_of (spaced s d) (index_of p names))) (sym (parts_spaced s d))

    cables :
        map (spaced_route s) (map (λ (r : Route). record { first = get_or names r.first 0; last = get_or names r.last 0; corners = r.corners }) d.routes)
        ≡ map (λ (r : Route). record { first = get_or names r.first 0; last = get_or names r.last 0; corners = r.corners }) (map (spaced_route s) d.routes)
    cables = map-map (spaced_route s) _ d.routes ∙ sym (map-map _ (spaced_route s) d.routes)

-- Sizes

-- of the drawing on the grid: its head, and its corners counted
pub record GridSizes (n m : ℕ) (d : Drawing) : Type 0 where
  pub x_most : (i k : ℕ) → i < m → k < length (points_at d i) → (point (points_at d i) k).x ≤ d.width
  pub x_reached : (i : ℕ) × (k : ℕ) × (i < m) × (k < length (points_at d i)) × ((point (points_at d i) k).x ≡ d.width)
  pub y_most : (i k : ℕ) → i < m → k < length (points_at d i) → (point (points_at d i) k).y ≤ d.height
  pub y_reached : (i : ℕ) × (k : ℕ) × (i < m) × (k < length (points_at d i)) × ((point (points_at d i) k).y ≡ d.height)
  pub parts_within : (p : ℕ) → p < n → ((spot_of d p).x ≤ d.width) × ((spot_of d p).y ≤ d.height)
  pub width : d.width + n ≡ m + 1
  pub height : d.height ≤ n + 1
  pub corners : corner_count d.routes + (n + n) ≤ m + m + 4

module _ (names : List ℕ) (d : Drawing) (N : Names (length d.parts) names) (M : Meets d) (n m : ℕ) (parts : length d.parts ≡ n) (routes : length d.routes ≡ m) where
  same : (i : ℕ) → i < m → points_at d i ≡ points_at (renumbered names d) i
  same i h = sym (points_renumbered names d N M i (omega (arith, routes)))

  pub sizes_renumbered : GridSizes n m d → GridSizes n m (renumbered names d)
  unfolding renumbered
  sizes_renumbered S = record {
    x_most = λ i k h. subst (λ (l : List Spot). k < length l → (point l k).x ≤ d.width) (same i h) (S.x_most i k h);
    x_reached =
        let r = S.x_reached in
        let q = subst (λ (l : List Spot). (r.1 < length l) × ((point l r.1).x ≡ d.width)) (same r.0 r.2) (r.3, r.4) in
        (r.0, r.1, r.2, q.0, q.1);
    y_most = λ i k h. subst (λ (l : List Spot). k < length l → (point l k).y ≤ d.height) (same i h) (S.y_most i k h);
    y_reached =
        let r = S.y_reached in
        let q = subst (λ (l : List Spot). (r.1 < length l) × ((point l r.1).y ≡ d.height)) (same r.0 r.2) (r.3, r.4) in
        (r.0, r.1, r.2, q.0, q.1);
    parts_within = λ p h.
        let g : p < length d.parts = omega (arith, parts) in
        subst (λ (s : Spot). (s.x ≤ d.width) × (s.y ≤ d.height)) (sym (spot_renumbered names d p g))
        (S.parts_within (index_of p names) (omega (arith, N.inside p g, parts)));
    width = S.width;
    height = S.height;
    corners = omega (arith, corner_count_renumbered names d, S.corners);
  }

-- on the sheet
module _ (s : Spacing) (I : Increases s) (d : Drawing) (M : Meets d) (n m : ℕ) (parts : length d.parts ≡ n) (routes : length d.routes ≡ m) (S : GridSizes n m d) where
  there : (i : ℕ) → i < m → map (spaced_spot s) (points_at d i) ≡ points_at (spaced s d) i
  there i h = sym (points_spaced s d M i (omega (arith, routes)))

  -- point k of a line, and the one that it becomes
  x_there : (l : List Spot) (k : ℕ) → k < length (map (spaced_spot s) l) → (point (map (spaced_spot s) l) k).x ≡ column_at s (point l k).x
  unfolding point spaced_spot
  x_there l k h = ap (λ (p : Spot). p.x) (get_d_map (spaced_spot s) l k origin origin (omega (arith, length-map l (spaced_spot s))))

  y_there : (l : List Spot) (k : ℕ) → k < length (map (spaced_spot s) l) → (point (map (spaced_spot s) l) k).y ≡ row_at s (point l k).y
  unfolding point spaced_spot
  y_there l k h = ap (λ (p : Spot). p.y) (get_d_map (spaced_spot s) l k origin origin (omega (arith, length-map l (spaced_spot s))))

  width_there : (spaced s d).width ≡ column_at s d.width + s.margin
  unfolding spaced
  width_there = refl

  height_there : (spaced s d).height ≡ row_at s d.height + s.margin
  unfolding spaced
  height_there = refl

  -- twice the margin, and the pitch times the grid's own
  head_width : (spaced s d).width ≡ 2 * s.margin + s.column_pitch * d.width
  unfolding column_at
  head_width = omega (arith, width_there, mul_comm s.column_pitch d.width)

  head_height : (spaced s d).height ≡ 2 * s.margin + s.row_pitch * d.height
  unfolding row_at
  head_height = omega (arith, height_there, mul_comm s.row_pitch d.height)

  x_within : (x : ℕ) → x ≤ d.width → column_at s x + s.margin ≤ (spaced s d).width
  x_within x h = omega (arith, width_there, increasing_le (column_at s) I.columns x d.width h)

  y_within : (y : ℕ) → y ≤ d.height → row_at s y + s.margin ≤ (spaced s d).height
  y_within y h = omega (arith, height_there, increasing_le (row_at s) I.rows y d.height h)

  spot_within : (p : ℕ) → p < n → ((spot_of (spaced s d) p).x + s.margin ≤ (spaced s d).width) × ((spot_of (spaced s d) p).y + s.margin ≤ (spaced s d).height)
  unfolding spaced_spot
  spot_within p h =
      let e = spot_spaced s d p (omega (arith, parts)) in
      let w = S.parts_within p h in
      (omega (arith, ap (λ (z : Spot). z.x) e, x_within _ w.0), omega (arith, ap (λ (z : Spot). z.y) e, y_within _ w.1))

  -- no coordinate exceeds the head
  line_within :
      (i k : ℕ) → i < m → k < length (points_at (spaced s d) i)
      → ((point (points_at (spaced s d) i) k).x + s.margin ≤ (spaced s d).width) × ((point (points_at (spaced s d) i) k).y + s.margin ≤ (spaced s d).height)
  line_within i k h =
      subst (λ (l : List Spot). k < length l → ((point l k).x + s.margin ≤ (spaced s d).width) × ((point l k).y + s.margin ≤ (spaced s d).height)) (there i h) λ g.
      let b : k < length (points_at d i) = omega (arith, length-map (points_at d i) (spaced_spot s)) in
      (omega (arith, x_there (points_at d i) k g, x_within _ (S.x_most i k h b)), omega (arith, y_there (points_at d i) k g, y_within _ (S.y_most i k h b)))

  pub fields_within : Within (spaced s d) (max (spaced s d).width (spaced s d).height)
  unfolding spot_of route_at points_at route_points point
  fields_within = record {
    parts = λ p q.
        let t = mem-place (spaced s d).parts origin q in
        let w = spot_within t.0 (omega (arith, t.1, parts_spaced s d, parts)) in
        (omega (arith, ap (λ (z : Spot). z.x) t.2, w.0), omega (arith, ap (λ (z : Spot). z.y) t.2, w.1));
    corners = λ r p q e.
        let t = mem-place (spaced s d).routes no_route q in
        let c : Memᴰ p (route_at (spaced s d) t.0).corners = subst (λ (z : Route). Memᴰ p z.corners) (sym t.2) e in
        let k = mem-place (points_at (spaced s d) t.0) origin (Memᴰ.tail (Memᴰ.append_left _ c)) in
        let w = line_within t.0 k.0 (omega (arith, t.1, routes_spaced s d, routes)) k.1 in
        (omega (arith, ap (λ (z : Spot). z.x) k.2, w.0), omega (arith, ap (λ (z : Spot). z.y) k.2, w.1));
  }

  pub sizes_spaced : (sheet : List ℕ) → count is_corner sheet ≡ corner_count d.routes → Sizes s n m d (spaced s d) sheet
  sizes_spaced sheet e = record {
    x_most = λ i k h g. (line_within i k h g).0;
    x_reached =
        let r = S.x_reached in
        let g : r.1 < length (map (spaced_spot s) (points_at d r.0)) = omega (arith, r.3, length-map (points_at d r.0) (spaced_spot s)) in
        let q = subst (λ (l : List Spot). (r.1 < length l) × ((point l r.1).x + s.margin ≡ (spaced s d).width)) (there r.0 r.2)
        (g, omega (arith, x_there (points_at d r.0) r.1 g, ap (column_at s) r.4, width_there)) in
        (r.0, r.1, r.2, q.0, q.1);
    y_most = λ i k h g. (line_within i k h g).1;
    y_reached =
        let r = S.y_reached in
        let g : r.1 < length (map (spaced_spot s) (points_at d r.0)) = omega (arith, r.3, length-map (points_at d r.0) (spaced_spot s)) in
        let q = subst (λ (l : List Spot). (r.1 < length l) × ((point l r.1).y + s.margin ≡ (spaced s d).height)) (there r.0 r.2)
        (g, omega (arith, y_there (points_at d r.0) r.1 g, ap (row_at s) r.4, height_there)) in
        (r.0, r.1, r.2, q.0, q.1);
    parts_within = spot_within;
    head_width = head_width;
    head_height = head_height;
    width = S.width;
    height = S.height;
    corners = omega (arith, e, S.corners);
  }

-- the cables with more than two corners, where only two lines can be theirs
pub many_bends_of :
    (m bottom top : ℕ) (d : Drawing) → length d.routes ≡ m
    → ((i : ℕ) → i < m → 2 < length (route_at d i).corners → (i ≡ bottom) ⊎ (i ≡ top)) → ((i : ℕ) → i < m → length (route_at d i).corners ≤ 3)
    → ManyBends m bottom top d
unfolding route_at
many_bends_of m bottom top d routes which most = record { few = few; which = which; most = most }
  where
    many : ℕ → Bool
    many i = ltb 2 (length (get_or d.routes i no_route).corners)

    few : count (λ (r : Route). ltb 2 (length r.corners)) d.routes ≤ 2
    few =
        omega (
          arith,
          count_places (λ (r : Route). ltb 2 (length r.corners)) d.routes no_route,
          ap (λ (k : ℕ). count many (range k)) routes,
          count_either many m bottom top (λ i h e. which i h (ltb-true 2 _ e)),
        )

-- each cable's corners, with other numbers of the parts, and on the sheet
pub many_bends_renumbered :
    (names : List ℕ) (d : Drawing) (m bottom top : ℕ) → length d.routes ≡ m → ManyBends m bottom top d → ManyBends m bottom top (renumbered names d)
many_bends_renumbered names d m bottom top routes B =
    many_bends_of m bottom top (renumbered names d) (routes_renumbered names d ∙ routes)
    (λ i h l. B.which i h (omega (arith, ap length (corners_renumbered names d i (omega (arith, routes))))))
    (λ i h. omega (arith, ap length (corners_renumbered names d i (omega (arith, routes))), B.most i h))

pub many_bends_spaced :
    (s : Spacing) (d : Drawing) (m bottom top : ℕ) → length d.routes ≡ m → ManyBends m bottom top d → ManyBends m bottom top (spaced s d)
many_bends_spaced s d m bottom top routes B =
    many_bends_of m bottom top (spaced s d) (routes_spaced s d ∙ routes)
    (λ i h l. B.which i h (omega (arith, ap length (corners_spaced s d i (omega (arith, routes))), length-map (route_at d i).corners (spaced_spot s))))
    (λ i h. omega (arith, ap length (corners_spaced s d i (omega (arith, routes))), length-map (route_at d i).corners (spaced_spot s), B.most i h))

pub bends_renumbered : (names : List ℕ) (d : Drawing) (m : ℕ) → length d.routes ≡ m → Bends m d → Bends m (renumbered names d)
bends_renumbered names d m routes B = record { most = λ i h. omega (arith, ap length (corners_renumbered names d i (omega (arith, routes))), B.most i h) }

pub bends_spaced : (s : Spacing) (d : Drawing) (m : ℕ) → length d.routes ≡ m → Bends m d → Bends m (spaced s d)
bends_spaced s d m routes B = record {
  most = λ i h. omega (arith, ap length (corners_spaced s d i (omega (arith, routes))), length-map (route_at d i).corners (spaced_spot s), B.most i h);
}
