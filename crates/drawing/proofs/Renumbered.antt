-- A drawing with other numbers of its parts: the same spots, lines, lengths, meetings, crossings and counts. Assumes nothing.
use Prim.Native.Nat.{ℕ, ◌<◌}
use native.Mathlib.Omega.{arith}
use mathlib.Core.Path.{◌≡◌, refl, sym, ap, ap₂, subst₂, ◌∙◌}
use mathlib.Core.List.{List, [], ◌∷◌, ◌++◌, map, map-map}
use lib.ListN.{length, get_or, length-map}
use Rattle.lists.specs.Select.{tabulate, sum, index_of}
use Rattle.lists.proofs.Select.{get_d_map, length_tabulate, get_d_tabulate}
use Rattle.lists.proofs.Agree.{tabulate_same}
use Rattle.drawing.specs.declared.spacing.Spacing.{Spacing}
use Rattle.geometry.specs.Spots.{Spot, origin}
use Rattle.geometry.specs.Lines.{Meetings}
use Rattle.geometry.specs.Crossing.{lines_cross}
use Rattle.drawing.specs.Drawing.{Route, no_route, Drawing, spot_of, route_points, route_at, points_at, Meets, cross_pair, crossings_of, crossings, renumbered}
use Rattle.drawing.specs.Lengths.{line_length, cable_lengths}
use Rattle.drawing.specs.Sheet.{sheet_words}
use Rattle.drawing.specs.Counts.{corner_count}
use Rattle.drawing.proofs.WordCounts.{words_length}
use Rattle.geometry.proofs.Renaming.{Renames, renamed}
use Rattle.drawing.proofs.Inside.{Inside, inside_at, ends_inside}
use Rattle.drawing.proofs.Pairs.{pairs_same}

-- Below n each number is the name of one place below n.
pub record Names (n : ℕ) (names : List ℕ) : Type 0 where
  pub inside : (p : ℕ) → p < n → index_of p names < n
  pub back : (p : ℕ) → p < n → get_or names (index_of p names) 0 ≡ p
  pub named : (k : ℕ) → k < n → get_or names k 0 < n
  pub place : (k : ℕ) → k < n → index_of (get_or names k 0) names ≡ k

module _ (names : List ℕ) where
  -- a route whose parts are numbered by their names
  abbrev called : Route → Route
  called r = record { first = get_or names r.first 0; last = get_or names r.last 0; corners = r.corners }

  module _ (d : Drawing) where
    -- What is kept under any names

    pub parts_renumbered : length (renumbered names d).parts ≡ length d.parts
    unfolding renumbered
    parts_renumbered = length_tabulate (length d.parts) (λ p. spot_of d (index_of p names))

    routes_called : (renumbered names d).routes ≡ map called d.routes
    unfolding renumbered
    routes_called = refl

    pub routes_renumbered : length (renumbered names d).routes ≡ length d.routes
    routes_renumbered = rw routes_called (length-map d.routes called)

    pub spot_renumbered : (p : ℕ) → p < length d.parts → spot_of (renumbered names d) p ≡ spot_of d (index_of p names)
    unfolding renumbered spot_of
    spot_renumbered p h = get_d_tabulate (length d.parts) (λ q. get_or d.parts (index_of q names) origin) p origin h

    pub route_renumbered :
        (i : ℕ) → i < length d.routes
        → route_at (renumbered names d) i
        ≡ record { first = get_or names (route_at d i).first 0; last = get_or names (route_at d i).last 0; corners = (route_at d i).corners }
    unfolding renumbered route_at
    route_renumbered i h = get_d_map called d.routes i no_route no_route h

    pub first_renumbered : (i : ℕ) → i < length d.routes → (route_at (renumbered names d) i).first ≡ get_or names (route_at d i).first 0
    first_renumbered i h = ap (λ (r : Route). r.first) (route_renumbered i h)

    pub last_renumbered : (i : ℕ) → i < length d.routes → (route_at (renumbered names d) i).last ≡ get_or names (route_at d i).last 0
    last_renumbered i h = ap (λ (r : Route). r.last) (route_renumbered i h)

    pub corners_renumbered : (i : ℕ) → i < length d.routes → (route_at (renumbered names d) i).corners ≡ (route_at d i).corners
    corners_renumbered i h = ap (λ (r : Route). r.corners) (route_renumbered i h)

    -- any function of the corners, by line
    pub map_renumbered :
        {A : Type 0} (f : List Spot → A) → map (λ r. f r.corners) (renumbered names d).routes ≡ map (λ r. f r.corners) d.routes
    map_renumbered f = rw routes_called (map-map (λ (r : Route). f r.corners) called d.routes)

    pub corner_count_renumbered : corner_count (renumbered names d).routes ≡ corner_count d.routes
    corner_count_renumbered = ap sum (map_renumbered (λ (l : List Spot). length l))

    pub length_renumbered : (s : Spacing) → length (sheet_words s (renumbered names d)) ≡ length (sheet_words s d)
    length_renumbered s =
        omega (arith, words_length s (renumbered names d), words_length s d, parts_renumbered, routes_renumbered, corner_count_renumbered)

    -- What is kept where no two parts have one name

    module _ (N : Names (length d.parts) names) where
      -- each part stands where it stood
      end_renumbered : (k : ℕ) → k < length d.parts → spot_of (renumbered names d) (get_or names k 0) ≡ spot_of d k
      end_renumbered k h = spot_renumbered (get_or names k 0) (N.named k h) ∙ ap (spot_of d) (N.place k h)

      called_points : (r : Route) → Inside (length d.parts) r → route_points (renumbered names d) (called r) ≡ route_points d r
      unfolding route_points
      called_points r I =
          ap₂ (λ (p q : Spot). p ∷ (r.corners ++ q ∷ [])) (end_renumbered r.first I.first_inside) (end_renumbered r.last I.last_inside)

      pub points_renumbered : Meets d → (i : ℕ) → i < length d.routes → points_at (renumbered names d) i ≡ points_at d i
      unfolding points_at
      points_renumbered M i h = ap (route_points (renumbered names d)) (route_renumbered i h) ∙ called_points (route_at d i) (inside_at d M i h)

      pub lengths_renumbered : Meets d → cable_lengths (renumbered names d) ≡ cable_lengths d
      unfolding cable_lengths
      lengths_renumbered M =
          ap (λ (m : ℕ). tabulate m (λ i. line_length (points_at (renumbered names d) i))) routes_renumbered
          ∙ tabulate_same (length d.routes) _ _ (λ i h. ap line_length (points_renumbered M i h))

      -- Meetings

      renames :
          Meets d
          → Renames (length d.parts) (length d.routes) (spot_of d) (λ i. (route_at d i).first) (λ i. (route_at d i).last) (points_at d)
          (λ p. index_of p names) (spot_of (renumbered names d))
          (λ i. (route_at (renumbered names d) i).first) (λ i. (route_at (renumbered names d) i).last) (points_at (renumbered names d))
      renames M = record {
        inside = N.inside;
        one = λ p q g h e. sym (N.back p g) ∙ ap (λ (k : ℕ). get_or names k 0) e ∙ N.back q h;
        spots = spot_renumbered;
        first_inside = λ i h. omega (arith, first_renumbered i h, N.named (route_at d i).first (inside_at d M i h).first_inside);
        last_inside = λ i h. omega (arith, last_renumbered i h, N.named (route_at d i).last (inside_at d M i h).last_inside);
        first_rank = λ i h. ap (λ (p : ℕ). index_of p names) (first_renumbered i h) ∙ N.place (route_at d i).first (inside_at d M i h).first_inside;
        last_rank = λ i h. ap (λ (p : ℕ). index_of p names) (last_renumbered i h) ∙ N.place (route_at d i).last (inside_at d M i h).last_inside;
        same = λ i h. sym (points_renumbered M i h);
      }

      pub meets_renumbered : Meets d → Meets (renumbered names d)
      meets_renumbered M =
          subst₂
          (λ (a b : ℕ).
          Meetings a b (spot_of (renumbered names d)) (λ i. (route_at (renumbered names d) i).first) (λ i. (route_at (renumbered names d) i).last)
          (points_at (renumbered names d)))
          (sym parts_renumbered) (sym routes_renumbered)
          (renamed _ _ _ _ _ _ _ _ _ _ _ (renames M) M)

      -- Crossings

      same_pair :
          (r q : Route) → Inside (length d.parts) r → Inside (length d.parts) q
          → cross_pair (renumbered names d) (called r) (called q) ≡ cross_pair d r q
      unfolding cross_pair
      same_pair r q I J = ap₂ lines_cross (called_points r I) (called_points q J)

      pub crossings_renumbered : Meets d → crossings (renumbered names d) ≡ crossings d
      unfolding crossings
      crossings_renumbered M =
          ap (crossings_of (renumbered names d)) routes_called
          ∙ pairs_same d (renumbered names d) called (Inside (length d.parts)) same_pair d.routes (ends_inside d M)
