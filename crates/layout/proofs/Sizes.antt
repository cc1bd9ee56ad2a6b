-- Document 01: 'The sheet has m - n + 1 as width, n - 1 + d + e as height, 2m - 2n + 2 + d + e corners', of the definition, for every
-- ranked input; and of corners, at most four a cable, and at most two where the two lowest ranks, and the two highest, are joined once
-- (2026-04; source 000, lemma 3.4). Assumes nothing.
use Prim.Native.Nat.{ℕ, zero, suc, ◌+◌, ◌-◌, ◌*◌, ◌<◌, ◌≤◌}
use mathlib.Core.Path.{◌≡◌, refl, sym, ◌∙◌, ap, subst}
use mathlib.Core.Logic.{◌⊎◌, inl, inr}
use mathlib.Core.Bool.{Bool, true, false, cond, not}
use mathlib.Core.List.Memᴰ
use mathlib.Core.List.{List, [], ◌∷◌, ◌++◌, Memᴰ}
use native.Mathlib.Omega.{arith}
use native.Mathlib.Decide.{ℕ_discrete}
use lib.Dec.{eqb}
use lib.ListN.{length, get_or}
use borrow.Author.Tests.{eqb-true, eq-eqb, ne_eqb}
use Rattle.lists.specs.Select.{range, tabulate, count, sum, one_if}
use Rattle.lists.proofs.Tests.{one_if_le}
use Rattle.lists.proofs.Sums.{count_not, sum_ext, sum_add, sum_one_if}
use Rattle.order.specs.Graph.{StGraph, size, lower, upper, EndsOnce}
use Rattle.order.specs.RankedGraphs.{Ranked}
use Rattle.layout.specs.Columns.{bottom_line, top_line, columns}
use Rattle.geometry.specs.Spots.{Spot}
use Rattle.layout.specs.Points.{Course, turns, points_of, corners_of, bottom_rows, top_rows, row, part_spot, course, rank_spot, course_of}
use Rattle.layout.proofs.EndLines.{bottom_ends, top_ends}
use Rattle.layout.proofs.Step.{cable, part, width}
use Rattle.layout.proofs.Width.{width_all, cable_below, part_below, reached}
use Rattle.layout.proofs.Own.{only_out, only_in, lower_owns, upper_owns}
use Rattle.layout.proofs.Turns.{differs, points_all, points_split, turns_points, length_corners}
use Rattle.layout.proofs.ExtraRows.{bottom_count, top_count, bottom_row, top_row, row_top, top_rows_le, differs_lane}

-- On plain numbers and tests

lane_le : (b : Bool) (r : ℕ) → cond b 0 r ≤ r
lane_le true r = omega arith
lane_le false r = omega arith

lane_ge : (b : Bool) (u r : ℕ) → r ≤ u → r ≤ cond b u r
lane_ge true u r h = h
lane_ge false u r h = omega arith

differs_le : (u v : ℕ) → differs u v ≤ 1
differs_le u v = one_if_le (not (eqb u v))

differs_none : (u v : ℕ) → u ≡ v → differs u v ≡ 0
differs_none u v e = rw (eq-eqb u v e) refl

four_counts :
    (p q b t : ℕ → Bool) (m : ℕ)
    → sum (tabulate m (λ i. one_if (p i) + one_if (q i) + one_if (b i) + one_if (t i))) ≡ count p (range m) + count q (range m) + count b (range m) + count t (range m)
four_counts p q b t m =
    omega (
      arith,
      sum_add (λ i. one_if (p i) + one_if (q i) + one_if (b i)) (λ i. one_if (t i)) m,
      sum_add (λ i. one_if (p i) + one_if (q i)) (λ i. one_if (b i)) m,
      sum_add (λ i. one_if (p i)) (λ i. one_if (q i)) m,
      sum_one_if p m,
      sum_one_if q m,
      sum_one_if b m,
      sum_one_if t m,
    )

module _ (G : StGraph) (H : Ranked G) where
  -- Every stored column is below the count, that of a cable that is not opened too.

  pub cable_column_below : (k i : ℕ) → get_or (columns G k).cables i 0 < (columns G k).count
  unfolding cable width
  cable_column_below k i = cable_below G H k i

  pub part_column_below : (k j : ℕ) → j < k → get_or (columns G k).parts j 0 < (columns G k).count
  unfolding part width
  part_column_below k j h = part_below G H k j h

  -- Once s stands, every column is the column of a cable that was opened.
  pub column_held : 2 ≤ G.parts → (k c : ℕ) → 0 < k → c < (columns G k).count → (i : ℕ) × (i < size G) × (lower G i < k) × (get_or (columns G k).cables i 0 ≡ c)
  unfolding cable width
  column_held two zero c z h = absurd (omega arith)
  column_held two (suc k) c z h = reached G H two k c h

  -- The lanes of a course

  low_le : (i : ℕ) → (course_of G i).low ≤ row G (lower G i)
  unfolding course_of course
  low_le i = lane_le (eqb i (bottom_line G)) (row G (lower G i))

  high_ge : (i : ℕ) → i < size G → row G (upper G i) ≤ (course_of G i).high
  unfolding course_of course row
  high_ge i h = lane_ge (eqb i (top_line G)) (row G G.parts) (row G (upper G i)) (omega (arith, H.inside i h))

  pub rising : (i : ℕ) → i < size G → (course_of G i).low < (course_of G i).high
  unfolding row
  rising i h = omega (arith, low_le i, high_ge i h, H.rises i h)

  -- The corners of one cable: one where its own column is not its lower part's, one where it is not its upper part's, one for the bottom
  -- connection, one for the top connection.
  pub corners_one :
      (i : ℕ) → i < size G
      → length (corners_of (course_of G i))
      ≡ differs (get_or (columns G G.parts).cables i 0) (get_or (columns G G.parts).parts (lower G i) 0)
      + differs (get_or (columns G G.parts).cables i 0) (get_or (columns G G.parts).parts (upper G i) 0)
      + one_if (eqb i (bottom_line G))
      + one_if (eqb i (top_line G))
  unfolding course_of course part_spot row
  corners_one i h =
      let b = differs_lane (eqb i (bottom_line G)) 0 (row G (lower G i)) (λ e q. omega (arith, bottom_row G H (omega (arith, eqb-true i (bottom_line G) e)))) in
      let t = differs_lane (eqb i (top_line G)) (row G G.parts) (row G (upper G i)) (λ e q. omega (arith, H.inside i h)) in
      omega (arith, length_corners (course_of G i) (λ e. omega (arith, rising i h)), b, t)

  pub corners_four : (i : ℕ) → i < size G → length (corners_of (course_of G i)) ≤ 4
  corners_four i h =
      omega (
        arith,
        corners_one i h,
        differs_le (get_or (columns G G.parts).cables i 0) (get_or (columns G G.parts).parts (lower G i) 0),
        differs_le (get_or (columns G G.parts).cables i 0) (get_or (columns G G.parts).parts (upper G i) 0),
        one_if_le (eqb i (bottom_line G)),
        one_if_le (eqb i (top_line G)),
      )

  -- 'at most two cables have more than two': only the bottom and the top connection can
  pub corners_which : (i : ℕ) → i < size G → 2 < length (corners_of (course_of G i)) → (i ≡ bottom_line G) ⊎ (i ≡ top_line G)
  corners_which i h l = go (ℕ_discrete i (bottom_line G)) (ℕ_discrete i (top_line G))
    where
      go : Dec (i ≡ bottom_line G) → Dec (i ≡ top_line G) → (i ≡ bottom_line G) ⊎ (i ≡ top_line G)
      go (yes e) f = inl e
      go (no e) (yes f) = inr f
      go (no e) (no f) =
          absurd
          (omega (
            arith,
            corners_one i h,
            differs_le (get_or (columns G G.parts).cables i 0) (get_or (columns G G.parts).parts (lower G i) 0),
            differs_le (get_or (columns G G.parts).cables i 0) (get_or (columns G G.parts).parts (upper G i) 0),
            ap one_if (ne_eqb i (bottom_line G) e),
            ap one_if (ne_eqb i (top_line G) f),
          ))

  -- they are two: where there are three parts, no cable goes both from the lowest rank and to the highest of two neighbours
  connections_differ : 3 ≤ G.parts → (i : ℕ) → i < size G → one_if (eqb i (bottom_line G)) + one_if (eqb i (top_line G)) ≤ 1
  connections_differ three i h = go (ℕ_discrete i (bottom_line G)) (ℕ_discrete i (top_line G))
    where
      go : Dec (i ≡ bottom_line G) → Dec (i ≡ top_line G) → one_if (eqb i (bottom_line G)) + one_if (eqb i (top_line G)) ≤ 1
      go (yes e) (yes f) =
          let b = bottom_ends G (omega arith) in
          let t = top_ends G (omega arith) in
          absurd (omega (arith, ap (lower G) e ∙ b.1, ap (lower G) f ∙ t.1))
      go (yes e) (no f) = omega (arith, one_if_le (eqb i (bottom_line G)), ap one_if (ne_eqb i (top_line G) f))
      go (no e) f = omega (arith, one_if_le (eqb i (top_line G)), ap one_if (ne_eqb i (bottom_line G) e))

  pub corners_three : 3 ≤ G.parts → (i : ℕ) → i < size G → length (corners_of (course_of G i)) ≤ 3
  corners_three three i h =
      omega (
        arith,
        corners_one i h,
        differs_le (get_or (columns G G.parts).cables i 0) (get_or (columns G G.parts).parts (lower G i) 0),
        differs_le (get_or (columns G G.parts).cables i 0) (get_or (columns G G.parts).parts (upper G i) 0),
        connections_differ three i h,
      )

  -- 'no cable has more than two corners'
  module _ (three : 3 ≤ G.parts) (O : EndsOnce G) (i : ℕ) (h : i < size G) where
    abbrev x : ℕ
    x = get_or (columns G G.parts).cables i 0

    abbrev at : ℕ → ℕ
    at k = get_or (columns G G.parts).parts k 0

    -- rank 1 has one incoming cable and stands in its column, so that the bottom connection turns in row 0 alone
    bottom_straight : i ≡ bottom_line G → (upper G i ≡ 1) × (differs x (at (upper G i)) ≡ 0)
    unfolding cable part
    bottom_straight e =
        let b = bottom_ends G (omega arith) in
        let l : lower G i ≡ 0 = ap (lower G) e ∙ b.1 in
        let u : upper G i ≡ 1 = ap (upper G) e ∙ b.2 in
        (u, differs_none x (at (upper G i)) (only_in G H i h (λ j g q. O.lowest i j h g l u (omega (arith, H.rises j g)) (q ∙ u))))

    -- rank n - 2 has one outgoing cable, which keeps its column, so that the top connection turns in the top row alone
    top_straight : i ≡ top_line G → (suc (upper G i) ≡ G.parts) × (differs x (at (lower G i)) ≡ 0)
    unfolding cable part
    top_straight e =
        let t = top_ends G (omega arith) in
        let l : lower G i ≡ G.parts - 2 = ap (lower G) e ∙ t.1 in
        let u : upper G i ≡ G.parts - 1 = ap (upper G) e ∙ t.2 in (
          omega arith,
          differs_none x (at (lower G i)) (only_out G H i h (λ j g q. O.highest i j h g l u (q ∙ l) (omega (arith, H.rises j g, H.inside j g)))),
        )

    pub corners_two : length (corners_of (course_of G i)) ≤ 2
    corners_two = go (ℕ_discrete i (bottom_line G)) (ℕ_discrete i (top_line G))
      where
        c : length (corners_of (course_of G i)) ≡ differs x (at (lower G i)) + differs x (at (upper G i)) + one_if (eqb i (bottom_line G)) + one_if (eqb i (top_line G))
        c = corners_one i h

        l : differs x (at (lower G i)) ≤ 1
        l = differs_le x (at (lower G i))

        u : differs x (at (upper G i)) ≤ 1
        u = differs_le x (at (upper G i))

        go : Dec (i ≡ bottom_line G) → Dec (i ≡ top_line G) → length (corners_of (course_of G i)) ≤ 2
        go (yes e) (yes f) = absurd (omega (arith, (bottom_straight e).0, (top_straight f).0))
        go (yes e) (no f) = omega (arith, c, l, (bottom_straight e).1, one_if_le (eqb i (bottom_line G)), ap one_if (ne_eqb i (top_line G) f))
        go (no e) (yes f) = omega (arith, c, u, (top_straight f).1, one_if_le (eqb i (top_line G)), ap one_if (ne_eqb i (bottom_line G) e))
        go (no e) (no f) = omega (arith, c, l, u, ap one_if (ne_eqb i (bottom_line G) e), ap one_if (ne_eqb i (top_line G) f))

  -- Every spot is inside the sheet.

  abbrev Within : Spot → Type 0
  Within s = (s.x < (columns G G.parts).count) × (s.y < G.parts + bottom_rows G + top_rows G)

  pub spots_within :
      (k : ℕ) → k < G.parts
      → ((rank_spot G k).x < (columns G G.parts).count) × ((rank_spot G k).y < G.parts + bottom_rows G + top_rows G)
  unfolding rank_spot part_spot row
  spots_within k h = (part_column_below G.parts k h, omega arith)

  pub high_below : (i : ℕ) → i < size G → (course_of G i).high < G.parts + bottom_rows G + top_rows G
  unfolding course_of course row
  high_below i h = go (eqb i (top_line G)) refl
    where
      go :
          (b : Bool) → eqb i (top_line G) ≡ b
          → cond b (row G G.parts) (row G (upper G i)) < G.parts + bottom_rows G + top_rows G
      go true e = omega (arith, top_row G H (omega (arith, eqb-true i (top_line G) e)))
      go false e = omega (arith, H.inside i h)

  pub points_within :
      (i : ℕ) → i < size G → (s : Spot) → Memᴰ s (points_of (course_of G i))
      → (s.x < (columns G G.parts).count) × (s.y < G.parts + bottom_rows G + top_rows G)
  unfolding course_of course rank_spot
  points_within i h s g =
      let c : Course = course_of G i in
      let f : Within c.from = spots_within (lower G i) (omega (arith, H.rises i h, H.inside i h)) in
      let t : Within c.to = spots_within (upper G i) (H.inside i h) in
      let x : c.column < (columns G G.parts).count = cable_column_below G.parts i in
      let u : c.high < G.parts + bottom_rows G + top_rows G = high_below i h in
      let l : c.low < G.parts + bottom_rows G + top_rows G = omega (arith, rising i h) in
      points_all Within c f (f.0, l) (x, l) (x, u) (t.0, u) t s g

  -- a point is a part's spot or a corner
  abbrev Found : (Spot → ℕ) → ℕ → Type 0
  Found f v =
      ((k : ℕ) × (k < G.parts) × (f (rank_spot G k) ≡ v))
      ⊎ ((i : ℕ) × (s : Spot) × (i < size G) × Memᴰ s (corners_of (course_of G i)) × (f s ≡ v))

  found : (f : Spot → ℕ) (v i : ℕ) (s : Spot) → i < size G → Memᴰ s (turns (course_of G i)) → f s ≡ v → Found f v
  unfolding course_of course rank_spot
  found f v i s h g e = first (Memᴰ.cases_cons (subst (λ (l : List Spot). Memᴰ s l) (points_split c (λ q. omega (arith, rising i h))) (turns_points c g)))
    where
      c : Course
      c = course_of G i

      last : Memᴰ s (corners_of c) ⊎ Memᴰ s (c.to ∷ []) → Found f v
      last (inl k) = inr (i, s, h, k, e)
      last (inr k) = inl (upper G i, H.inside i h, sym (ap f (Memᴰ.eq_of_singleton k)) ∙ e)

      first : (s ≡ c.from) ⊎ Memᴰ s (corners_of c ++ c.to ∷ []) → Found f v
      first (inl q) = inl (lower G i, omega (arith, H.rises i h, H.inside i h), sym (ap f q) ∙ e)
      first (inr k) = last (Memᴰ.append_cases (corners_of c) k)

  module _ (two : 2 ≤ G.parts) where
    -- 'm - n + 1 as width': the count of columns is one more
    pub columns_count : (columns G G.parts).count + G.parts ≡ size G + 2
    unfolding width
    columns_count = width_all G H (omega arith)

    pub width_reached : (i : ℕ) × (i < size G) × (suc (get_or (columns G G.parts).cables i 0) ≡ (columns G G.parts).count)
    width_reached =
        let z : 0 < (columns G G.parts).count = omega (arith, cable_column_below G.parts 0) in
        let r = column_held two G.parts ((columns G G.parts).count - 1) (omega arith) (omega arith) in
        (r.0, r.1, omega (arith, r.3))

    -- n - 1 cables stand in their lower part's column, and n - 1 in their upper part's

    pub lower_count : count (λ i. eqb (get_or (columns G G.parts).cables i 0) (get_or (columns G G.parts).parts (lower G i) 0)) (range (size G)) + 1 ≡ G.parts
    unfolding cable part
    lower_count = lower_owns G H (omega arith)

    pub upper_count : count (λ i. eqb (get_or (columns G G.parts).cables i 0) (get_or (columns G G.parts).parts (upper G i) 0)) (range (size G)) + 1 ≡ G.parts
    unfolding cable part
    upper_count = upper_owns G H (omega arith)

    -- '2m - 2n + 2 + d + e corners'
    pub corners_sum :
        sum (tabulate (size G) (λ i. length (corners_of (course_of G i)))) + 2 * G.parts ≡ 2 * size G + 2 + bottom_rows G + top_rows G
    corners_sum =
        let x : ℕ → ℕ = λ i. get_or (columns G G.parts).cables i 0 in
        let p : ℕ → Bool = λ i. eqb (x i) (get_or (columns G G.parts).parts (lower G i) 0) in
        let q : ℕ → Bool = λ i. eqb (x i) (get_or (columns G G.parts).parts (upper G i) 0) in
        let b : ℕ → Bool = λ i. eqb i (bottom_line G) in
        let t : ℕ → Bool = λ i. eqb i (top_line G) in
        let e : sum (tabulate (size G) (λ i. length (corners_of (course_of G i)))) ≡ sum (tabulate (size G) (λ i. one_if (not (p i)) + one_if (not (q i)) + one_if (b i) + one_if (t i))) = sum_ext _ _ (size G) corners_one in
        omega (
          arith,
          e,
          four_counts (λ i. not (p i)) (λ i. not (q i)) b t (size G),
          count_not p (size G),
          count_not q (size G),
          lower_count,
          upper_count,
          bottom_count G H,
          top_count G H,
        )

    -- the greatest x and the greatest y are those of a part or of a corner
    pub width_spot :
        ((k : ℕ) × (k < G.parts) × (suc (rank_spot G k).x ≡ (columns G G.parts).count))
        ⊎ ((i : ℕ) × (s : Spot) × (i < size G) × Memᴰ s (corners_of (course_of G i)) × (suc s.x ≡ (columns G G.parts).count))
    unfolding course_of course turns
    width_spot =
        let r = width_reached in
        let c : Course = course_of G r.0 in
        found (λ s. suc s.x) _ r.0 (record { x = c.column; y = c.low }) r.1 (Memᴰ.tail (Memᴰ.tail (Memᴰ.head refl))) r.2

    pub height_spot :
        ((k : ℕ) × (k < G.parts) × (suc (rank_spot G k).y ≡ G.parts + bottom_rows G + top_rows G))
        ⊎ ((i : ℕ) × (s : Spot) × (i < size G) × Memᴰ s (corners_of (course_of G i)) × (suc s.y ≡ G.parts + bottom_rows G + top_rows G))
    unfolding course_of course turns rank_spot part_spot row
    height_spot = go (ℕ_discrete (top_rows G) 1)
      where
        go : Dec (top_rows G ≡ 1) → Found (λ s. suc s.y) (G.parts + bottom_rows G + top_rows G)
        go (yes e) =
            let i : ℕ = top_line G in
            let c : Course = course_of G i in
            found (λ s. suc s.y) _ i (record { x = c.column; y = c.high }) (row_top G H e)
            (Memᴰ.tail (Memᴰ.tail (Memᴰ.tail (Memᴰ.head refl)))) (rw (eq-eqb i i refl) (omega arith))
        go (no e) = inl (G.parts - 1, omega arith, omega (arith, top_rows_le G H))
