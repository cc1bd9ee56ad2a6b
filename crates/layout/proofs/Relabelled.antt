-- The same cables in another sequence of lines: the columns, the rows and the courses are the same, and with them the spots of all ranks
-- and the count of crossings. Assumes nothing.
use Prim.Native.Nat.{ℕ, zero, suc, ◌+◌, ◌-◌, ◌<◌, ◌≤◌}
use native.Mathlib.Omega.{arith}
use native.Mathlib.Decide.{dec_lt, ℕ_discrete}
use mathlib.Core.Path.{◌≡◌, refl, sym, ap, ap₂, subst, ◌∙◌}
use mathlib.Core.Bool.{Bool, true, cond, ◌&&◌}
use mathlib.Core.List.Memᴰ
use mathlib.Core.List.{List, [], ◌∷◌, ◌++◌, map, map-map, Memᴰ}
use lib.ListN.{length, get_or, length-map}
use lib.Dec.{eqb}
use borrow.Author.Tests.{eqb-true, eq-eqb}
use Rattle.lists.specs.Select.{range, tabulate, one_if, count, lastly, index_of, sort_by}
use Rattle.lists.proofs.Bools.{same_test}
use Rattle.lists.proofs.Tests.{eqb_sym}
use Rattle.lists.proofs.Select.{length_filter}
use Rattle.lists.proofs.Sort.{sort_by_e, sort_by_i}
use Rattle.lists.proofs.Stable.{Precedes, stable_sort_by}
use Rattle.lists.proofs.Agree.{map_same, tabulate_same}
use Rattle.lists.proofs.Maps.{count_tabulate}
use Rattle.lists.proofs.Multiset.{map_e}
use Rattle.lists.proofs.Renamed.{lastly_renamed, index_of_renamed, stable_renamed, stable_same}
use Rattle.lists.proofs.Matching.{with_keys, Matching, matched, matching}
use Rattle.lists.proofs.Pairs.{pair_count, pairs_map, count_renamed, pairs_renamed}
use Rattle.order.specs.Graph.{StGraph, size, lower, upper, lines_at}
use Rattle.order.specs.RankedGraphs.{Ranked}
use Rattle.geometry.specs.Spots.{spot_at}
use Rattle.drawing.specs.Drawing.{Route, spot_of, route_points, cross_pair, crossings_of, crossings}
use Rattle.drawing.specs.Alike.{SameDrawing}
use Rattle.drawing.proofs.Pairs.{crossings_pairs, cross_either}
use Rattle.layout.specs.Ports.{in_ports, out_ports, place_below, new_left, new_right}
use Rattle.layout.specs.Columns.{Columns, moved, bottom_line, top_line, by_rank, by_column, outgoing, incoming, taken, step, columns}
use Rattle.layout.specs.Points.{bottom_rows, top_rows, row, part_spot, course, rank_spot, course_of}
use Rattle.layout.specs.Layout.{drawn_in, layout}
use Rattle.layout.proofs.EndLines.{lines_at_e, lines_at_i, distinct_lines_at, bottom_ends, top_ends}
use Rattle.layout.proofs.Step.{cable, outs, ins, out_place, taken_column, lefts, rights, cable_start, cable_opened, cable_kept, outgoing_e, incoming_e}
use Rattle.layout.proofs.Invariant.{invariant}
use Rattle.layout.proofs.ByLine.{lines_rise, bottom_lowest, top_lowest}
use Rattle.layout.proofs.Drawn.{route_of, routes_are}

-- The lowest line of a kind is named by the lowest line of the other kind, where names keep the sequence of lines of a kind
same_line :
    (m : ℕ) (π : ℕ → ℕ) (P Q : ℕ → Type 0) (a b : ℕ) → ((x : ℕ) → x < m → π x < m) → ((y : ℕ) → y < m → (x : ℕ) × (x < m) × (π x ≡ y))
    → ((x : ℕ) → x < m → P x → Q (π x)) → ((x : ℕ) → x < m → Q (π x) → P x)
    → (a < m → P a) → ((x : ℕ) → x < m → P x → a ≤ x) → (b < m → Q b) → ((x : ℕ) → x < m → Q x → b ≤ x)
    → ((x y : ℕ) → x < y → y < m → P x → P y → π x < π y)
    → (x : ℕ) → x < m → eqb b (π x) ≡ eqb a x
same_line m π P Q a b below onto to from pa la qb lb rises x h = same_test (eqb b (π x)) (eqb a x) there back
  where
    lowest : b ≡ π x → P x → Dec (a < x) → a ≡ x
    lowest e p (yes l) =
        let pa' : P a = pa (omega arith) in
        absurd (omega (arith, rises a x l h pa' p, lb (π a) (below a (omega arith)) (to a (omega arith) pa')))
    lowest e p (no l) = omega (arith, la x h p)

    there : eqb b (π x) ≡ true → eqb a x ≡ true
    there t =
        let e : b ≡ π x = eqb-true b (π x) t in
        let p : P x = from x h (subst Q e (qb (omega (arith, below x h)))) in
        eq-eqb a x (lowest e p (dec_lt a x))

    named : a ≡ x → P x → (w : ℕ) → w < m → π w ≡ b → Dec (x < w) → b ≡ π x
    named e p w g q (yes l) =
        absurd (omega (arith, rises x w l g p (from w g (subst Q (sym q) (qb (omega (arith, below w g))))), lb (π x) (below x h) (to x h p)))
    named e p w g q (no l) =
        let r : P w = from w g (subst Q (sym q) (qb (omega (arith, below w g)))) in
        let v : w ≡ x = omega (arith, la w g r) in
        sym q ∙ ap π v

    back : eqb a x ≡ true → eqb b (π x) ≡ true
    back t =
        let e : a ≡ x = eqb-true a x t in
        let p : P x = subst P e (pa (omega arith)) in
        let w = onto b (omega (arith, lb (π x) (below x h) (to x h p), below x h)) in
        eq-eqb b (π x) (named e p w.0 w.1 w.2 (dec_lt x w.0))

-- the columns of the ranks once rank k stands
ranks_next :
    (G : StGraph) (k : ℕ)
    → (columns G (suc k)).parts ≡ map (moved (taken_column G k) (lefts G k) (rights G k)) (columns G k).parts ++ (taken_column G k + lefts G k) ∷ []
unfolding columns step taken_column lefts rights ins outs
ranks_next G k = refl

-- The column of the cable from below, of cables under other names
taken_renamed :
    (π u v : ℕ → ℕ) (l r : List ℕ) → r ≡ map π l → ((x : ℕ) → Memᴰ x l → v (π x) ≡ u x)
    → get_or (map v r) (place_below (in_ports (length r))) 0 ≡ get_or (map u l) (place_below (in_ports (length l))) 0
taken_renamed π u v l r e h =
    ap₂ (λ (z : List ℕ) (n : ℕ). get_or z (place_below (in_ports n)) 0)
    (ap (map v) e ∙ map-map v π l ∙ map_same (λ x. v (π x)) u l h) (ap length e ∙ length-map l π)

module _ {f g f' g' : ℕ → ℕ} (m : ℕ) (π : ℕ → ℕ) (M : Matching m f g f' g' π) (rank rank' : ℕ → ℕ) (same : (i : ℕ) → i < m → rank' (π i) ≡ rank i) where
  -- as many lines at a rank
  lines_count : (k : ℕ) → length (lines_at m rank' k) ≡ length (lines_at m rank k)
  unfolding lines_at
  lines_count k =
      length_filter (λ i. eqb (rank' i) k) (range m)
      ∙ count_renamed m π M.below M.one M.onto (λ i. eqb (rank i) k) (λ i. eqb (rank' i) k) (λ i h. ap (λ (r : ℕ). eqb r k) (same i h))
      ∙ sym (length_filter (λ i. eqb (rank i) k) (range m))

  -- the lines at a rank are sorted alike
  lines_sorted :
      (key key' : ℕ → ℕ) (k : ℕ) → ((i j : ℕ) → i < m → j < m → rank i ≡ k → rank j ≡ k → Precedes key i j → Precedes key' (π i) (π j))
      → sort_by key' (lines_at m rank' k) ≡ map π (sort_by key (lines_at m rank k))
  lines_sorted key key' k h =
      stable_same key' (sort_by key' theirs) (map π (sort_by key ours)) (stable_sort_by key' theirs (lines_rise m rank' k) (distinct_lines_at m rank' k))
      (stable_renamed π key key' (sort_by key ours)
      (λ x y p q. let a = at p in let b = at q in h x y a.0 b.0 a.1 b.1)
      (stable_sort_by key ours (lines_rise m rank k) (distinct_lines_at m rank k)))
      (λ x n.
      let a = lines_at_e m rank' k (sort_by_e key' theirs n) in
      let i = M.onto x a.0 in
      Memᴰ.cast (sym i.2) (Memᴰ.map π (sort_by_i key ours (lines_at_i i.0 m rank k i.1 (sym (same i.0 i.1) ∙ ap rank' i.2 ∙ a.1)))))
      (λ x n.
      let t = map_e π (sort_by key ours) n in
      let a = at t.1 in
      sort_by_i key' theirs (lines_at_i x m rank' k (omega (arith, M.below t.0 a.0, t.2)) (ap rank' t.2 ∙ same t.0 a.0 ∙ a.1)))
    where
      ours : List ℕ
      ours = lines_at m rank k

      theirs : List ℕ
      theirs = lines_at m rank' k

      at : {x : ℕ} → Memᴰ x (sort_by key ours) → (x < m) × (rank x ≡ k)
      at n = lines_at_e m rank k (sort_by_e key ours n)

-- G and H have the same cables, and the cable at line i of G is that at line π i of H
module _ (G H : StGraph) (parts : H.parts ≡ G.parts) (sizes : size H ≡ size G) (π : ℕ → ℕ)
    (M : Matching (size G) (lower G) (upper G) (lower H) (upper H) π) where
  lowers_count : (k : ℕ) → length (lines_at (size H) (lower H) k) ≡ length (lines_at (size G) (lower G) k)
  lowers_count k = ap (λ (m : ℕ). length (lines_at m (lower H) k)) sizes ∙ lines_count (size G) π M (lower G) (lower H) M.first k

  uppers_count : (k : ℕ) → length (lines_at (size H) (upper H) k) ≡ length (lines_at (size G) (upper G) k)
  uppers_count k = ap (λ (m : ℕ). length (lines_at m (upper H) k)) sizes ∙ lines_count (size G) π M (upper G) (upper H) M.second k

  -- The bottom and the top connection

  bottom_same : (i : ℕ) → i < size G → eqb (bottom_line H) (π i) ≡ eqb (bottom_line G) i
  bottom_same =
      same_line (size G) π
      (λ x. (length (lines_at (size G) (lower G) 0) ≡ 4) × (lower G x ≡ 0) × (upper G x ≡ 1))
      (λ x. (length (lines_at (size H) (lower H) 0) ≡ 4) × (lower H x ≡ 0) × (upper H x ≡ 1))
      (bottom_line G) (bottom_line H) M.below M.onto
      (λ x h p. (lowers_count 0 ∙ p.0, M.first x h ∙ p.1, M.second x h ∙ p.2))
      (λ x h p. (sym (lowers_count 0) ∙ p.0, sym (M.first x h) ∙ p.1, sym (M.second x h) ∙ p.2))
      (λ h. bottom_ends G h) (λ x h p. bottom_lowest G p.0 x h p.1 p.2)
      (λ h. bottom_ends H (omega arith)) (λ x h p. bottom_lowest H p.0 x (omega arith) p.1 p.2)
      (λ x y l h p q. M.rises x y l h (p.1 ∙ sym q.1) (p.2 ∙ sym q.2))

  last_count : length (lines_at (size H) (upper H) (H.parts - 1)) ≡ length (lines_at (size G) (upper G) (G.parts - 1))
  last_count = ap (λ (n : ℕ). length (lines_at (size H) (upper H) (n - 1))) parts ∙ uppers_count (G.parts - 1)

  top_same : (i : ℕ) → i < size G → eqb (top_line H) (π i) ≡ eqb (top_line G) i
  top_same =
      same_line (size G) π
      (λ x. (length (lines_at (size G) (upper G) (G.parts - 1)) ≡ 4) × (lower G x ≡ G.parts - 2) × (upper G x ≡ G.parts - 1))
      (λ x. (length (lines_at (size H) (upper H) (H.parts - 1)) ≡ 4) × (lower H x ≡ H.parts - 2) × (upper H x ≡ H.parts - 1))
      (top_line G) (top_line H) M.below M.onto
      (λ x h p. (last_count ∙ p.0, omega (arith, M.first x h, p.1, parts), omega (arith, M.second x h, p.2, parts)))
      (λ x h p. (sym last_count ∙ p.0, omega (arith, M.first x h, p.1, parts), omega (arith, M.second x h, p.2, parts)))
      (λ h. top_ends G h) (λ x h p. top_lowest G p.0 x h p.1 p.2)
      (λ h. top_ends H (omega arith)) (λ x h p. top_lowest H p.0 x (omega arith) p.1 p.2)
      (λ x y l h p q. M.rises x y l h (p.1 ∙ sym q.1) (p.2 ∙ sym q.2))

  -- The outgoing cables

  by_rank_same : (k : ℕ) → by_rank H k ≡ map π (by_rank G k)
  unfolding by_rank
  by_rank_same k =
      ap (λ (m : ℕ). sort_by (upper H) (lines_at m (lower H) k)) sizes
      ∙ lines_sorted (size G) π M (lower G) (lower H) M.first (upper G) (upper H) k
      (λ i j h g a b p. record {
        rises = omega (arith, M.second i h, M.second j g, p.rises);
        lower = λ e.
            let q : upper G i ≡ upper G j = omega (arith, M.second i h, M.second j g) in
            M.rises i j (p.lower q) g (a ∙ sym b) q;
      })

  by_rank_e : {i : ℕ} (k : ℕ) → Memᴰ i (by_rank G k) → i < size G
  unfolding by_rank
  by_rank_e k n = (lines_at_e (size G) (lower G) k (sort_by_e (upper G) (lines_at (size G) (lower G) k) n)).0

  outgoing_same : (k : ℕ) → outgoing H k ≡ map π (outgoing G k)
  unfolding outgoing
  outgoing_same k =
      ap (lastly (bottom_line H)) (by_rank_same k)
      ∙ lastly_renamed π (bottom_line G) (bottom_line H) (by_rank G k) (λ x n. bottom_same x (by_rank_e k n))

  outs_same : (k : ℕ) → outs H k ≡ outs G k
  unfolding outs
  outs_same k = ap length (outgoing_same k) ∙ length-map (outgoing G k) π

  ins_same : (k : ℕ) → ins H k ≡ ins G k
  unfolding ins
  ins_same k = uppers_count k

  line_same : (i j : ℕ) → i < size G → j < size G → eqb (π i) (π j) ≡ eqb i j
  line_same i j h g =
      same_test (eqb (π i) (π j)) (eqb i j) (λ t. eq-eqb i j (M.one i j h g (eqb-true (π i) (π j) t))) (λ t. eq-eqb (π i) (π j) (ap π (eqb-true i j t)))

  out_place_same : (k i : ℕ) → i < size G → out_place H k (π i) ≡ out_place G k i
  unfolding out_place
  out_place_same k i h =
      ap (index_of (π i)) (outgoing_same k)
      ∙ index_of_renamed π i (π i) (outgoing G k) (λ x n. line_same i x h (outgoing_e G k n).0)

  lefts_same : (k : ℕ) → lefts H k ≡ lefts G k
  unfolding lefts
  lefts_same k = ap₂ (λ (a b : ℕ). new_left (out_ports a b)) (ins_same k) (outs_same k)

  rights_same : (k : ℕ) → rights H k ≡ rights G k
  unfolding rights
  rights_same k = ap₂ (λ (a b : ℕ). new_right (out_ports a b)) (ins_same k) (outs_same k)

  -- Rows

  bottom_rows_same : bottom_rows H ≡ bottom_rows G
  unfolding bottom_rows
  bottom_rows_same = ap (λ (n : ℕ). one_if (eqb n 4)) (lowers_count 0)

  top_rows_same : top_rows H ≡ top_rows G
  unfolding top_rows
  top_rows_same = ap (λ (n : ℕ). one_if (eqb n 4)) last_count

  row_same : (k : ℕ) → row H k ≡ row G k
  unfolding row
  row_same k = ap (λ (d : ℕ). d + k) bottom_rows_same

  -- Columns

  module _ (R : Ranked G) (S : Ranked H) where
    -- the columns once k ranks stand
    pub record SameColumns (k : ℕ) : Type 0 where
      pub ranks : (columns H k).parts ≡ (columns G k).parts
      pub cables : (i : ℕ) → i < size G → cable H k (π i) ≡ cable G k i

    start : SameColumns 0
    unfolding columns
    start = record { ranks = refl; cables = λ i h. cable_start H (π i) (omega (arith, M.below i h)) ∙ sym (cable_start G i h) }

    module _ (k : ℕ) (inside : k ≤ G.parts) (A : SameColumns k) where
      by_column_same : by_column H (columns H k).cables k ≡ map π (by_column G (columns G k).cables k)
      unfolding by_column cable
      by_column_same =
          ap (λ (m : ℕ). sort_by (λ i. get_or (columns H k).cables i 0) (lines_at m (upper H) k)) sizes
          ∙ lines_sorted (size G) π M (upper G) (upper H) M.second (λ i. get_or (columns G k).cables i 0) (λ i. get_or (columns H k).cables i 0) k
          (λ i j h g a b p. record {
            rises = omega (arith, A.cables i h, A.cables j g, p.rises);
            lower = λ e.
                let q : get_or (columns G k).cables i 0 ≡ get_or (columns G k).cables j 0 = sym (A.cables i h) ∙ e ∙ A.cables j g in
                absurd
                ((invariant G R k inside).apart i j h g (λ d. omega (arith, p.lower q))
                (omega (arith, R.rises i h)) (omega (arith, R.rises j g)) (omega (arith, R.rises i h)) (omega (arith, R.rises j g)) q);
          })

      by_column_e : {i : ℕ} → Memᴰ i (by_column G (columns G k).cables k) → i < size G
      unfolding by_column
      by_column_e n = (lines_at_e (size G) (upper G) k (sort_by_e (λ i. get_or (columns G k).cables i 0) (lines_at (size G) (upper G) k) n)).0

      incoming_same : incoming H (columns H k).cables k ≡ map π (incoming G (columns G k).cables k)
      unfolding incoming
      incoming_same =
          ap (lastly (top_line H)) by_column_same
          ∙ lastly_renamed π (top_line G) (top_line H) (by_column G (columns G k).cables k) (λ x n. top_same x (by_column_e n))

      taken_same : taken_column H k ≡ taken_column G k
      unfolding taken_column taken cable
      taken_same =
          taken_renamed π (λ i. get_or (columns G k).cables i 0) (λ i. get_or (columns H k).cables i 0) (incoming G (columns G k).cables k)
          (incoming H (columns H k).cables k) incoming_same (λ x n. A.cables x (incoming_e G (columns G k).cables k n).0)

      next_cable : (i : ℕ) → i < size G → Dec (lower G i ≡ k) → cable H (suc k) (π i) ≡ cable G (suc k) i
      next_cable i h (yes e) =
          omega (
            arith,
            cable_opened H S k (π i) (omega (arith, M.below i h)) (M.first i h ∙ e),
            cable_opened G R k i h e,
            taken_same,
            out_place_same k i h,
          )
      next_cable i h (no n) =
          cable_kept H k (π i) (omega (arith, M.below i h)) (λ e. n (sym (M.first i h) ∙ e))
          ∙ rw (taken_same, lefts_same k, rights_same k, A.cables i h) (sym (cable_kept G k i h n))

      next : SameColumns (suc k)
      next = record { ranks = rw (ranks_next H k, ranks_next G k, A.ranks, taken_same, lefts_same k, rights_same k) refl; cables = λ i h. next_cable i h (ℕ_discrete (lower G i) k) }

    alike : (k : ℕ) → k ≤ G.parts → SameColumns k
    alike zero h = start
    alike (suc k) h = next k (omega arith) (alike k (omega arith))

    -- Once all ranks stand

    final : columns H H.parts ≡ columns H G.parts
    final = ap (columns H) parts

    all : SameColumns G.parts
    all = alike G.parts (omega arith)

    spot_same : (k : ℕ) → rank_spot H k ≡ rank_spot G k
    unfolding rank_spot part_spot
    spot_same k =
        ap₂ spot_at (ap (λ (c : Columns). get_or c.parts k 0) final ∙ ap (λ (l : List ℕ). get_or l k 0) all.ranks) (row_same k)

    column_same : (i : ℕ) → i < size G → get_or (columns H H.parts).cables (π i) 0 ≡ get_or (columns G G.parts).cables i 0
    unfolding cable
    column_same i h = ap (λ (c : Columns). get_or c.cables (π i) 0) final ∙ all.cables i h

    low_same : (i : ℕ) → i < size G → cond (eqb (π i) (bottom_line H)) 0 (row H (lower H (π i))) ≡ cond (eqb i (bottom_line G)) 0 (row G (lower G i))
    low_same i h =
        ap₂ (λ (b : Bool) (r : ℕ). cond b 0 r) (eqb_sym (π i) (bottom_line H) ∙ bottom_same i h ∙ eqb_sym (bottom_line G) i)
        (ap (row H) (M.first i h) ∙ row_same (lower G i))

    high_same : (i : ℕ) → i < size G
        → cond (eqb (π i) (top_line H)) (row H H.parts) (row H (upper H (π i))) ≡ cond (eqb i (top_line G)) (row G G.parts) (row G (upper G i))
    high_same i h =
        rw (eqb_sym (π i) (top_line H) ∙ top_same i h ∙ eqb_sym (top_line G) i, ap (row H) parts ∙ row_same G.parts, ap (row H) (M.second i h) ∙ row_same (upper G i))

    course_same : (i : ℕ) → i < size G → course_of H (π i) ≡ course_of G i
    unfolding course_of course rank_spot
    course_same i h =
        rw (
          ap (rank_spot H) (M.first i h) ∙ spot_same (lower G i),
          low_same i h,
          column_same i h,
          high_same i h,
          ap (rank_spot H) (M.second i h) ∙ spot_same (upper G i),
        )

    route_same : (i : ℕ) → i < size G → route_of H (π i) ≡ route_of G i
    route_same i h = rw (M.first i h, M.second i h, course_same i h)

    -- The drawing

    width_same : (layout H).width ≡ (layout G).width
    unfolding layout drawn_in
    width_same = rw (sizes, parts)

    height_same : (layout H).height ≡ (layout G).height
    unfolding layout drawn_in
    height_same = rw (bottom_rows_same, top_rows_same, parts)

    spots_same : (layout H).parts ≡ (layout G).parts
    unfolding layout drawn_in rank_spot
    spots_same =
        ap (λ (n : ℕ). tabulate n (part_spot H (columns H H.parts))) parts
        ∙ tabulate_same G.parts (part_spot H (columns H H.parts)) (part_spot G (columns G G.parts)) (λ k h. spot_same k)

    -- two routes cross alike
    cross_same : (r q : Route) → cross_pair (layout H) r q ≡ cross_pair (layout G) r q
    unfolding cross_pair route_points spot_of
    cross_same r q = rw spots_same

    crossings_counted : (K : StGraph) → crossings (layout K) ≡ pair_count (λ i j. cross_pair (layout K) (route_of K i) (route_of K j)) (range (size K))
    unfolding crossings tabulate
    crossings_counted K =
        ap (crossings_of (layout K)) (routes_are K) ∙ crossings_pairs (layout K) (map (route_of K) (range (size K)))
        ∙ pairs_map (cross_pair (layout K)) (route_of K) (range (size K))

    crossings_same : crossings (layout H) ≡ crossings (layout G)
    crossings_same =
        crossings_counted H
        ∙ ap (λ (m : ℕ). pair_count (λ i j. cross_pair (layout H) (route_of H i) (route_of H j)) (range m)) sizes
        ∙ pairs_renamed (size G) π M.below M.one M.onto
        (λ i j. cross_pair (layout G) (route_of G i) (route_of G j)) (λ i j. cross_pair (layout H) (route_of H i) (route_of H j))
        (λ x y. cross_either (layout H) (route_of H x) (route_of H y))
        (λ i j h g. ap₂ (cross_pair (layout H)) (route_same i h) (route_same j g) ∙ cross_same (route_of G i) (route_of G j))
        ∙ sym (crossings_counted G)

    -- each route is there as often
    routes_counted : (K : StGraph) (p : Route → Bool) → count p (layout K).routes ≡ count (λ i. p (route_of K i)) (range (size K))
    routes_counted K p = ap (count p) (routes_are K) ∙ count_tabulate p (size K) (route_of K)

    routes_same : (p : Route → Bool) → count p (layout H).routes ≡ count p (layout G).routes
    routes_same p =
        routes_counted H p ∙ ap (λ (m : ℕ). count (λ i. p (route_of H i)) (range m)) sizes
        ∙ count_renamed (size G) π M.below M.one M.onto (λ i. p (route_of G i)) (λ i. p (route_of H i)) (λ i h. ap p (route_same i h))
        ∙ sym (routes_counted G p)

    relabelled : SameDrawing (layout G) (layout H)
    relabelled = record {
      width = sym width_same;
      height = sym height_same;
      parts = sym spots_same;
      routes = λ p. sym (routes_same p);
      crossings = sym crossings_same;
    }

-- how many cables go from rank a to rank b
unfoldable pub cables_between : StGraph → ℕ → ℕ → ℕ
cables_between G a b = count (λ i. eqb (lower G i) a && eqb (upper G i) b) (range (size G))

-- as many parts, as many cables, and as many between any two ranks
pub record SameCables (G H : StGraph) : Type 0 where
  pub parts : G.parts ≡ H.parts
  pub size : size G ≡ size H
  pub between : (a b : ℕ) → a < b → b < G.parts → cables_between G a b ≡ cables_between H a b

-- Request 2026-13: graphs with the same cables, in whatever sequence of lines, have drawings with the same sizes, spots, routes and
-- count of crossings
pub same_layout : (G H : StGraph) → Ranked G → Ranked H → SameCables G H → SameDrawing (layout G) (layout H)
unfolding cables_between with_keys
same_layout G H R S C =
    relabelled G H (sym C.parts) (sym C.size) (matched (size G) (lower G) (upper G) (lower H) (upper H))
    (matching (size G) (lower G) (upper G) (lower H) (upper H) (λ i h. alike_lines (lower G i) (upper G i) (R.rises i h) (R.inside i h))
    (λ j h. alike_lines (lower H j) (upper H j) (S.rises j (omega (arith, C.size))) (omega (arith, S.inside j (omega (arith, C.size)), C.parts))))
    R S
  where
    alike_lines : (a b : ℕ) → a < b → b < G.parts → length (with_keys (size G) (lower G) (upper G) a b) ≡ length (with_keys (size G) (lower H) (upper H) a b)
    alike_lines a b h g =
        length_filter (λ i. eqb (lower G i) a && eqb (upper G i) b) (range (size G)) ∙ C.between a b h g
        ∙ ap (λ (m : ℕ). count (λ i. eqb (lower H i) a && eqb (upper H i) b) (range m)) (sym C.size)
        ∙ sym (length_filter (λ i. eqb (lower H i) a && eqb (upper H i) b) (range (size G)))
