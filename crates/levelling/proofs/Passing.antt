-- The pass over the ranks: at each it makes the levels of one part right, and at the last those of all. Assumes nothing.
use Prim.Native.Nat.{ℕ, suc, ◌+◌, ◌*◌, ◌<◌, ◌≤◌}
use native.Mathlib.Omega.{arith}
use native.Mathlib.Decide.{ℕ_discrete, dec_lt}
use mathlib.Core.Path.{◌≡◌, refl, sym, ap, ap₂, ◌∙◌, subst}
use mathlib.Core.Bool.{Bool, true, false}
use mathlib.Core.List.Memᴰ
use mathlib.Core.List.{List, [], ◌∷◌, map, Memᴰ}
use lib.Dec.{ltb}
use lib.IntN.{pos}
use lib.ListN.{length, get_or, set, take, replicate, length-set, length-replicate, get_or-replicate, get_or-eq_default}
use lib.Seq.{get_or-set_same, get_or-set_other}
use lib.Ieee.{Float, nan}
use Rattle.std.proofs.lemmas.List.{take-map}
use borrow.Author.Tests.{lt-ltb, le-ltb}
use Rattle.std.specs.List.{reduce}
use Rattle.std.specs.Option.{unwrap_or}
use Rattle.words.specs.declared.Part.{Part}
use Rattle.words.specs.Limits.{most_parts}
use Rattle.lists.specs.Select.{filter, tabulate}
use Rattle.lists.proofs.Select.{length_tabulate, get_d_tabulate}
use Rattle.lists.proofs.Filters.{filter_same}
use Rattle.checks.specs.Checks.{Clear}
use Rattle.station.specs.Station.{Station, station_of}
use Rattle.order.specs.Reach.{neighbours}
use Rattle.order.specs.Order.{order, rank_in}
use Rattle.order.specs.Checks.{all_checks}
use Rattle.order.proofs.Bipolar.{Orderable}
use Rattle.order.proofs.Joins.{within, joined_within}
use Rattle.order.proofs.Ranks.{rank_below, rank_of_part, rank_one}
use Rattle.order.proofs.Passed.{list_orderable, list_ordering}
use Rattle.reachability.specs.declared.adjacency.Neighbours.{Neighbours}
use Rattle.reachability.specs.Tables.{Adjacent, neighbours_in}
use Rattle.ordering.specs.Numbers.{part_numbers}
use Rattle.ordering.proofs.Numbers.{part_number, numbers_length}
use Rattle.levels.specs.declared.Levels.{Levels}
use Rattle.levels.specs.declared.Sort.{Sort}
use Rattle.levels.specs.Level.{sort_in}
use Rattle.levels.specs.SignalPaths.{Extremes, only, lower_neighbours, extremes_of, levels_at}
use Rattle.levels.specs.Outcome.{in_floats, level_floats}
use Rattle.levels.specs.Readings.{both_behind, levels_of, together, RowFits}
use Rattle.levels.proofs.Exact.{InRange}
use Rattle.levels.proofs.Extremes.{Both, extremes_all}
use Rattle.levels.proofs.SignalPaths.{lower_e}
use Rattle.levels.proofs.LeastGreatest.{levels_step}
use Rattle.levels.proofs.Bounds.{levels_range}
use Rattle.levels.proofs.Floats.{both_behind_exact}
use Rattle.levelling.specs.Pass.{levels_in, incoming, Readable}
use Rattle.levelling.proofs.Arriving.{arriving_exact}

-- ---- a row of pairs

-- the row with the two floats of p with_pair
abbrev pub with_pair : List Float → ℕ → Levels → List Float
with_pair row p levels = set (set row (2 * p) levels.least) (2 * p + 1) levels.greatest

module _ (row : List Float) (p : ℕ) (levels : Levels) where
  pair_long : length (with_pair row p levels) ≡ length row
  pair_long = length-set (set row (2 * p) levels.least) (2 * p + 1) levels.greatest ∙ length-set row (2 * p) levels.least

  pair_here : 2 * p + 1 < length row → levels_in (with_pair row p levels) p ≡ levels
  pair_here h =
      ap₂ (λ (x y : Float). record { least = x; greatest = y })
      (get_or-set_other (set row (2 * p) levels.least) (2 * p + 1) (2 * p) levels.greatest nan (λ e. omega arith) ∙ get_or-set_same row (2 * p) levels.least nan (omega arith))
      (get_or-set_same (set row (2 * p) levels.least) (2 * p + 1) levels.greatest nan (omega (arith, length-set row (2 * p) levels.least)))

  pair_other : (q : ℕ) → (q ≡ p → ⊥) → levels_in (with_pair row p levels) q ≡ levels_in row q
  pair_other q n =
      ap₂ (λ (x y : Float). record { least = x; greatest = y })
      (get_or-set_other (set row (2 * p) levels.least) (2 * p + 1) (2 * q) levels.greatest nan (λ e. omega arith) ∙ get_or-set_other row (2 * p) (2 * q) levels.least nan (λ e. n (omega arith)))
      (get_or-set_other (set row (2 * p) levels.least) (2 * p + 1) (2 * q + 1) levels.greatest nan (λ e. n (omega arith)) ∙ get_or-set_other row (2 * p) (2 * q + 1) levels.least nan (λ e. omega arith))

-- a row whose pairs are the floats of some extremes
all_pairs : (es : List Extremes) (d : Extremes) (row : List Float) → length row ≡ 2 * length es → ((p : ℕ) → p < length es → levels_in row p ≡ levels_of (get_or es p d))
    → row ≡ in_floats es
unfolding in_floats
all_pairs [] d [] l h = refl
all_pairs [] d (x ∷ row) l h = absurd (omega arith)
all_pairs (e ∷ es) d [] l h = absurd (omega arith)
all_pairs (e ∷ es) d (x ∷ []) l h = absurd (omega arith)
all_pairs (e ∷ es) d (x ∷ y ∷ row) l h =
    let first : levels_in (x ∷ y ∷ row) 0 ≡ levels_of e = h 0 (omega arith) in
    ap₂ (λ (v : Float) (fs : List Float). v ∷ fs) (ap (λ (t : Levels). t.least) first)
    (ap₂ (λ (v : Float) (fs : List Float). v ∷ fs) (ap (λ (t : Levels). t.greatest) first) (all_pairs es d row (omega arith) (λ p g. behind p ∙ h (suc p) (omega arith))))
  where
    behind : (p : ℕ) → levels_in row p ≡ levels_in (x ∷ y ∷ row) (suc p)
    behind p =
        let a : suc (suc (2 * p)) ≡ 2 * suc p = omega arith in
        let b : suc (suc (2 * p + 1)) ≡ 2 * suc p + 1 = omega arith in
        ap₂ (λ (u v : Float). record { least = u; greatest = v }) (ap (λ (i : ℕ). get_or (x ∷ y ∷ row) i nan) a) (ap (λ (i : ℕ). get_or (x ∷ y ∷ row) i nan) b)

-- ---- the pass

-- It has been at the parts of rank below k: they are flagged, and the row has their levels.
pub record Passing (list sorts : List ℕ) (table : List Neighbours) (part : List Part) (row : List Float) (flags : List Bool) (k : ℕ) : Type 0 where
  pub pass : Clear all_checks list
  pub fits : RowFits (station_of list).parts sorts
  pub many : length part ≡ (station_of list).parts
  pub adjacent : Adjacent list table
  pub order_is : part_numbers part ≡ order (station_of list)
  pub place : k ≤ (station_of list).parts
  pub wide : length flags ≡ most_parts
  pub long : length row ≡ 2 * (station_of list).parts
  pub flagged : (q : ℕ) → q < (station_of list).parts → get_or flags q false ≡ ltb (rank_in (order (station_of list)) q) k
  pub others : (q : ℕ) → (station_of list).parts ≤ q → get_or flags q false ≡ false
  pub levels : (q : ℕ) → q < (station_of list).parts → rank_in (order (station_of list)) q < k → levels_in row q ≡ levels_of (levels_at (station_of list) sorts q)

no_flag : (m q : ℕ) → get_or (replicate m false) q false ≡ false
no_flag m q = go (dec_lt q m)
  where
    go : Dec (q < m) → get_or (replicate m false) q false ≡ false
    go (yes h) = get_or-replicate m q false false h
    go (no h) = get_or-eq_default (replicate m false) false (omega (arith, length-replicate m false))

pub passing_start : {list sorts : List ℕ} {table : List Neighbours} {n : ℕ} (part : List Part) {row : List Float} → Clear all_checks list → RowFits (station_of list).parts sorts → n ≡ (station_of list).parts
    → Adjacent list table → take (station_of list).parts (part_numbers part) ≡ order (station_of list) → length row ≡ 2 * (station_of list).parts
    → Passing list sorts table (take n part) row (replicate most_parts false) 0
unfolding part_numbers
passing_start {list} {n = n} part C F e A o l =
    let f : part_numbers (take n part) ≡ order (station_of list) = sym (take-map (λ (p : Part). p.0) n part) ∙ ap (λ (k : ℕ). take k (part_numbers part)) e ∙ o in
    record {
      pass = C;
      fits = F;
      many = sym (numbers_length (take n part)) ∙ ap length f ∙ (list_ordering list C).all;
      adjacent = A;
      order_is = f;
      place = omega arith;
      wide = length-replicate most_parts false;
      long = l;
      flagged = λ q h. no_flag most_parts q ∙ sym (le-ltb (rank_in (order (station_of list)) q) 0 (omega arith));
      others = λ q h. no_flag most_parts q;
      levels = λ q h g. absurd (omega arith);
    }

module _ {list sorts : List ℕ} {table : List Neighbours} {part : List Part} {row : List Float} {flags : List Bool} {k : ℕ} (P : Passing list sorts table part row flags k) where
  abbrev st : Station
  st = station_of list

  abbrev rank : ℕ → ℕ
  rank q = rank_in (order st) q

  H : Orderable st
  H = list_orderable list P.pass

  -- the row has the floats of every flagged part
  pub passing_readable : Readable flags row
  passing_readable q e = go (dec_lt q st.parts)
    where
      clash : (b : Bool) → b ≡ true → b ≡ false → ⊥
      clash true f g = let z : ◌≡◌ {A = ℕ} 0 1 = cc in omega arith
      clash false f g = let z : ◌≡◌ {A = ℕ} 0 1 = cc in omega arith

      go : Dec (q < st.parts) → 2 * q + 1 < length row
      go (yes h) = omega (arith, P.long)
      go (no h) = absurd (clash (get_or flags q false) e (P.others q (omega arith)))

  module _ (h : k < length part) where
    -- the part of rank k
    abbrev p : ℕ
    p = (get_or part k (record { 0 = 0 })).0

    part_is : p ≡ get_or (order st) k 0
    part_is = part_number part k ∙ ap (λ (l : List ℕ). get_or l k 0) P.order_is

    pub passing_part : p < st.parts
    passing_part = subst (λ (x : ℕ). x < st.parts) (sym part_is) ((list_ordering list P.pass).inside k (omega (arith, P.many)))

    -- places that are looked at
    pub passing_most : p < most_parts
    passing_most = omega (arith, passing_part, H.wired.most)

    pub passing_sort : p < length sorts
    passing_sort = omega (arith, passing_part, P.fits.words)

    pub passing_pair : 2 * p + 1 < length row
    passing_pair = omega (arith, passing_part, P.long)

    rank_is : rank p ≡ k
    rank_is = ap (λ (x : ℕ). rank x) part_is ∙ rank_of_part st H k (omega (arith, P.many))

    -- its flagged neighbours are those that a cable climbs from
    flagged_lower : filter (λ q. get_or flags q false) (neighbours_in table p) ≡ lower_neighbours (order st) st.cables p
    unfolding lower_neighbours
    flagged_lower =
        ap (filter (λ q. get_or flags q false)) (P.adjacent.by_line p)
        ∙ filter_same (λ q. get_or flags q false) (λ q. ltb (rank q) (rank p)) (neighbours st.cables p)
        (λ q m. P.flagged q (joined_within st.cables p (within H.wired) m) ∙ ap (ltb (rank q)) (sym rank_is))

    lower_inside : (q : ℕ) → Memᴰ q (lower_neighbours (order st) st.cables p) → (q < st.parts) × (rank q < k)
    lower_inside q m =
        let c = lower_e st m in
        (joined_within st.cables p (within H.wired) c.joined, omega (arith, c.higher, rank_is))

    abbrev from : Extremes
    from = extremes_of (map (levels_at st sorts) (lower_neighbours (order st) st.cables p))

    incoming_exact : incoming table flags row p ≡ levels_of from
    unfolding incoming
    incoming_exact =
        ap (λ (l : List ℕ). unwrap_or (reduce together (map (levels_in row) l)) (levels_of (only (pos 0)))) flagged_lower
        ∙ arriving_exact (levels_in row) (levels_at st sorts) (lower_neighbours (order st) st.cables p)
        (λ q m. levels_range st H sorts P.fits q (lower_inside q m).0) (λ q m. P.levels q (lower_inside q m).0 (lower_inside q m).1)

    from_range : Both InRange from
    from_range =
        extremes_all InRange (map (levels_at st sorts) (lower_neighbours (order st) st.cables p)) (record { below = omega arith })
        (λ c m.
        let t = Memᴰ.of_map (levels_at st sorts) (lower_neighbours (order st) st.cables p) m in
        subst (λ (x : Extremes). Both InRange x) t.2 (levels_range st H sorts P.fits t.0 (lower_inside t.0 t.1).0))

    -- what the pass makes of them are the levels at p
    part_exact : both_behind (incoming table flags row p) (sort_in (get_or sorts p 0)) ≡ levels_of (levels_at st sorts p)
    part_exact =
        ap (λ (x : Levels). both_behind x (sort_in (get_or sorts p 0))) incoming_exact
        ∙ both_behind_exact (get_or sorts p 0) from from_range (P.fits.steps p passing_part)
        ∙ ap levels_of (sym (levels_step st H sorts p passing_part))

    pub passing_next : {before next : Levels} {sort : Sort} → before ≡ incoming table flags row p → sort ≡ sort_in (get_or sorts p 0) → next ≡ both_behind before sort
        → Passing list sorts table part (with_pair row p next) (set flags p true) (k + 1)
    passing_next {before} {next} {sort} b s e =
        record {
          pass = P.pass;
          fits = P.fits;
          many = P.many;
          adjacent = P.adjacent;
          order_is = P.order_is;
          place = omega (arith, P.many);
          wide = length-set flags p true ∙ P.wide;
          long = pair_long row p next ∙ P.long;
          flagged = λ q g. flag q g (ℕ_discrete q p);
          others = λ q g. get_or-set_other flags p q true false (λ d. omega (arith, passing_part)) ∙ P.others q g;
          levels = λ q g l. level q g l (ℕ_discrete q p);
        }
      where
        next_is : next ≡ levels_of (levels_at st sorts p)
        next_is = e ∙ ap₂ both_behind b s ∙ part_exact

        flag : (q : ℕ) → q < st.parts → Dec (q ≡ p) → get_or (set flags p true) q false ≡ ltb (rank q) (k + 1)
        flag q g (yes d) =
            ap (λ (x : ℕ). get_or (set flags p true) x false) d ∙ get_or-set_same flags p true false (omega (arith, P.wide, passing_part, H.wired.most))
            ∙ sym (lt-ltb (rank q) (k + 1) (omega (arith, ap (λ (x : ℕ). rank x) d, rank_is)))
        flag q g (no d) = get_or-set_other flags p q true false d ∙ P.flagged q g ∙ below (dec_lt (rank q) k)
          where
            apart : rank q ≡ k → ⊥
            apart f = d (rank_one st H q p g passing_part (f ∙ sym rank_is))

            below : Dec (rank q < k) → ltb (rank q) k ≡ ltb (rank q) (k + 1)
            below (yes l) = lt-ltb (rank q) k l ∙ sym (lt-ltb (rank q) (k + 1) (omega arith))
            below (no l) = le-ltb (rank q) k (omega arith) ∙ sym (le-ltb (rank q) (k + 1) (above (ℕ_discrete (rank q) k)))
              where
                above : Dec (rank q ≡ k) → k + 1 ≤ rank q
                above (yes f) = absurd (apart f)
                above (no f) = omega arith

        level : (q : ℕ) → q < st.parts → rank q < k + 1 → Dec (q ≡ p) → levels_in (with_pair row p next) q ≡ levels_of (levels_at st sorts q)
        level q g l (yes d) =
            ap (levels_in (with_pair row p next)) d ∙ pair_here row p next (omega (arith, P.long, passing_part)) ∙ next_is
            ∙ ap (λ (x : ℕ). levels_of (levels_at st sorts x)) (sym d)
        level q g l (no d) = pair_other row p next q d ∙ P.levels q g (before_k (ℕ_discrete (rank q) k))
          where
            before_k : Dec (rank q ≡ k) → rank q < k
            before_k (yes f) = absurd (d (rank_one st H q p g passing_part (f ∙ sym rank_is)))
            before_k (no f) = omega arith

  pub passing_end : length part ≤ k → row ≡ level_floats st sorts
  unfolding level_floats
  passing_end g =
      all_pairs (tabulate st.parts (levels_at st sorts)) (only (pos 0)) row (omega (arith, P.long, length_tabulate st.parts (levels_at st sorts)))
      (λ q h.
      let i : q < st.parts = omega (arith, length_tabulate st.parts (levels_at st sorts)) in
      P.levels q i (omega (arith, rank_below st H q i, P.many)) ∙ ap levels_of (sym (get_d_tabulate st.parts (levels_at st sorts) q (only (pos 0)) i)))
