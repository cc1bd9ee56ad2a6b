-- Routes of a station that can be ordered: the list of them has each and no others, every part has one, and their levels add up part by
-- part. Assumes nothing.
use mathlib.Core.Path.{◌≡◌, refl, sym, ◌∙◌, subst}
use mathlib.Core.Logic.{◌⊎◌, inl, inr, ◌↔◌}
use mathlib.Core.Bool.{true}
use mathlib.Core.List.Memᴰ
use mathlib.Core.List.{List, [], ◌∷◌, ◌++◌, map, flat_map, Memᴰ}
use Prim.Native.Nat.{ℕ, zero, suc, ◌<◌}
use native.Mathlib.Omega.{arith}
use native.Mathlib.Decide.{ℕ_discrete}
use lib.IntN.{ℤ, ◌+ℤ◌}
use lib.ListN.{length, get_or}
use lib.Dec.{eqb, ltb}
use borrow.Author.Tests.{eqb-true, eq-eqb, ltb-true, lt-ltb}
use Rattle.lists.proofs.Select.{filter_e, filter_i}
use Rattle.lists.proofs.Filters.{cons_if_e, cons_if_here, cons_if_there}
use Rattle.lists.proofs.Maps.{flat_map_e, flat_map_i}
use Rattle.station.specs.Station.{Cable, Station}
use Rattle.order.specs.Reach.{neighbours}
use Rattle.order.specs.Order.{order, rank_in}
use Rattle.order.specs.Orientation.{lower_part, upper_part}
use Rattle.order.proofs.Bipolar.{Orderable}
use Rattle.order.proofs.Joins.{Between, joined_sym, joined_within, within, line_joined, cable_at}
use Rattle.order.proofs.Ranks.{graph_parts, graph_size, lower_is, upper_is, rank_below, rank_one, rank_source, order_ranked}
use Rattle.order.proofs.Orientation.{lower_part_rank, upper_part_rank, parts_joined, parts_inside}
use Rattle.levels.specs.Sorts.{gain_of}
use Rattle.levels.specs.SignalPaths.{Climbs, SignalPath, begin, climb, level_from, level_along, lower_neighbours, signal_paths_within, signal_paths_to}

-- ---- levels add up part by part
from_behind : (row : List ℕ) (z : ℤ) (parts : List ℕ) (p : ℕ) → level_from row z (parts ++ (p ∷ [])) ≡ level_from row z parts +ℤ gain_of (get_or row p 0)
unfolding level_from
from_behind row z [] p = refl
from_behind row z (q ∷ parts) p = from_behind row (z +ℤ gain_of (get_or row q 0)) parts p

pub along_behind : (row parts : List ℕ) (p : ℕ) → level_along row (parts ++ (p ∷ [])) ≡ level_along row parts +ℤ gain_of (get_or row p 0)
unfolding level_along
along_behind row parts p = from_behind row _ parts p

module _ (st : Station) where
  abbrev rank : ℕ → ℕ
  rank p = rank_in (order st) p

  -- ---- the parts that a cable climbs from
  pub lower_e : {q p : ℕ} → Memᴰ q (lower_neighbours (order st) st.cables p) → Climbs st q p
  unfolding lower_neighbours
  lower_e {q} {p} m =
      let t = filter_e (λ (x : ℕ). ltb (rank x) (rank p)) (neighbours st.cables p) m in
      record { joined = t.0; higher = ltb-true (rank q) (rank p) t.1 }

  pub lower_i : {q p : ℕ} → Climbs st q p → Memᴰ q (lower_neighbours (order st) st.cables p)
  unfolding lower_neighbours
  lower_i {q} {p} c = filter_i (λ (x : ℕ). ltb (rank x) (rank p)) (neighbours st.cables p) c.joined (lt-ltb (rank q) (rank p) c.higher)

  -- ---- the list of routes
  abbrev longer : ℕ → ℕ → ℕ → List (List ℕ)
  longer k p q = map (λ (before : List ℕ). before ++ (p ∷ [])) (signal_paths_within st (order st) k q)

  within_e : (k p : ℕ) {parts : List ℕ} → Memᴰ parts (signal_paths_within st (order st) k p) → SignalPath st p parts
  unfolding signal_paths_within
  within_e zero p m = absurd (Memᴰ.not-nil m)
  within_e (suc k) p {parts} m = go (λ q before n. within_e k q n) (cons_if_e (eqb p st.source) m)
    where
      go :
          ((q : ℕ) (before : List ℕ) → Memᴰ before (signal_paths_within st (order st) k q) → SignalPath st q before)
          → ((eqb p st.source ≡ true) × (parts ≡ p ∷ [])) ⊎ Memᴰ parts (flat_map (longer k p) (lower_neighbours (order st) st.cables p))
          → SignalPath st p parts
      go below (inl e) = begin (eqb-true p st.source e.0) e.1
      go below (inr n) =
          let t = flat_map_e (longer k p) (lower_neighbours (order st) st.cables p) n in
          let u = Memᴰ.of_map (λ (before : List ℕ). before ++ (p ∷ [])) (signal_paths_within st (order st) k t.0) t.2 in
          climb t.0 u.0 (below t.0 u.0 u.1) (lower_e t.1) (sym u.2)

  within_i : (k : ℕ) {p : ℕ} {parts : List ℕ} → rank p < k → SignalPath st p parts → Memᴰ parts (signal_paths_within st (order st) k p)
  unfolding signal_paths_within
  within_i zero h r = absurd (omega arith)
  within_i (suc k) {p} h (begin e q) = cons_if_here (flat_map (longer k p) (lower_neighbours (order st) st.cables p)) (eqb p st.source) (eq-eqb p st.source e) q
  within_i (suc k) {p} h (climb q before r c e) =
      cons_if_there (p ∷ []) (eqb p st.source)
      (flat_map_i (longer k p) (lower_neighbours (order st) st.cables p) (lower_i c)
      (Memᴰ.cast e (Memᴰ.map (λ (x : List ℕ). x ++ (p ∷ [])) (within_i k (omega (arith, c.higher)) r))))

  module _ (H : Orderable st) where
    -- a route leads to a part
    pub signal_inside : {p : ℕ} {parts : List ℕ} → SignalPath st p parts → p < st.parts
    signal_inside {p} (begin e q) = omega (arith, H.wired.source)
    signal_inside {p} (climb q before r c e) = joined_within st.cables q (within H.wired) (joined_sym st.cables c.joined)

    -- the list has all routes, and nothing else
    pub signal_paths_iff : (p : ℕ) (parts : List ℕ) → p < st.parts → Memᴰ parts (signal_paths_to st p) ↔ SignalPath st p parts
    unfolding signal_paths_to
    signal_paths_iff p parts h = (within_e st.parts p, within_i st.parts (rank_below st H p h))

    -- no cable climbs to the source
    pub none_lower : {q : ℕ} → Climbs st q st.source → ⊥
    none_lower c = omega (arith, c.higher, rank_source st H)

    -- and to every other part one does
    pub some_lower : (p : ℕ) → p < st.parts → (p ≡ st.source → ⊥) → (q : ℕ) × Climbs st q p × (q < st.parts)
    some_lower p h n =
        let above : 0 < rank p = go (ℕ_discrete (rank p) 0) in
        let R = order_ranked st H in
        let i = R.entered (rank p) above (subst (λ (x : ℕ). rank p < x) (sym (graph_parts st)) (rank_below st H p h)) in
        let l : i.0 < length st.cables = omega (arith, graph_size st, i.1) in
        let c = cable_at st.cables i.0 in
        let w = within H.wired i.0 l in
        let inside = parts_inside (order st) c st.parts w.0 w.1 in
        let top : upper_part (order st) c ≡ p =
        rank_one st H (upper_part (order st) c) p inside.1 h (upper_part_rank (order st) c ∙ sym (upper_is st i.0 l) ∙ i.2) in
        let less : rank (lower_part (order st) c) < rank p =
        omega (arith, lower_part_rank (order st) c, lower_is st i.0 l, R.rises i.0 i.1, i.2) in
        (lower_part (order st) c, record { joined = line_joined st.cables p (lower_part (order st) c) i.0 l (ends c top (parts_joined (order st) c)); higher = less }, inside.0)
      where
        go : Dec (rank p ≡ 0) → 0 < rank p
        go (yes e) = absurd (n (rank_one st H p st.source h H.wired.source (e ∙ sym (rank_source st H))))
        go (no d) = omega arith

        ends :
            (c : Cable) → upper_part (order st) c ≡ p
            → ((lower_part (order st) c ≡ c.one) × (upper_part (order st) c ≡ c.other)) ⊎ ((lower_part (order st) c ≡ c.other) × (upper_part (order st) c ≡ c.one))
            → Between c p (lower_part (order st) c)
        ends c e (inl b) = inr (sym b.0, sym b.1 ∙ e)
        ends c e (inr b) = inl (sym b.1 ∙ e, sym b.0)

    -- so that every part has a route
    signal_within : (k p : ℕ) → p < st.parts → rank p < k → (parts : List ℕ) × SignalPath st p parts
    signal_within zero p h l = absurd (omega arith)
    signal_within (suc k) p h l = go (ℕ_discrete p st.source) (λ q i j. signal_within k q i j)
      where
        go : Dec (p ≡ st.source) → ((q : ℕ) → q < st.parts → rank q < k → (parts : List ℕ) × SignalPath st q parts) → (parts : List ℕ) × SignalPath st p parts
        go (yes e) below = (p ∷ [], begin e refl)
        go (no n) below =
            let t = some_lower p h n in
            let r = below t.0 t.2 (omega (arith, t.1.higher)) in
            (r.0 ++ (p ∷ []), climb t.0 r.0 r.1 t.1 refl)

    pub some_signal_path : (p : ℕ) → p < st.parts → (parts : List ℕ) × SignalPath st p parts
    some_signal_path p h = signal_within st.parts p h (rank_below st H p h)
