-- One more rank stands: what the code computes is what `step` gives, and its sums fit 16 bits. Assumes nothing.
use Prim.Native.Nat.{ℕ, ◌+◌, ◌*◌, ◌<◌, ◌≤◌}
use native.Mathlib.Omega.{arith}
use native.Mathlib.Numerals.{add-one}
use mathlib.Core.Path.{◌≡◌, refl, sym, ap, subst, ◌∙◌}
use mathlib.Core.List.{List, [], ◌∷◌, ◌++◌, map}
use lib.ListN.{length, get_or, take, replicate, length-map}
use lib.Seq.{get_or-take, take_at}
use Rattle.words.specs.Limits.{most_parts, most_cables}
use Rattle.lists.specs.Stores.{set_each}
use Rattle.lists.proofs.Kept.{take_replicate}
use Rattle.order.specs.Graph.{StGraph, size, upper}
use Rattle.ranking.specs.Arrays.{graph_in, GraphFits}
use Rattle.ranking.proofs.GraphArrays.{lines_count}
use Rattle.ranking.specs.declared.graph.Graph.{Graph}
use Rattle.placement.specs.declared.Columns as code-columns
use Rattle.incidence.specs.declared.incident.Incident.{Incident}
use Rattle.ports.specs.declared.figures.Placement.{Placement}
use Rattle.layout.specs.Ports.{Port, in_ports, out_ports, port_column, Depicted}
use Rattle.layout.specs.Columns.{moved, outgoing, incoming, taken, step, columns}
use Rattle.incidence.specs.Incidents.{at, lines_in, keys_in, Holds}
use Rattle.placement.specs.Laid.{ColumnsOf}
use Rattle.placement.specs.Placements.{PlacementFits, Opens, moved_by, port_columns}
use Rattle.ports.specs.Placements.{PlacementIs, Stands, port_in}
use Rattle.incidence.proofs.Insertion.{lines_held, keys_held}
use Rattle.layout.proofs.Ports.{all_out}
use Rattle.layout.proofs.Step.{cable, part, width, taken_column, outs, ins, lefts, rights, length_incoming, length_cables, degree}
use Rattle.layout.proofs.Bounds.{Small, small, taken_column_le, lefts_le, rights_le}
use Rattle.layout.proofs.Drawings.{complete}
use Rattle.placement.proofs.Opening.{lines_below, opened_cables}

-- The columns once a rank stands, by equals

opening : List ℕ → ℕ → ℕ → ℕ → List Port → List ℕ → List ℕ
opening l p a b qs xs = set_each l (map (port_column p a) qs) (map (moved p a b) xs)

opening_same :
    {l l' : List ℕ} {p p' a a' b b' : ℕ} {qs qs' : List Port} {xs xs' : List ℕ} → l ≡ l' → p ≡ p' → a ≡ a' → b ≡ b' → qs ≡ qs' → xs ≡ xs'
    → opening l p a b qs xs ≡ opening l' p' a' b' qs' xs'
opening_same e f g h i j = cc

standing_same :
    {p p' a a' b b' : ℕ} {ps ps' : List ℕ} → p ≡ p' → a ≡ a' → b ≡ b' → ps ≡ ps'
    → map (moved p a b) ps ++ (p + a) ∷ [] ≡ map (moved p' a' b') ps' ++ (p' + a') ∷ []
standing_same e f g h = cc

-- Where rank k stands

abbrev pub StandsAt : StGraph → ℕ → Placement → Type 0
StandsAt G k p = PlacementIs (taken_column G k) (lefts G k) (rights G k) (out_ports (ins G k) (outs G k)) p

module _ {g : Graph} (v : GraphFits g) {k : ℕ} {c : code-columns.Columns} (s : ColumnsOf g k c) where
  module _ {i o : Incident} (hi : Holds (at (take g.cables c.cables)) i (incoming (graph_in g) (take g.cables c.cables) k))
      (ho : Holds (upper (graph_in g)) o (outgoing (graph_in g) k)) where
    ins_count : i.count ≡ ins (graph_in g) k
    unfolding ins
    ins_count = hi.count ∙ length_incoming (graph_in g) (take g.cables c.cables) k

    outs_count : o.count ≡ outs (graph_in g) k
    unfolding outs
    outs_count = ho.count

    pub has_drawing : k < g.parts → Depicted i.count o.count
    has_drawing b = rw (ins_count, outs_count) (complete (graph_in g) v.ranked k v.least b).depicted

    pub stands : {p : Placement} → Stands (keys_in i) (in_ports i.count) (out_ports i.count o.count) p → StandsAt (graph_in g) k p
    unfolding taken_column taken lefts rights
    stands e =
        let h : Holds (at (columns (graph_in g) k).cables) i (incoming (graph_in g) (columns (graph_in g) k).cables k) = rw s.cables at hi in
        record {
          column = e.column ∙ rw (keys_held _ h, h.count);
          left = e.left ∙ rw (ins_count, outs_count);
          right = e.right ∙ rw (ins_count, outs_count);
          ports = e.ports ∙ rw (ins_count, outs_count);
        }

  -- as many columns are lent as there are cables
  pub lent : length (take g.cables c.cables) ≡ g.cables
  lent = ap length s.cables ∙ length_cables (graph_in g) k ∙ sym (lines_count g)

  -- What the code's sums need

  now_small : Small (graph_in g) k
  now_small = small (graph_in g) v.ranked k

  module _ (b : k < g.parts) where
    pub count_small : c.count ≤ 4 * most_parts
    unfolding width
    count_small = omega (arith, s.count, now_small.count, v.most)

    pub cable_small : (i : ℕ) → i < g.cables → get_or c.cables i 0 ≤ 4 * most_parts
    unfolding cable
    cable_small i h =
        let e : get_or c.cables i 0 ≡ cable (graph_in g) k i = sym (get_or-take g.cables c.cables i 0 h) ∙ ap (λ (l : List ℕ). get_or l i 0) s.cables in
        omega (arith, now_small.cables i, v.most)

    pub part_small : (i : ℕ) → i < k → get_or c.parts i 0 ≤ 4 * most_parts
    unfolding part
    part_small i h =
        let e : get_or c.parts i 0 ≡ part (graph_in g) k i = sym (get_or-take k c.parts i 0 h) ∙ ap (λ (l : List ℕ). get_or l i 0) s.parts in
        omega (arith, now_small.parts i, v.most)

    pub room : {p : Placement} → StandsAt (graph_in g) k p → PlacementFits p
    room q = record {
      column = omega (arith, q.column, taken_column_le (graph_in g) v.ranked k now_small, v.most);
      left = omega (arith, q.left, lefts_le (graph_in g) v.ranked k);
      right = omega (arith, q.right, rights_le (graph_in g) v.ranked k);
    }

-- The columns once rank k stands

module _ {g : Graph} (v : GraphFits g) (k : ℕ) {p : Placement} (q : StandsAt (graph_in g) k p) {o : Incident} (h : Holds (upper (graph_in g)) o (outgoing (graph_in g) k))
    (e : g.cables ≡ size (graph_in g)) where
  pub opens : Opens g.cables o p
  unfolding outs
  opens = record {
    ports = omega (arith, length-map p.ports.now port_in, ap length q.ports, all_out (ins (graph_in g) k) (outs (graph_in g) k) (degree (graph_in g) v.ranked k), h.count);
    lines = ap length (lines_held (upper (graph_in g)) h) ∙ sym h.count;
    below = lines_below (graph_in g) k g.cables o e (lines_held (upper (graph_in g)) h) h.count;
  }

  pub columns_next :
      {c : code-columns.Columns} {ys qs : List ℕ} → ColumnsOf g k c
      → take g.cables ys ≡ set_each (lines_in o) (port_columns p) (map (moved_by p) (take g.cables c.cables))
      → take (k + 1) qs ≡ map (moved_by p) (take k c.parts) ++ (p.column + p.left) ∷ []
      → ColumnsOf g (k + 1) (record { cables = ys; parts = qs; count = c.count + p.left + p.right })
  unfolding columns step opening taken_column lefts rights ins outs
  columns_next s hy hq =
      let G = graph_in g in
      rw add-one
      (record {
        cables =
            hy
            ∙ opening_same (lines_held (upper G) h) q.column q.left q.right q.ports s.cables
            ∙ opened_cables G k _ (columns G k).cables (moved _ _ _) (length-map (out_ports (ins G k) (outs G k)) _ ∙ all_out (ins G k) (outs G k) (degree G v.ranked k)) (length_cables G k);
        parts = (rw add-one at hq) ∙ standing_same q.column q.left q.right s.parts;
        count = rw (s.count, q.left, q.right);
      })

-- the same, of the columns that were lent, with those behind them
pub columns_stand :
    {g : Graph} (v : GraphFits g) (k : ℕ) {p : Placement} → StandsAt (graph_in g) k p → {o : Incident} → Holds (upper (graph_in g)) o (outgoing (graph_in g) k)
    → {c : code-columns.Columns} {ys qs : List ℕ} (rest : List ℕ) → ColumnsOf g k c → length ys ≡ length (take g.cables c.cables)
    → ys ≡ set_each (lines_in o) (port_columns p) (map (moved_by p) (take g.cables c.cables))
    → take (k + 1) qs ≡ map (moved_by p) (take k c.parts) ++ (p.column + p.left) ∷ []
    → ColumnsOf g (k + 1) (record { cables = ys ++ rest; parts = qs; count = c.count + (p.left + p.right) })
columns_stand {g} v k {p} q h {c} {ys} {qs} rest s n hy hq =
    let sums : c.count + p.left + p.right ≡ c.count + (p.left + p.right) = omega arith in
    subst (λ (w : ℕ). ColumnsOf g (k + 1) (record { cables = ys ++ rest; parts = qs; count = w })) sums
    (columns_next v k q h (lines_count g) s (take_at ys rest g.cables (n ∙ lent v s) ∙ hy) hq)

pub columns_start : {g : Graph} {ps : List ℕ} → GraphFits g → g.cables ≡ size (graph_in g) → ColumnsOf g 0 (record { cables = replicate most_cables 0; parts = ps; count = 1 })
unfolding columns
columns_start {g} v e = record { cables = take_replicate g.cables most_cables 0 v.cables ∙ ap (λ (m : ℕ). replicate m 0) e; parts = refl; count = refl }
