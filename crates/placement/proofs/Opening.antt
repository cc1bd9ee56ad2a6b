-- The outgoing cables of a rank get their columns one after the other: each of them has its own then, and every other cable keeps what it
-- had. Assumes nothing.
use Prim.Native.Nat.{ℕ, zero, suc, ◌+◌, ◌<◌, ◌≤◌}
use native.Mathlib.Numerals.{add-one}
use native.Mathlib.Omega.{arith}
use native.Mathlib.Decide.{ℕ_discrete}
use mathlib.Core.Path.{◌≡◌, refl, sym, ap, ◌∙◌}
use mathlib.Core.Bool.{cond}
use mathlib.Core.List.{List, [], ◌∷◌, map}
use lib.ListN.{length, get_or, take, set, length-map, get_or-map}
use lib.Seq.{get_or-take, take_all}
use lib.Dec.{eqb}
use borrow.Author.Tests.{eq-eqb, ne_eqb}
use Rattle.lists.specs.Select.{tabulate, index_of}
use Rattle.lists.specs.Stores.{set_each}
use Rattle.lists.proofs.Select.{get_d_mem, get_d_map}
use Rattle.lists.proofs.Fill.{tabulate_of}
use Rattle.lists.proofs.SetEach.{length_set_each, set_each_other, set_each_there}
use Rattle.order.specs.Graph.{StGraph, size, lower}
use Rattle.incidence.specs.declared.incident.Keyed.{Keyed}
use Rattle.incidence.specs.declared.incident.Incident.{Incident}
use Rattle.ports.specs.declared.figures.Port.{Port}
use Rattle.ports.specs.declared.figures.Placement.{Placement}
use Rattle.ports.specs.Placements.{port_in}
use Rattle.layout.specs.Ports.{port_column}
use Rattle.layout.specs.Columns.{outgoing}
use Rattle.incidence.specs.Incidents.{held, line_in, lines_in}
use Rattle.placement.specs.Placements.{Opens, column_by, port_columns}
use Rattle.layout.proofs.Step.{outgoing_e, outgoing_i, distinct_outgoing}

-- The outgoing cables of rank k: each has the column at its place, and every other one is moved by f
pub opened_cables :
    (G : StGraph) (k : ℕ) (vs xs : List ℕ) (f : ℕ → ℕ) → length vs ≡ length (outgoing G k) → length xs ≡ size G
    → set_each (outgoing G k) vs (map f xs) ≡ tabulate (size G) (λ i. cond (eqb (lower G i) k) (get_or vs (index_of i (outgoing G k)) 0) (f (get_or xs i 0)))
opened_cables G k vs xs f e long =
    tabulate_of (size G) _ 0 (set_each (outgoing G k) vs (map f xs)) (length_set_each (outgoing G k) vs (map f xs) ∙ length-map xs f ∙ long) (λ i h. go i h (ℕ_discrete (lower G i) k))
  where
    go : (i : ℕ) → i < size G → Dec (lower G i ≡ k)
        → get_or (set_each (outgoing G k) vs (map f xs)) i 0 ≡ cond (eqb (lower G i) k) (get_or vs (index_of i (outgoing G k)) 0) (f (get_or xs i 0))
    go i h (yes q) =
        rw (eq-eqb (lower G i) k q) (set_each_there (outgoing G k) vs (map f xs) i (distinct_outgoing G k) e (omega (arith, length-map xs f)) (outgoing_i G i k h q))
    go i h (no q) =
        rw (ne_eqb (lower G i) k q) (set_each_other (outgoing G k) vs (map f xs) i (λ m. q (outgoing_e G k m).1) ∙ get_d_map f xs i 0 0 (omega arith))

-- The cables that are opened so far, and one more

pub opened_none : (is vs xs : List ℕ) → xs ≡ set_each (take 0 is) (take 0 vs) xs
unfolding set_each
opened_none is vs xs = refl

more : (is vs xs : List ℕ) (i : ℕ) → i < length is → i < length vs
    → set (set_each (take i is) (take i vs) xs) (get_or is i 0) (get_or vs i 0) ≡ set_each (take (suc i) is) (take (suc i) vs) xs
unfolding set_each
more [] vs xs i h g = absurd (omega arith)
more (k ∷ is) [] xs i h g = absurd (omega arith)
more (k ∷ is) (v ∷ vs) xs zero h g = refl
more (k ∷ is) (v ∷ vs) xs (suc i) h g = more is vs (set xs k v) i (omega arith) (omega arith)

module _ {m : ℕ} {o : Incident} {p : Placement} (h : Opens m o p) where
  columns_count : length (port_columns p) ≡ o.count
  columns_count = length-map (map port_in p.ports.now) (port_column p.column p.left) ∙ length-map p.ports.now port_in ∙ h.ports

  -- the line at a place
  module _ (i : ℕ) (b : i < o.count) where
    line_read : (none : Keyed) → none.line ≡ 0 → (get_or o.places i none).line ≡ get_or (lines_in o) i 0
    line_read none e = sym (ap (λ (d : ℕ). get_or (lines_in o) i d) (sym e) ∙ get_or-map line_in (held o) i none ∙ ap line_in (get_or-take o.count o.places i none b))

    pub line_below : (none : Keyed) → none.line ≡ 0 → (get_or o.places i none).line < m
    line_below none e = omega (arith, line_read none e, h.below i b)

    column_read : (q : Port) → column_by p (get_or p.ports.now i q) ≡ get_or (port_columns p) i 0
    column_read q =
        let b' : i < length (map port_in p.ports.now) = omega (arith, h.ports, length-map p.ports.now port_in) in
        sym (get_d_map (port_column p.column p.left) (map port_in p.ports.now) i (port_in q) 0 b' ∙ ap (port_column p.column p.left) (get_or-map port_in p.ports.now i q))

    pub opened_more :
        (xs : List ℕ) {ys : List ℕ} {v : ℕ} (none : Keyed) (q : Port) → none.line ≡ 0 → v ≡ column_by p (get_or p.ports.now i q)
        → ys ≡ set_each (take i (lines_in o)) (take i (port_columns p)) xs
        → set ys (get_or o.places i none).line v ≡ set_each (take (i + 1) (lines_in o)) (take (i + 1) (port_columns p)) xs
    opened_more xs none q e f s =
        rw (add-one, s, line_read none e, f, column_read q)
        (more (lines_in o) (port_columns p) xs i (omega (arith, h.lines)) (omega (arith, columns_count)))

  pub opened_all : (xs : List ℕ) {ys : List ℕ} (i : ℕ) → o.count ≤ i → ys ≡ set_each (take i (lines_in o)) (take i (port_columns p)) xs
      → ys ≡ set_each (lines_in o) (port_columns p) xs
  opened_all xs i b s =
      rw (take_all i (lines_in o) (omega (arith, h.lines)), take_all i (port_columns p) (omega (arith, columns_count))) at s

-- The lines of the cables that go out

pub lines_below : (G : StGraph) (k m : ℕ) (o : Incident) → m ≡ size G → lines_in o ≡ outgoing G k → o.count ≡ length (outgoing G k)
    → (j : ℕ) → j < o.count → get_or (lines_in o) j 0 < m
lines_below G k m o q e c j h = rw e (omega (arith, (outgoing_e G k (get_d_mem (outgoing G k) j 0 (omega arith))).0))
