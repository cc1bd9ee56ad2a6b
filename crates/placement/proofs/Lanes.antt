-- The bottom and the top connection and the course of a cable, as the code reads them. Assumes nothing.
use Prim.Native.Nat.{ℕ, ◌+◌, ◌-◌, ◌<◌}
use native.Mathlib.Omega.{arith}
use mathlib.Core.Path.{◌≡◌, refl, sym, ap, ◌∙◌}
use mir.Val.{bool_byte}
use mathlib.Core.Bool.{Bool, true, false, cond}
use mathlib.Core.List.{List}
use lib.ListN.{length, get_or, take}
use lib.Seq.{get_or-take}
use lib.Dec.{eqb, ltb}
use Rattle.lists.specs.Select.{one_if}
use Rattle.lists.proofs.Tests.{one_if_le}
use Rattle.order.specs.Graph.{StGraph, size, lower, upper, lines_at}
use Rattle.order.specs.RankedGraphs.{Ranked}
use Rattle.ranking.specs.Arrays.{graph_in, GraphFits}
use Rattle.ranking.specs.declared.graph.Graph.{Graph}
use Rattle.geometry.specs.Spots.{Spot, spot_at, spot_in}
use Rattle.placement.specs.declared.Columns as code-columns
use Rattle.placement.specs.declared.Course as code-course
use Rattle.incidence.specs.declared.incident.Incident.{Incident}
use Rattle.placement.specs.declared.connections.Connections.{Connections}
use Rattle.placement.specs.declared.courses.PlacedCable.{PlacedCable}
use Rattle.layout.specs.Columns.{bottom_line, top_line, outgoing, incoming, columns}
use Rattle.layout.specs.Points.{Course, bottom_rows, row, part_spot, course, course_of}
use Rattle.placement.specs.Laid.{ColumnsOf, course_in}
use Rattle.incidence.specs.Incidents.{at, lines_in, Holds}
use Rattle.placement.specs.Courses.{ConnectionsOf, Reaches, course_by}
use Rattle.incidence.proofs.Insertion.{lines_held}
use Rattle.ranking.proofs.GraphArrays.{span_at, lower_read, upper_read}
use Rattle.layout.proofs.Step.{length_parts}
use Rattle.incidence.proofs.LineSearch.{bottom_fourth, bottom_rows_lem, top_fourth, top_rows_lem}

-- The ends

pub one_more : (b : Bool) → bool_byte b ≡ one_if b
one_more true = refl
one_more false = refl

module _ {G : StGraph} (R : Ranked G) where
  pub bottom_reads : {f : Incident} {m r k : ℕ} → k ≡ 0 → Holds (upper G) f (outgoing G k) → m ≡ size G → r ≡ get_or (lines_in f) 3 m → r ≡ bottom_line G
  bottom_reads z h e q = q ∙ rw (lines_held (upper G) h, e, z) (bottom_fourth G R)

  pub top_reads : {f : Incident} {m r k : ℕ} (xs : List ℕ) → k ≡ G.parts - 1 → Holds (at xs) f (incoming G xs k) → m ≡ size G → r ≡ get_or (lines_in f) 3 m → r ≡ top_line G
  top_reads xs z h e q = q ∙ rw (lines_held (at xs) h, e, z) (top_fourth G R xs)

  pub ends_read :
      {e : Connections} {m : ℕ} → m ≡ size G → e.bottom_line ≡ bottom_line G → e.top_line ≡ top_line G
      → e.bottom_rows ≡ one_if (ltb e.bottom_line m) → e.top_rows ≡ one_if (ltb e.top_line m) → ConnectionsOf G e
  ends_read q b t d r = record {
    bottom_rows_lem = d ∙ rw (b, q) (sym (bottom_rows_lem G R));
    top_rows_lem = r ∙ rw (t, q) (sym (top_rows_lem G R));
    bottom_line_lem = b;
    top_line_lem = t;
  }

-- A course

course_same :
    {f f' t t' : Spot} {l l' c c' h h' : ℕ} → f ≡ f' → l ≡ l' → c ≡ c' → h ≡ h' → t ≡ t'
    → ◌≡◌ {A = Course} (record { from = f; low = l; column = c; high = h; to = t }) (record { from = f'; low = l'; column = c'; high = h'; to = t' })
course_same e f g h i = cc

pub course_made :
    (e : Connections) (c : PlacedCable) (ps : List ℕ) {r : code-course.Course} → spot_in r.from ≡ spot_at (get_or ps c.span.lower.0 0) (e.bottom_rows + c.span.lower.0)
    → r.low ≡ cond (eqb c.line e.bottom_line) 0 (e.bottom_rows + c.span.lower.0) → r.column ≡ c.column
    → r.high ≡ cond (eqb c.line e.top_line) (e.bottom_rows + length ps) (e.bottom_rows + c.span.upper.0)
    → spot_in r.to ≡ spot_at (get_or ps c.span.upper.0 0) (e.bottom_rows + c.span.upper.0) → course_in r ≡ course_by ps e c
unfolding course_by
course_made e c ps f l x h t = course_same f l x h t

course_reads :
    {e : Connections} {ps : List ℕ} (c : PlacedCable) (G : StGraph) → ps ≡ (columns G G.parts).parts → ConnectionsOf G e → c.span.lower.0 ≡ lower G c.line
    → c.span.upper.0 ≡ upper G c.line → c.column ≡ get_or (columns G G.parts).cables c.line 0 → course_by ps e c ≡ course_of G c.line
unfolding course_by course_of course part_spot row
course_reads {e} {ps} c G p h q r s =
    let n : length ps ≡ G.parts = ap length p ∙ length_parts G G.parts in
    rw (n, p, h.bottom_rows_lem, h.bottom_line_lem, h.top_line_lem, q, r, s)

-- The cable at line i, of arrays

module _
    {g : Graph} (v : GraphFits g) {c : code-columns.Columns} (s : ColumnsOf g g.parts c) (i : ℕ) (b : i < g.cables)
    {e : Connections} (h : ConnectionsOf (graph_in g) e)
  where
    -- read off the arrays
    abbrev cable_at : PlacedCable
    cable_at = record { line = i; span = span_at g.spans i; column = get_or c.cables i 0 }

    column_read : get_or c.cables i 0 ≡ get_or (columns (graph_in g) g.parts).cables i 0
    column_read = sym (get_or-take g.cables c.cables i 0 b) ∙ ap (λ (l : List ℕ). get_or l i 0) s.cables

    pub cable_reaches : (n : ℕ) → g.cables ≡ size (graph_in g) → g.parts ≡ n → Reaches n e cable_at
    unfolding bottom_rows
    cable_reaches n f p =
        let u = v.ranked.rises i (omega arith) in
        let w = v.ranked.inside i (omega arith) in
        record {
          lower_part = omega (arith, lower_read g.cables g.spans i b);
          upper_part = omega (arith, upper_read g.cables g.spans i b);
          most = omega (arith, v.most);
          below = omega (arith, h.bottom_rows_lem, one_if_le (eqb (length (lines_at (size (graph_in g)) (lower (graph_in g)) 0)) 4));
        }

    pub cable_course : {r : code-course.Course} → course_in r ≡ course_by (take g.parts c.parts) e cable_at → course_in r ≡ course_of (graph_in g) i
    cable_course t = t ∙ course_reads cable_at (graph_in g) s.parts h (lower_read g.cables g.spans i b) (upper_read g.cables g.spans i b) column_read
