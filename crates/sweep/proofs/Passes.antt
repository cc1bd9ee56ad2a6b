-- A sweep of the lines against each other as one list of passes: a row, a line, and the cell of a column's run that it passes. Row after
-- row, in each line after line, none twice, and exactly what the visits say. Assumes nothing.
use Prim.Native.Nat.{ℕ, zero, suc, ◌+◌, ◌-◌, ◌*◌, ◌/◌, ◌<◌, ◌≤◌}
use native.Mathlib.Omega.{arith}
use native.Mathlib.Decide.{ℕ_discrete}
use mathlib.Core.Path.{◌≡◌, refl, sym, ap, subst, ◌∙◌}
use mathlib.Core.Bool.{Bool, true, false, cond, true≢false}
use mathlib.Core.Logic.{◌⊎◌, inl, inr}
use mathlib.Core.List.Memᴰ
use mathlib.Core.List.{List, [], ◌∷◌, ◌++◌, Memᴰ}
use lib.ListN.{length, get_or}
use Rattle.lists.specs.Select.{cons_if, member}
use Rattle.lists.proofs.Bools.{or_fails}
use Rattle.lists.proofs.Sets.{member_i}
use Rattle.lists.proofs.Filters.{cons_if_e, cons_if_here, cons_if_there}
use Rattle.drawing.specs.Drawing.{Route, no_route, Drawing, route_at}
use Rattle.sweep.specs.Visits.{Visit}
use Rattle.sweep.specs.Boards.{pass_column, visit_pair, visits_pair}
use Rattle.sweep.specs.Sweep.{route_visits, lines_pair, rows_pair}
use Rattle.sweep.specs.Rows.{visits_of, columns, repeats}
use Rattle.sweep.proofs.Visits.{column_i}

pub record Pass : Type 0 where
  pub row : ℕ
  pub line : ℕ
  pub cell : ℕ

abbrev pub pass : ℕ → ℕ → ℕ → Pass
pass y i a = record { row = y; line = i; cell = a }

-- the column's other cell
unfoldable pub across : ℕ → ℕ
across a = 4 * (a / 2) + 1 - a

pub across_one : (x : ℕ) → across (2 * x) ≡ 2 * x + 1
unfolding across
across_one x = omega arith

pub across_other : (x : ℕ) → across (2 * x + 1) ≡ 2 * x
unfolding across
across_other x = omega arith

pub across_sum : (a : ℕ) → across a + a ≡ 4 * (a / 2) + 1
unfolding across
across_sum a = omega arith

-- The passes as a list

-- what a pass does to the table, and what a list of them does
unfoldable pub step : List ℕ → Pass → List ℕ
step b p = pass_column p.row p.line p.cell (across p.cell) b

unfoldable pub after : List ℕ → List Pass → List ℕ
after b [] = b
after b (p ∷ ps) = after (step b p) ps

-- the passes of a visit, of a line in a row, of a row and of all rows
unfoldable pub visit_passes : ℕ → ℕ → Visit → List Pass
visit_passes y i v = cons_if v.level (pass y i (2 * v.column)) (cons_if v.upright (pass y i (2 * v.column + 1)) [])

unfoldable pub line_passes : ℕ → ℕ → List Visit → List Pass
line_passes y i [] = []
line_passes y i (v ∷ vs) = visit_passes y i v ++ line_passes y i vs

unfoldable pub row_passes : Drawing → ℕ → ℕ → List Route → List Pass
row_passes d y i [] = []
row_passes d y i (r ∷ rs) = line_passes y i (route_visits d y r) ++ row_passes d y (i + 1) rs

unfoldable pub sweep_passes : Drawing → ℕ → ℕ → List Pass
sweep_passes d y zero = []
sweep_passes d y (suc k) = row_passes d y 0 d.routes ++ sweep_passes d (y + 1) k

after_append : (b : List ℕ) (ps qs : List Pass) → after b (ps ++ qs) ≡ after (after b ps) qs
unfolding after
after_append b [] qs = refl
after_append b (p ∷ ps) qs = after_append (step b p) ps qs

visit_after : (y i : ℕ) (b : List ℕ) (v : Visit) → visit_pair y i b v ≡ after b (visit_passes y i v)
unfolding visit_pair visit_passes after step
visit_after y i b v = go v.level v.upright
  where
    go :
        (s t : Bool)
        → cond t (pass_column y i (2 * v.column + 1) (2 * v.column) (cond s (pass_column y i (2 * v.column) (2 * v.column + 1) b) b))
        (cond s (pass_column y i (2 * v.column) (2 * v.column + 1) b) b)
        ≡ after b (cons_if s (pass y i (2 * v.column)) (cons_if t (pass y i (2 * v.column + 1)) []))
    go true true = rw (across_one, across_other) refl
    go true false = rw across_one refl
    go false true = rw across_other refl
    go false false = refl

visits_after : (y i : ℕ) (b : List ℕ) (vs : List Visit) → visits_pair y i b vs ≡ after b (line_passes y i vs)
unfolding visits_pair line_passes after
visits_after y i b [] = refl
visits_after y i b (v ∷ vs) =
    ap (λ (c : List ℕ). visits_pair y i c vs) (visit_after y i b v)
    ∙ visits_after y i (after b (visit_passes y i v)) vs
    ∙ sym (after_append b (visit_passes y i v) (line_passes y i vs))

lines_after : (d : Drawing) (y i : ℕ) (b : List ℕ) (rs : List Route) → lines_pair d y b i rs ≡ after b (row_passes d y i rs)
unfolding lines_pair row_passes after
lines_after d y i b [] = refl
lines_after d y i b (r ∷ rs) =
    ap (λ (c : List ℕ). lines_pair d y c (i + 1) rs) (visits_after y i b (route_visits d y r))
    ∙ lines_after d y (i + 1) (after b (line_passes y i (route_visits d y r))) rs
    ∙ sym (after_append b (line_passes y i (route_visits d y r)) (row_passes d y (i + 1) rs))

-- the sweep is its passes
pub rows_after : (d : Drawing) (b : List ℕ) (y k : ℕ) → rows_pair d b y k ≡ after b (sweep_passes d y k)
unfolding rows_pair sweep_passes after
rows_after d b y zero = refl
rows_after d b y (suc k) =
    ap (λ (c : List ℕ). rows_pair d c (y + 1) k) (lines_after d y 0 b d.routes)
    ∙ rows_after d (after b (row_passes d y 0 d.routes)) (y + 1) k
    ∙ sym (after_append b (row_passes d y 0 d.routes) (sweep_passes d (y + 1) k))

-- What is in it

-- cell a is the visit's, on a run of that kind
abbrev pub Flag : Visit → ℕ → Type 0
Flag v a = ((v.level ≡ true) × (a ≡ 2 * v.column)) ⊎ ((v.upright ≡ true) × (a ≡ 2 * v.column + 1))

pub flag_column : (v : Visit) (a : ℕ) → Flag v a → v.column ≡ a / 2
flag_column v a (inl h) = omega arith
flag_column v a (inr h) = omega arith

-- and that of one of these visits
abbrev pub Of : List Visit → ℕ → Type 0
Of vs a = (v : Visit) × Memᴰ v vs × Flag v a

visit_e :
    (y i : ℕ) (v : Visit) (p : Pass) → Memᴰ p (visit_passes y i v)
    → (p.row ≡ y) × (p.line ≡ i) × Flag v p.cell
unfolding visit_passes
visit_e y i v p m = go (cons_if_e v.level m)
  where
    Goal : Type 0
    Goal = (p.row ≡ y) × (p.line ≡ i) × Flag v p.cell

    on : (((v.upright ≡ true) × (p ≡ pass y i (2 * v.column + 1))) ⊎ Memᴰ p []) → Goal
    on (inl h) = (ap (λ (q : Pass). q.row) h.1, ap (λ (q : Pass). q.line) h.1, inr (h.0, ap (λ (q : Pass). q.cell) h.1))
    on (inr h) = absurd (Memᴰ.not-nil h)

    go : (((v.level ≡ true) × (p ≡ pass y i (2 * v.column))) ⊎ Memᴰ p (cons_if v.upright (pass y i (2 * v.column + 1)) [])) → Goal
    go (inl h) = (ap (λ (q : Pass). q.row) h.1, ap (λ (q : Pass). q.line) h.1, inl (h.0, ap (λ (q : Pass). q.cell) h.1))
    go (inr h) = on (cons_if_e v.upright h)

line_e : (y i : ℕ) (vs : List Visit) (p : Pass) → Memᴰ p (line_passes y i vs) → (p.row ≡ y) × (p.line ≡ i) × Of vs p.cell
unfolding line_passes
line_e y i [] p m = absurd (Memᴰ.not-nil m)
line_e y i (v ∷ vs) p m = go (λ n. line_e y i vs p n) (Memᴰ.append_cases (visit_passes y i v) m)
  where
    go :
        (Memᴰ p (line_passes y i vs) → (p.row ≡ y) × (p.line ≡ i) × Of vs p.cell)
        → Memᴰ p (visit_passes y i v) ⊎ Memᴰ p (line_passes y i vs) → (p.row ≡ y) × (p.line ≡ i) × Of (v ∷ vs) p.cell
    go f (inl n) = let r = visit_e y i v p n in (r.0, r.1, (v, Memᴰ.head refl, r.2))
    go f (inr n) = let r = f n in (r.0, r.1, (r.2.0, Memᴰ.tail r.2.1, r.2.2))

line_i : (y i : ℕ) (vs : List Visit) (a : ℕ) → Of vs a → Memᴰ (pass y i a) (line_passes y i vs)
unfolding line_passes visit_passes
line_i y i [] a o = absurd (Memᴰ.not-nil o.1)
line_i y i (v ∷ vs) a o = go (λ n. line_i y i vs a n) (Memᴰ.cases_cons o.1) o.2
  where
    here : (w : Visit) → w ≡ v → Flag w a → Memᴰ (pass y i a) (visit_passes y i v)
    here w e (inl h) =
        cons_if_here (cons_if v.upright (pass y i (2 * v.column + 1)) []) v.level (ap (λ (z : Visit). z.level) (sym e) ∙ h.0)
        (ap (λ (c : ℕ). pass y i c) (h.1 ∙ ap (λ (z : Visit). 2 * z.column) e))
    here w e (inr h) =
        cons_if_there (pass y i (2 * v.column)) v.level
        (cons_if_here [] v.upright (ap (λ (z : Visit). z.upright) (sym e) ∙ h.0)
        (ap (λ (c : ℕ). pass y i c) (h.1 ∙ ap (λ (z : Visit). 2 * z.column + 1) e)))

    go :
        (Of vs a → Memᴰ (pass y i a) (line_passes y i vs)) → (o.0 ≡ v) ⊎ Memᴰ o.0 vs
        → Flag o.0 a
        → Memᴰ (pass y i a) (visit_passes y i v ++ line_passes y i vs)
    go f (inl e) h = Memᴰ.append_left (line_passes y i vs) (here o.0 e h)
    go f (inr m) h = Memᴰ.append_right (visit_passes y i v) (f (o.0, m, h))

row_e :
    (d : Drawing) (y i : ℕ) (rs : List Route) (p : Pass) → Memᴰ p (row_passes d y i rs)
    → (k : ℕ) × (k < length rs) × (p.row ≡ y) × (p.line ≡ i + k) × Of (route_visits d y (get_or rs k no_route)) p.cell
unfolding row_passes
row_e d y i [] p m = absurd (Memᴰ.not-nil m)
row_e d y i (r ∷ rs) p m = go (λ n. row_e d y (i + 1) rs p n) (Memᴰ.append_cases (line_passes y i (route_visits d y r)) m)
  where
    go :
        (Memᴰ p (row_passes d y (i + 1) rs)
        → (k : ℕ) × (k < length rs) × (p.row ≡ y) × (p.line ≡ i + 1 + k) × Of (route_visits d y (get_or rs k no_route)) p.cell)
        → Memᴰ p (line_passes y i (route_visits d y r)) ⊎ Memᴰ p (row_passes d y (i + 1) rs)
        → (k : ℕ) × (k < suc (length rs)) × (p.row ≡ y) × (p.line ≡ i + k) × Of (route_visits d y (get_or (r ∷ rs) k no_route)) p.cell
    go f (inl n) = let q = line_e y i (route_visits d y r) p n in (0, omega arith, q.0, omega (arith, q.1), q.2)
    go f (inr n) = let q = f n in (suc q.0, omega (arith, q.1), q.2, omega (arith, q.3), q.4)

row_i :
    (d : Drawing) (y i : ℕ) (rs : List Route) (k a : ℕ) → k < length rs → Of (route_visits d y (get_or rs k no_route)) a
    → Memᴰ (pass y (i + k) a) (row_passes d y i rs)
unfolding row_passes
row_i d y i [] k a h o = absurd (omega arith)
row_i d y i (r ∷ rs) zero a h o =
    Memᴰ.append_left (row_passes d y (i + 1) rs)
    (subst (λ (j : ℕ). Memᴰ (pass y j a) (line_passes y i (route_visits d y r))) (omega arith) (line_i y i (route_visits d y r) a o))
row_i d y i (r ∷ rs) (suc k) a h o =
    Memᴰ.append_right (line_passes y i (route_visits d y r))
    (subst (λ (j : ℕ). Memᴰ (pass y j a) (row_passes d y (i + 1) rs)) (omega arith) (row_i d y (i + 1) rs k a (omega arith) o))

-- a pass of a line of the drawing, as the line's visits have it
abbrev pub Told : Drawing → Pass → Type 0
Told d p = (p.line < length d.routes) × Of (visits_of d p.row p.line) p.cell

row_told : (d : Drawing) (y : ℕ) (p : Pass) → Memᴰ p (row_passes d y 0 d.routes) → (p.row ≡ y) × Told d p
unfolding route_at
row_told d y p m =
    let r = row_e d y 0 d.routes p m in
    let e : r.0 ≡ p.line = omega (arith, r.3) in (
      r.2,
      (
        omega (arith, r.1, e),
        subst (λ (z : ℕ). Of (route_visits d z (get_or d.routes p.line no_route)) p.cell) (sym r.2)
            (subst (λ (k : ℕ). Of (route_visits d y (get_or d.routes k no_route)) p.cell) e r.4),
      ),
    )

-- its passes are those of the visits
pub sweep_e :
    (d : Drawing) (y k : ℕ) (p : Pass) → Memᴰ p (sweep_passes d y k)
    → (y ≤ p.row) × (p.row < y + k) × Told d p
unfolding sweep_passes
sweep_e d y zero p m = absurd (Memᴰ.not-nil m)
sweep_e d y (suc k) p m = go (λ n. sweep_e d (y + 1) k p n) (Memᴰ.append_cases (row_passes d y 0 d.routes) m)
  where
    go :
        (Memᴰ p (sweep_passes d (y + 1) k) → (y + 1 ≤ p.row) × (p.row < y + 1 + k) × Told d p)
        → Memᴰ p (row_passes d y 0 d.routes) ⊎ Memᴰ p (sweep_passes d (y + 1) k)
        → (y ≤ p.row) × (p.row < y + suc k) × Told d p
    go f (inl n) = let r = row_told d y p n in (omega (arith, r.0), omega (arith, r.0), r.1)
    go f (inr n) = let r = f n in (omega (arith, r.0), omega (arith, r.1), r.2)

pub sweep_i :
    (d : Drawing) (y k z i a : ℕ) → y ≤ z → z < y + k → i < length d.routes → Of (visits_of d z i) a
    → Memᴰ (pass z i a) (sweep_passes d y k)
unfolding sweep_passes route_at
sweep_i d y zero z i a g h l o = absurd (omega arith)
sweep_i d y (suc k) z i a g h l o = go (λ q. sweep_i d (y + 1) k z i a q (omega arith) l o) (ℕ_discrete z y)
  where
    go :
        (y + 1 ≤ z → Memᴰ (pass z i a) (sweep_passes d (y + 1) k)) → Dec (z ≡ y)
        → Memᴰ (pass z i a) (row_passes d y 0 d.routes ++ sweep_passes d (y + 1) k)
    go f (yes e) =
        Memᴰ.append_left (sweep_passes d (y + 1) k)
        (subst (λ (w : ℕ). Memᴰ (pass z i a) (row_passes d w 0 d.routes)) e
        (subst (λ (j : ℕ). Memᴰ (pass z j a) (row_passes d z 0 d.routes)) (omega arith) (row_i d z 0 d.routes i a l o)))
    go f (no e) = Memᴰ.append_right (row_passes d y 0 d.routes) (f (omega arith))

-- The sequence

-- p may stand before q
pub record Before (p q : Pass) : Type 0 where
  pub rows : p.row ≤ q.row
  pub lines : p.row ≡ q.row → p.line ≤ q.line
  pub apart : p.row ≡ q.row → p.line ≡ q.line → p.cell ≡ q.cell → ⊥

-- each may stand before all behind it
abbrev pub Ordered : List Pass → Type 0
Ordered [] = Unit {0}
Ordered (p ∷ ps) = ((q : Pass) → Memᴰ q ps → Before p q) × Ordered ps

ordered_append :
    (ps qs : List Pass) → Ordered ps → Ordered qs → ((p q : Pass) → Memᴰ p ps → Memᴰ q qs → Before p q) → Ordered (ps ++ qs)
ordered_append [] qs o r h = r
ordered_append (p ∷ ps) qs o r h = (
  λ q m. go q (Memᴰ.append_cases ps m),
  ordered_append ps qs o.1 r (λ s q m n. h s q (Memᴰ.tail m) n),
)
  where
    go : (q : Pass) → Memᴰ q ps ⊎ Memᴰ q qs → Before p q
    go q (inl m) = o.0 q m
    go q (inr m) = h p q (Memᴰ.head refl) m

visit_ordered : (y i : ℕ) (v : Visit) → Ordered (visit_passes y i v)
unfolding visit_passes
visit_ordered y i v = go v.level v.upright
  where
    two : (q : Pass) → Memᴰ q (pass y i (2 * v.column + 1) ∷ []) → Before (pass y i (2 * v.column)) q
    two q m = at (Memᴰ.cases_cons m)
      where
        at : (q ≡ pass y i (2 * v.column + 1)) ⊎ Memᴰ q [] → Before (pass y i (2 * v.column)) q
        at (inl e) =
            let r : q.row ≡ y = ap (λ (p : Pass). p.row) e in
            let l : q.line ≡ i = ap (λ (p : Pass). p.line) e in
            let c : q.cell ≡ 2 * v.column + 1 = ap (λ (p : Pass). p.cell) e in
            record { rows = omega arith; lines = λ h. omega arith; apart = λ h g k. omega arith }
        at (inr n) = absurd (Memᴰ.not-nil n)

    go : (s t : Bool) → Ordered (cons_if s (pass y i (2 * v.column)) (cons_if t (pass y i (2 * v.column + 1)) []))
    go true true = (two, (λ q m. absurd (Memᴰ.not-nil m), tt))
    go true false = (λ q m. absurd (Memᴰ.not-nil m), tt)
    go false true = (λ q m. absurd (Memᴰ.not-nil m), tt)
    go false false = tt

member_column : (v : Visit) (vs : List Visit) (x : ℕ) → Memᴰ v vs → x ≡ v.column → member x (columns vs) ≡ true
member_column v vs x m e = member_i (columns vs) (Memᴰ.cast e (column_i m))

line_ordered : (y i : ℕ) (vs : List Visit) → repeats (columns vs) ≡ false → Ordered (line_passes y i vs)
unfolding line_passes repeats
line_ordered y i [] h = tt
line_ordered y i (v ∷ vs) h =
    let s = or_fails (member v.column (columns vs)) (repeats (columns vs)) h in
    ordered_append (visit_passes y i v) (line_passes y i vs) (visit_ordered y i v) (line_ordered y i vs s.1) (apart s.0)
  where
    apart :
        member v.column (columns vs) ≡ false → (p q : Pass) → Memᴰ p (visit_passes y i v)
        → Memᴰ q (line_passes y i vs) → Before p q
    apart n p q m k =
        let e = visit_e y i v p m in
        let f = line_e y i vs q k in
        let c : v.column ≡ p.cell / 2 = flag_column v p.cell e.2 in
        let w : f.2.0.column ≡ q.cell / 2 = flag_column f.2.0 q.cell f.2.2 in
        record {
          rows = omega (arith, e.0, f.0);
          lines = λ r. omega (arith, e.1, f.1);
          apart = λ r l z. true≢false (sym (member_column f.2.0 vs v.column f.2.1 (omega (arith, c, w, z))) ∙ n);
        }

row_ordered :
    (d : Drawing) (y i : ℕ) (rs : List Route) → ((k : ℕ) → k < length rs → repeats (columns (route_visits d y (get_or rs k no_route))) ≡ false)
    → Ordered (row_passes d y i rs)
unfolding row_passes
row_ordered d y i [] h = tt
row_ordered d y i (r ∷ rs) h =
    ordered_append (line_passes y i (route_visits d y r)) (row_passes d y (i + 1) rs)
    (line_ordered y i (route_visits d y r) (h 0 (omega arith)))
    (row_ordered d y (i + 1) rs (λ k l. h (suc k) (omega arith))) apart
  where
    apart : (p q : Pass) → Memᴰ p (line_passes y i (route_visits d y r)) → Memᴰ q (row_passes d y (i + 1) rs) → Before p q
    apart p q m k =
        let e = line_e y i (route_visits d y r) p m in
        let f = row_e d y (i + 1) rs q k in
        record {
          rows = omega (arith, e.0, f.2);
          lines = λ s. omega (arith, e.1, f.3);
          apart = λ s l z. omega (arith, e.1, f.3);
        }

-- so it is in a sweep in which no line visits a column twice in a row
pub sweep_ordered :
    (d : Drawing) (y k : ℕ) → ((z i : ℕ) → z < y + k → i < length d.routes → repeats (columns (visits_of d z i)) ≡ false)
    → Ordered (sweep_passes d y k)
unfolding sweep_passes route_at
sweep_ordered d y zero h = tt
sweep_ordered d y (suc k) h =
    ordered_append (row_passes d y 0 d.routes) (sweep_passes d (y + 1) k) (row_ordered d y 0 d.routes (λ i l. h y i (omega arith) l))
    (sweep_ordered d (y + 1) k (λ z i g l. h z i (omega arith) l)) apart
  where
    apart : (p q : Pass) → Memᴰ p (row_passes d y 0 d.routes) → Memᴰ q (sweep_passes d (y + 1) k) → Before p q
    apart p q m n =
        let e = row_told d y p m in
        let f = sweep_e d (y + 1) k q n in
        record {
          rows = omega (arith, e.0, f.0);
          lines = λ s. omega (arith, e.0, f.0);
          apart = λ s l z. omega (arith, e.0, f.0);
        }
