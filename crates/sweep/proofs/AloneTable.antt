-- The table in which each line is held against itself and against the parts: it finds the lowest line that is wrong in some row.
-- Assumes nothing.
use Prim.Native.Nat.{ℕ, zero, suc, ◌+◌, ◌*◌, ◌/◌, ◌<◌, ◌≤◌}
use native.Mathlib.Omega.{arith}
use native.Mathlib.Decide.{ℕ_discrete}
use mathlib.Core.Path.{◌≡◌, refl, sym, ap, ◌∙◌, subst}
use mathlib.Core.Bool.{Bool, true, false, cond, not, ◌&&◌, true≢false}
use mathlib.Core.Logic.{◌⊎◌, inl, inr}
use mathlib.Core.List.{List, [], ◌∷◌, Memᴰ}
use lib.ListN.{length, get_or, length-set}
use lib.Seq.{get_or-set_same, get_or-set_other}
use lib.Dec.{eqb}
use borrow.Author.Tests.{eqb-false, eq-eqb, ne_eqb, not-true}
use Rattle.lists.proofs.Bools.{and_e, or_e, or_right}
use Rattle.geometry.specs.Spots.{Spot, spot_at, origin}
use Rattle.drawing.specs.Drawing.{Route, Drawing, no_route, spot_of, route_at}
use Rattle.sweep.specs.Visits.{Visit}
use Rattle.sweep.specs.Boards.{Strand, stamp, number_in, in_row, one_cell, other_cell, lowest_place, shared, mark_part, foreign, was_here, visits_alone}
use Rattle.sweep.specs.Sweep.{strand_of, parts_marked, lines_alone, rows_alone, blank, alone_places, lowest_alone}
use Rattle.sweep.specs.Rows.{visits_of, columns, repeats, Strange, RowWrong, Roomy}
use Rattle.sweep.proofs.Blank.{lowest, blank_length, blank_cell, blank_lowest}
use Rattle.sweep.proofs.AloneVisits.{Hit, Passed, passed}

-- The parts of a row

-- what the cell of column x of row y says of the parts below p
data Spotted (d : Drawing) (y p x cell : ℕ) : Type 0 where
  bare : cell < (y + 1) * 1024 → ((q : ℕ) → q < p → spot_of d q ≡ spot_at x y → ⊥) → Spotted d y p x cell
  single :
      (q : ℕ) → q < p → spot_of d q ≡ spot_at x y → cell ≡ stamp y q → ((r : ℕ) → r < p → spot_of d r ≡ spot_at x y → r ≡ q)
      → Spotted d y p x cell
  several : (q r : ℕ) → q < r → r < p → spot_of d q ≡ spot_at x y → spot_of d r ≡ spot_at x y → cell ≡ stamp y shared → Spotted d y p x cell

in_row_lem : (y i cell : ℕ) → i < 1024 → cell ≡ stamp y i → in_row y cell ≡ true
unfolding in_row
in_row_lem y i cell h e = eq-eqb (cell / 1024) (y + 1) (omega arith)

not_in_row : (y cell : ℕ) → cell < (y + 1) * 1024 → in_row y cell ≡ false
unfolding in_row
not_in_row y cell h = ne_eqb (cell / 1024) (y + 1) (λ e. omega arith)

number_in_lem : (y i cell : ℕ) → i < 1024 → cell ≡ stamp y i → number_in cell ≡ i
number_in_lem y i cell h e = omega arith

module _ (d : Drawing) (y p x cell : ℕ) where
  -- part p stands elsewhere
  spotted_past : (spot_of d p ≡ spot_at x y → ⊥) → Spotted d y p x cell → Spotted d y (p + 1) x cell
  spotted_past n (bare h f) = bare h (λ q l e. go q l e (ℕ_discrete q p))
    where
      go : (q : ℕ) → q < p + 1 → spot_of d q ≡ spot_at x y → Dec (q ≡ p) → ⊥
      go q l e (yes i) = n (sym (ap (spot_of d) i) ∙ e)
      go q l e (no i) = f q (omega arith) e
  spotted_past n (single q l e c f) = single q (omega arith) e c (λ r k g. go r k g (ℕ_discrete r p))
    where
      go : (r : ℕ) → r < p + 1 → spot_of d r ≡ spot_at x y → Dec (r ≡ p) → r ≡ q
      go r k g (yes i) = absurd (n (sym (ap (spot_of d) i) ∙ g))
      go r k g (no i) = f r (omega arith) g
  spotted_past n (several q r l k e f c) = several q r l (omega arith) e f c

  -- part p stands here
  spotted_here :
      p < 512 → spot_of d p ≡ spot_at x y → Spotted d y p x cell → Spotted d y (p + 1) x (cond (in_row y cell) (stamp y shared) (stamp y p))
  spotted_here b s (bare h f) = rw (not_in_row y cell h) (single p (omega arith) s refl (λ r k g. go r k g (ℕ_discrete r p)))
    where
      go : (r : ℕ) → r < p + 1 → spot_of d r ≡ spot_at x y → Dec (r ≡ p) → r ≡ p
      go r k g (yes i) = i
      go r k g (no i) = absurd (f r (omega arith) g)
  spotted_here b s (single q l e c f) = rw (in_row_lem y q cell (omega arith) c) (several q p l (omega arith) e s refl)
  spotted_here b s (several q r l k e f c) = rw (in_row_lem y shared cell (omega arith) c) (several q r l (omega arith) e f refl)

-- after the parts of row y from part p on
record Laid (d : Drawing) (y p : ℕ) (b b' : List ℕ) : Type 0 where
  long : length b' ≡ 8193
  ones : (x : ℕ) → x < 4096 → Spotted d y p x (get_or b (one_cell x) 0) → Spotted d y (length d.parts) x (get_or b' (one_cell x) 0)
  others : (x : ℕ) → get_or b' (other_cell x) 0 ≡ get_or b (other_cell x) 0
  same : lowest b' ≡ lowest b

module _ (d : Drawing) (R : Roomy d) (y : ℕ) where
  module _ (b : List ℕ) (p : ℕ) (long : length b ≡ 8193) (below : p < length d.parts) where
    abbrev marked : Bool → List ℕ
    marked t = cond t (mark_part y b p (spot_of d p).x) b

    mark_long : (t : Bool) → length (marked t) ≡ 8193
    unfolding mark_part
    mark_long true =
        length-set b (one_cell (spot_of d p).x) (cond (in_row y (get_or b (one_cell (spot_of d p).x) 0)) (stamp y shared) (stamp y p)) ∙ long
    mark_long false = long

    mark_other : (t : Bool) (q : ℕ) → (q ≡ one_cell (spot_of d p).x → ⊥) → get_or (marked t) q 0 ≡ get_or b q 0
    unfolding mark_part
    mark_other true q n =
        get_or-set_other b (one_cell (spot_of d p).x) q (cond (in_row y (get_or b (one_cell (spot_of d p).x) 0)) (stamp y shared) (stamp y p)) 0 n
    mark_other false q n = refl

    mark_here :
        (x : ℕ) → x < 4096 → (spot_of d p).x ≡ x
        → get_or (marked true) (one_cell x) 0 ≡ cond (in_row y (get_or b (one_cell x) 0)) (stamp y shared) (stamp y p)
    unfolding mark_part
    mark_here x h e =
        rw e (get_or-set_same b (one_cell x) (cond (in_row y (get_or b (one_cell x) 0)) (stamp y shared) (stamp y p)) 0 (omega arith))

    mark_spotted :
        (x : ℕ) → x < 4096 → Spotted d y p x (get_or b (one_cell x) 0)
        → Spotted d y (p + 1) x (get_or (marked (eqb (spot_of d p).y y)) (one_cell x) 0)
    mark_spotted x h s = go (ℕ_discrete (spot_of d p).x x) (ℕ_discrete (spot_of d p).y y)
      where
        past : (spot_of d p ≡ spot_at x y → ⊥) → Spotted d y (p + 1) x (get_or b (one_cell x) 0)
        past n = spotted_past d y p x (get_or b (one_cell x) 0) n s

        go : Dec ((spot_of d p).x ≡ x) → Dec ((spot_of d p).y ≡ y) → Spotted d y (p + 1) x (get_or (marked (eqb (spot_of d p).y y)) (one_cell x) 0)
        go (yes e) (yes f) =
            rw (eq-eqb (spot_of d p).y y f, mark_here x h e)
            (spotted_here d y p x (get_or b (one_cell x) 0) (omega (arith, R.parts)) (λ i. record { x = e i; y = f i }) s)
        go (yes e) (no f) = rw (ne_eqb (spot_of d p).y y f) (past (λ g. f (ap (λ (r : Spot). r.y) g)))
        go (no e) f =
            rw (mark_other (eqb (spot_of d p).y y) (one_cell x) (λ g. e (omega arith))) (past (λ g. e (ap (λ (r : Spot). r.x) g)))

  laid :
      (b : List ℕ) (p : ℕ) (ss : List Spot) → length b ≡ 8193 → p + length ss ≡ length d.parts
      → ((k : ℕ) → k < length ss → get_or ss k origin ≡ spot_of d (p + k)) → Laid d y p b (parts_marked y b p ss)
  unfolding parts_marked
  laid b p [] long e f =
      let g : p ≡ length d.parts = omega arith in
      record {
        long = long;
        ones = λ x h s. subst (λ (n : ℕ). Spotted d y n x (get_or b (one_cell x) 0)) g s;
        others = λ x. refl;
        same = refl;
      }
  laid b p (s ∷ ss) long e f = rw here (more (laid next (p + 1) ss (mark_long b p long (omega arith) t) (omega arith) later))
    where
      here : s ≡ spot_of d p
      here = let z : p + 0 ≡ p = omega arith in f 0 (omega arith) ∙ ap (spot_of d) z

      t : Bool
      t = eqb (spot_of d p).y y

      next : List ℕ
      next = marked b p long (omega arith) t

      later : (k : ℕ) → k < length ss → get_or ss k origin ≡ spot_of d (p + 1 + k)
      later k h = let z : p + suc k ≡ p + 1 + k = omega arith in f (suc k) (omega arith) ∙ ap (spot_of d) z

      more : {b' : List ℕ} → Laid d y (p + 1) next b' → Laid d y p b b'
      more L = record {
        long = L.long;
        ones = λ x h s. L.ones x h (mark_spotted b p long (omega arith) x h s);
        others = λ x. L.others x ∙ mark_other b p long (omega arith) t (other_cell x) (λ g. omega arith);
        same = L.same ∙ mark_other b p long (omega arith) t lowest_place (λ g. omega (arith, R.spots p (omega arith)));
      }

-- What a line is blamed for, over the cell of a column that has all the parts of the row

module _ (d : Drawing) (R : Roomy d) (y x i : ℕ) (b : List ℕ) (r : Route) (one : r.first < length d.parts)
    (other : r.last < length d.parts) where
  abbrev cell : ℕ
  cell = get_or b (one_cell x) 0

  foreign_e : Spotted d y (length d.parts) x cell → foreign y b (strand_of i r) x ≡ true → Strange d r (spot_at x y)
  unfolding foreign
  foreign_e (bare h f) t = absurd (true≢false (sym t ∙ rw (not_in_row y cell h) refl))
  foreign_e (single q l e c f) t =
      let a = and_e (in_row y cell && not (eqb (number_in cell) r.first)) (not (eqb (number_in cell) r.last)) t in
      let g = and_e (in_row y cell) (not (eqb (number_in cell) r.first)) a.0 in
      let n : number_in cell ≡ q = number_in_lem y q cell (omega (arith, R.parts)) c in
      let u : eqb (number_in cell) r.first ≡ false = not-true (eqb (number_in cell) r.first) g.1 in
      let v : eqb (number_in cell) r.last ≡ false = not-true (eqb (number_in cell) r.last) a.1 in
      inl (q, l, e, λ z. eqb-false (number_in cell) r.first u (n ∙ z), λ z. eqb-false (number_in cell) r.last v (n ∙ z))
  foreign_e (several q s l k e f c) t = inr (q, s, l, k, e, f)

  -- a number in the cell that is neither of the two parts
  foreign_number : (n : ℕ) → n < 1024 → cell ≡ stamp y n → (n ≡ r.first → ⊥) → (n ≡ r.last → ⊥) → foreign y b (strand_of i r) x ≡ true
  unfolding foreign
  foreign_number n h c f g =
      let e : number_in cell ≡ n = number_in_lem y n cell h c in
      let u = ne_eqb (number_in cell) r.first (λ z. f (sym e ∙ z)) in
      let v = ne_eqb (number_in cell) r.last (λ z. g (sym e ∙ z)) in
      rw (in_row_lem y n cell h c, u, v) refl

  foreign_i : Spotted d y (length d.parts) x cell → Strange d r (spot_at x y) → foreign y b (strand_of i r) x ≡ true
  foreign_i (bare h f) (inl s) = absurd (f s.0 s.1 s.2)
  foreign_i (bare h f) (inr s) = absurd (f s.1 s.3 s.5)
  foreign_i (single q l e c f) (inl s) =
      let z : s.0 ≡ q = f s.0 s.1 s.2 in
      foreign_number q (omega (arith, R.parts)) c (λ g. s.3 (z ∙ g)) (λ g. s.4 (z ∙ g))
  foreign_i (single q l e c f) (inr s) =
      let a : s.0 ≡ q = f s.0 (omega (arith, s.2, s.3)) s.4 in
      let g : s.1 ≡ q = f s.1 s.3 s.5 in
      absurd (omega (arith, s.2))
  foreign_i (several q p l k e f c) s =
      foreign_number shared (omega arith) c (λ g. omega (arith, R.parts)) (λ g. omega (arith, R.parts))

-- The lines of a row, and the rows

-- the table of row y, before a line
record Ready (d : Drawing) (y line : ℕ) (b : List ℕ) : Type 0 where
  long : length b ≡ 8193
  ones : (x : ℕ) → x < 4096 → Spotted d y (length d.parts) x (get_or b (one_cell x) 0)
  others : (x : ℕ) → get_or b (other_cell x) 0 < stamp y line

-- a line is wrong in row y
abbrev WrongIn : Drawing → ℕ → ℕ → Type 0
WrongIn d y i =
    (repeats (columns (visits_of d y i)) ≡ true)
    ⊎ ((v : Visit) × Memᴰ v (visits_of d y i) × Strange d (route_at d i) (spot_at v.column y))

-- after the lines of row y from a line on
record Swept (d : Drawing) (y line : ℕ) (b b' : List ℕ) : Type 0 where
  ready : Ready d y (length d.routes) b'
  falls : lowest b' ≤ lowest b
  sound : (lowest b' ≡ lowest b) ⊎ WrongIn d y (lowest b')
  complete : (i : ℕ) → line ≤ i → i < length d.routes → WrongIn d y i → lowest b' ≤ i

-- the table before row y: whatever it has is of earlier rows
record Before (y : ℕ) (b : List ℕ) : Type 0 where
  long : length b ≡ 8193
  ones : (x : ℕ) → x < 4096 → get_or b (one_cell x) 0 < (y + 1) * 1024
  others : (x : ℕ) → get_or b (other_cell x) 0 < stamp y 0

-- after k rows from row y on
record Risen (d : Drawing) (y k : ℕ) (b b' : List ℕ) : Type 0 where
  falls : lowest b' ≤ lowest b
  sound : (lowest b' ≡ lowest b) ⊎ RowWrong d (lowest b')
  complete : (r i : ℕ) → y ≤ r → r < y + k → i < length d.routes → WrongIn d r i → lowest b' ≤ i

-- the table at the start
blank_before : (lines : ℕ) → Before 0 (blank alone_places lines)
blank_before lines = record {
  long = blank_length alone_places lines;
  ones = λ x h. rw (blank_cell alone_places lines (one_cell x) (λ e. omega arith)) (omega arith);
  others = λ x. rw (blank_cell alone_places lines (other_cell x) (λ e. omega arith)) (omega arith);
}

module _
    (d : Drawing) (R : Roomy d)
    (joins : (i : ℕ) → i < length d.routes → ((route_at d i).first < length d.parts) × ((route_at d i).last < length d.parts))
  where
    module _ (y i : ℕ) (below : i < length d.routes) (b : List ℕ) (B : Ready d y i b) where
      abbrev strand : Strand
      strand = strand_of i (route_at d i)

      low : (v : Visit) → Memᴰ v (visits_of d y i) → v.column < 4096
      low v m = R.visits y i v below m

      -- whatever the table has is of earlier lines
      not_before : (x : ℕ) → was_here y b strand x ≡ false
      unfolding was_here
      not_before x = ne_eqb (get_or b (other_cell x) 0) (stamp y i) (λ e. omega (arith, B.others x))

      hit_wrong : Hit y strand b (visits_of d y i) → WrongIn d y i
      hit_wrong (inl h) = inl h
      hit_wrong (inr h) = inr (h.0, h.1, go (or_e (was_here y b strand h.0.column) (foreign y b strand h.0.column) h.2))
        where
          go :
              (was_here y b strand h.0.column ≡ true) ⊎ (foreign y b strand h.0.column ≡ true)
              → Strange d (route_at d i) (spot_at h.0.column y)
          go (inl t) = absurd (true≢false (sym t ∙ not_before h.0.column))
          go (inr t) =
              foreign_e d R y h.0.column i b (route_at d i) (joins i below).0 (joins i below).1
              (B.ones h.0.column (low h.0 h.1)) t

      wrong_hit : WrongIn d y i → Hit y strand b (visits_of d y i)
      wrong_hit (inl h) = inl h
      wrong_hit (inr h) =
          let t : foreign y b strand h.0.column ≡ true =
          foreign_i d R y h.0.column i b (route_at d i) (joins i below).0 (joins i below).1
          (B.ones h.0.column (low h.0 h.1)) h.2 in
          inr (h.0, h.1, or_right (was_here y b strand h.0.column) (foreign y b strand h.0.column) t)

      abbrev behind : List ℕ
      behind = visits_alone y strand b (visits_of d y i)

      line_passed : Passed y strand b (visits_of d y i) behind
      line_passed = passed y strand b (visits_of d y i) B.long low

      line_ready : Ready d y (i + 1) behind
      line_ready = record {
        long = line_passed.long;
        ones = λ x h. rw (line_passed.ones x h) (B.ones x h);
        others = line_passed.others (stamp y (i + 1)) (omega arith) (λ x. omega (arith, B.others x));
      }

      swept_more : {b' : List ℕ} → Swept d y (i + 1) behind b' → Swept d y i b b'
      swept_more {b'} S = record {
        ready = S.ready;
        falls = omega (arith, S.falls, line_passed.falls);
        sound = sound S.sound line_passed.sound;
        complete = λ k g l w. complete k g l w (ℕ_discrete k i);
      }
        where
          sound :
              (lowest b' ≡ lowest behind) ⊎ WrongIn d y (lowest b')
              → (lowest behind ≡ lowest b) ⊎ ((lowest behind ≡ i) × Hit y strand b (visits_of d y i))
              → (lowest b' ≡ lowest b) ⊎ WrongIn d y (lowest b')
          sound (inl e) (inl f) = inl (e ∙ f)
          sound (inl e) (inr f) = inr (subst (λ (k : ℕ). WrongIn d y k) (sym (e ∙ f.0)) (hit_wrong f.1))
          sound (inr w) f = inr w

          complete : (k : ℕ) → i ≤ k → k < length d.routes → WrongIn d y k → Dec (k ≡ i) → lowest b' ≤ k
          complete k g l w (yes e) = omega (arith, S.falls, line_passed.complete (wrong_hit (subst (λ (j : ℕ). WrongIn d y j) e w)))
          complete k g l w (no e) = S.complete k (omega arith) l w

    swept :
        (y : ℕ) (b : List ℕ) (line : ℕ) (rs : List Route) → Ready d y line b → line + length rs ≡ length d.routes
        → ((k : ℕ) → k < length rs → get_or rs k no_route ≡ route_at d (line + k)) → Swept d y line b (lines_alone d y b line rs)
    unfolding lines_alone
    swept y b line [] B e f =
        let g : line ≡ length d.routes = omega arith in
        record {
          ready = subst (λ (n : ℕ). Ready d y n b) g B;
          falls = omega arith;
          sound = inl refl;
          complete = λ i h l w. absurd (omega arith);
        }
    swept y b line (r ∷ rs) B e f =
        let below : line < length d.routes = omega arith in
        let rest = swept y (behind y line below b B) (line + 1) rs (line_ready y line below b B) (omega arith) later in
        rw here (swept_more y line below b B rest)
      where
        here : r ≡ route_at d line
        here = let z : line + 0 ≡ line = omega arith in f 0 (omega arith) ∙ ap (route_at d) z

        later : (k : ℕ) → k < length rs → get_or rs k no_route ≡ route_at d (line + 1 + k)
        later k h = let z : line + suc k ≡ line + 1 + k = omega arith in f (suc k) (omega arith) ∙ ap (route_at d) z

    module _ (y : ℕ) (b : List ℕ) (B : Before y b) where
      abbrev parted : List ℕ
      parted = parts_marked y b 0 d.parts

      abbrev lined : List ℕ
      lined = lines_alone d y parted 0 d.routes

      row_laid : Laid d y 0 b parted
      unfolding spot_of
      row_laid =
          laid d R y b 0 d.parts B.long (omega arith) (λ k h. let z : k ≡ 0 + k = omega arith in ap (spot_of d) z)

      row_ready : Ready d y 0 parted
      row_ready = record {
        long = row_laid.long;
        ones = λ x h. row_laid.ones x h (bare (B.ones x h) (λ q l e. absurd (omega arith)));
        others = λ x. rw (row_laid.others x) (B.others x);
      }

      row_swept : Swept d y 0 parted lined
      unfolding route_at
      row_swept = swept y parted 0 d.routes row_ready (omega arith) (λ k h. let z : k ≡ 0 + k = omega arith in ap (route_at d) z)

      spotted_bound : {x cell : ℕ} → Spotted d y (length d.parts) x cell → cell < (y + 1 + 1) * 1024
      spotted_bound (bare h f) = omega arith
      spotted_bound (single q l e c f) = omega (arith, R.parts)
      spotted_bound (several q r l k e f c) = omega arith

      row_before : Before (y + 1) lined
      row_before = record {
        long = row_swept.ready.long;
        ones = λ x h. spotted_bound (row_swept.ready.ones x h);
        others = λ x. omega (arith, R.lines, row_swept.ready.others x);
      }

      risen_more : (k : ℕ) {b' : List ℕ} → y ≤ d.height → Risen d (y + 1) k lined b' → Risen d y (suc k) b b'
      risen_more k {b'} t S = record {
        falls = omega (arith, S.falls, row_swept.falls, row_laid.same);
        sound = sound S.sound row_swept.sound;
        complete = λ r i g l m w. complete r i g l m w (ℕ_discrete r y);
      }
        where
          sound : (lowest b' ≡ lowest lined) ⊎ RowWrong d (lowest b') → (lowest lined ≡ lowest parted) ⊎ WrongIn d y (lowest lined)
              → (lowest b' ≡ lowest b) ⊎ RowWrong d (lowest b')
          sound (inl e) (inl f) = inl (e ∙ f ∙ row_laid.same)
          sound (inl e) (inr w) = inr (y, t, subst (λ (i : ℕ). WrongIn d y i) (sym e) w)
          sound (inr w) f = inr w

          complete : (r i : ℕ) → y ≤ r → r < y + suc k → i < length d.routes → WrongIn d r i → Dec (r ≡ y) → lowest b' ≤ i
          complete r i g l m w (yes e) =
              omega (arith, S.falls, row_swept.complete i (omega arith) m (subst (λ (z : ℕ). WrongIn d z i) e w))
          complete r i g l m w (no e) = S.complete r i (omega arith) (omega arith) m w

    risen : (y k : ℕ) (b : List ℕ) → y + k ≤ d.height + 1 → Before y b → Risen d y k b (rows_alone d b y k)
    unfolding rows_alone
    risen y zero b t B = record {
      falls = omega arith;
      sound = inl refl;
      complete = λ r i g l m w. absurd (omega arith);
    }
    risen y (suc k) b t B = risen_more y b B k (omega arith) (risen (y + 1) k (lined y b B) (omega arith) (row_before y b B))

    whole :
        Risen d 0 (d.height + 1) (blank alone_places (length d.routes))
        (rows_alone d (blank alone_places (length d.routes)) 0 (d.height + 1))
    whole = risen 0 (d.height + 1) (blank alone_places (length d.routes)) (omega arith) (blank_before (length d.routes))

    -- what is found is a line's number, or the count of lines
    pub alone_most : lowest_alone d ≤ length d.routes
    unfolding lowest_alone
    alone_most = omega (arith, whole.falls, blank_lowest alone_places (length d.routes) (omega arith))

    -- the line that is found is wrong
    pub alone_sound : lowest_alone d < length d.routes → RowWrong d (lowest_alone d)
    unfolding lowest_alone
    alone_sound h = go whole.sound
      where
        table : List ℕ
        table = rows_alone d (blank alone_places (length d.routes)) 0 (d.height + 1)

        go : (lowest table ≡ lowest (blank alone_places (length d.routes))) ⊎ RowWrong d (lowest table) → RowWrong d (lowest table)
        go (inl e) = absurd (omega (arith, e, blank_lowest alone_places (length d.routes) (omega arith)))
        go (inr w) = w

    -- no lower line is wrong
    pub alone_complete : (i : ℕ) → i < length d.routes → RowWrong d i → lowest_alone d ≤ i
    unfolding lowest_alone
    alone_complete i h w = whole.complete w.0 i (omega arith) (omega (arith, w.1)) h w.2
