-- Laws of the adjacency table: a part's neighbours by place, one put behind them, and the table as it is made. Assumes nothing.
use Prim.Native.Nat.{ℕ, ◌+◌, ◌<◌, ◌≤◌}
use native.Mathlib.Omega.{arith}
use native.Mathlib.Numerals.{add-one}
use native.Mathlib.Decide.{ℕ_discrete, dec_lt}
use mathlib.Core.Path.{◌≡◌, refl, sym, ap, ◌∙◌, subst}
use mathlib.Core.Logic.{◌⊎◌, inl, inr}
use mathlib.Core.List.Memᴰ
use mathlib.Core.List.{List, [], ◌∷◌, ◌++◌, append_assoc, append-nil, Memᴰ}
use lib.ListN.{length, get_or, take, drop, set, replicate, length-append, length-set, length-replicate, length-map, get_or-map, get_or-replicate, drop_of_length-le, get_or-eq_default}
use lib.Seq.{get_or-set_same, get_or-set_other, take-suc-set, length-take-le, drop-cons}
use lib.Dec.{eqb}
use borrow.Author.Tests.{eq-eqb, ne_eqb}
use Rattle.words.specs.Limits.{most_degree, most_parts}
use Rattle.words.specs.declared.Part.{Part}
use Rattle.lists.specs.Select.{cons_if}
use Rattle.station.specs.Station.{Station, station_of, no_cable}
use Rattle.station.specs.Code.{Wired}
use Rattle.station.proofs.Cables.{cables_count}
use Rattle.order.specs.Reach.{neighbours, Joined}
use Rattle.reachability.specs.Tables.{numbers, number_at, counted, at_part, neighbours_in, TableFits, Adjacent, Appendable, Appended}
use Rattle.reachability.specs.declared.adjacency.Neighbours.{Neighbours}
use Rattle.order.proofs.Joins.{within, joined_within}
use Rattle.reachability.proofs.Neighbours.{neighbours_few}

-- The numbers of parts

pub numbers_append : (xs ys : List Part) → numbers (xs ++ ys) ≡ numbers xs ++ numbers ys
unfolding numbers
numbers_append [] ys = refl
numbers_append (x ∷ xs) ys = ap (λ (l : List ℕ). x.0 ∷ l) (numbers_append xs ys)

pub numbers_length : (parts : List Part) → length (numbers parts) ≡ length parts
unfolding numbers
numbers_length parts = length-map parts (λ (p : Part). p.0)

pub numbers_at : (parts : List Part) (i : ℕ) → get_or (numbers parts) i 0 ≡ number_at parts i
unfolding numbers
numbers_at parts i = get_or-map (λ (p : Part). p.0) parts i (record { 0 = 0 })

-- A part's neighbours

pub neighbours_length : {table : List Neighbours} → TableFits table → (p : ℕ) → p < most_parts → length (neighbours_in table p) ≡ (at_part table p).count
unfolding counted
neighbours_length {table} F p h =
    let n = at_part table p in
    numbers_length (take n.count n.parts) ∙ length-take-le n.count n.parts (omega (arith, F.few p, F.room p h))

-- they are few, as the parts that a table lends
pub neighbours_few_in : {table : List Neighbours} → TableFits table → (p : ℕ) (parts : List Part) → p < most_parts → numbers parts ≡ neighbours_in table p → length (numbers parts) ≤ most_degree
neighbours_few_in F p parts h e = omega (arith, ap length e, neighbours_length F p h, F.few p)

-- a part's neighbours are parts
pub joined_inside : {st : Station} → Wired st → (p : ℕ) {q : ℕ} → Joined st.cables p q → q < st.parts
joined_inside {st} W p j = joined_within st.cables p (within W) j

-- One more neighbour

module _ (table : List Neighbours) (p : ℕ) (q : Part) (A : Appendable table p q.0) where
  before : Neighbours
  before = at_part table p

  after : Neighbours
  after = record { parts = set before.parts before.count q; count = before.count + 1 }

  table' : List Neighbours
  table' = set table p after

  here : at_part table' p ≡ after
  unfolding table'
  here = get_or-set_same table p after (record { parts = []; count = 0 }) (omega (arith, A.part, A.formed.places))

  there : (x : ℕ) → (x ≡ p → ⊥) → at_part table' x ≡ at_part table x
  unfolding table'
  there x n = get_or-set_other table p x after (record { parts = []; count = 0 }) n

  own : neighbours_in table' p ≡ neighbours_in table p ++ (q.0 ∷ [])
  unfolding counted after before numbers
  own =
      ap counted here
      ∙ ap (λ (k : ℕ). numbers (take k (set before.parts before.count q))) (add-one before.count)
      ∙ ap numbers (take-suc-set before.parts before.count q (omega (arith, A.few, A.formed.room p A.part)))
      ∙ numbers_append (take before.count before.parts) (q ∷ [])

  formed : TableFits table'
  unfolding after before table'
  formed =
      record {
        places = length-set table p _ ∙ A.formed.places;
        room = λ x. room_at x (ℕ_discrete x p);
        few = λ x. few_at x (ℕ_discrete x p);
        inside = λ x y. inside_at x y (ℕ_discrete x p);
      }
    where
      room_at : (x : ℕ) → Dec (x ≡ p) → x < most_parts → length (at_part table' x).parts ≡ most_degree
      room_at x (yes e) h = rw (e, here) (length-set before.parts before.count q ∙ A.formed.room p A.part)
      room_at x (no n) h = rw (there x n) (A.formed.room x h)

      few_at : (x : ℕ) → Dec (x ≡ p) → (at_part table' x).count ≤ most_degree
      few_at x (yes e) = rw (e, here) (omega (arith, A.few))
      few_at x (no n) = rw (there x n) (A.formed.few x)

      own_or : (y : ℕ) → Memᴰ y (neighbours_in table p) ⊎ Memᴰ y (q.0 ∷ []) → y < most_parts
      own_or y (inl m) = A.formed.inside p y m
      own_or y (inr m) = omega (arith, A.neighbour, Memᴰ.eq_of_singleton m)

      inside_at : (x y : ℕ) → Dec (x ≡ p) → Memᴰ y (neighbours_in table' x) → y < most_parts
      inside_at x y (yes e) m = own_or y (Memᴰ.append_cases (neighbours_in table p) (subst (Memᴰ y) (ap (neighbours_in table') e ∙ own) m))
      inside_at x y (no n) m = A.formed.inside x y (subst (Memᴰ y) (ap counted (there x n)) m)

  pub appended : Appended table (set table p (record { parts = set (at_part table p).parts (at_part table p).count q; count = (at_part table p).count + 1 })) p q.0
  unfolding table' after before
  appended = record { formed = formed; own = own; rest = λ x n. ap counted (there x n) }

-- The table while it is made: a part's neighbours in it, with those still to come behind them, are the part's neighbours.
pub record Ahead (list : List ℕ) (table : List Neighbours) (to-come : ℕ → List ℕ) : Type 0 where
  pub formed : TableFits table
  pub by_line : (p : ℕ) → neighbours_in table p ++ to-come p ≡ neighbours (station_of list).cables p

module _ (list : List ℕ) (W : Wired (station_of list)) where
  pub ahead_none : (parts : List Part) → length parts ≡ most_degree → Ahead list (replicate most_parts (record { parts = parts; count = 0 })) (neighbours (station_of list).cables)
  unfolding counted numbers
  ahead_none parts len =
      record {
        formed = record {
          places = length-replicate most_parts empty;
          room = λ p h. ap (λ (n : Neighbours). length n.parts) (get_or-replicate most_parts p empty _ h) ∙ len;
          few = λ p. none_at p (dec_lt p most_parts);
          inside = λ p q m. absurd (Memᴰ.not-nil (subst (Memᴰ q) (nothing p) m));
        };
        by_line = λ p. rw (nothing p) refl;
      }
    where
      empty : Neighbours
      empty = record { parts = parts; count = 0 }

      nothing_at : (p : ℕ) → Dec (p < most_parts) → (at_part (replicate most_parts empty) p).count ≡ 0
      nothing_at p (yes h) = ap (λ (n : Neighbours). n.count) (get_or-replicate most_parts p empty _ h)
      nothing_at p (no n) = ap (λ (n : Neighbours). n.count) (get_or-eq_default (replicate most_parts empty) _ {n = p} (omega (arith, length-replicate most_parts empty)))

      none_at : (p : ℕ) → Dec (p < most_parts) → (at_part (replicate most_parts empty) p).count ≤ most_degree
      none_at p d = omega (arith, nothing_at p d)

      nothing : (p : ℕ) → neighbours_in (replicate most_parts empty) p ≡ []
      nothing p = ap (λ (k : ℕ). numbers (take k (at_part (replicate most_parts empty) p).parts)) (nothing_at p (dec_lt p most_parts))

  module _ (table : List Neighbours) (to-come later : ℕ → List ℕ) (a b : ℕ) (h : a < most_parts) (A : Ahead list table to-come) (step : (p : ℕ) → to-come p ≡ cons_if (eqb a p) b (later p)) where
    own_next : to-come a ≡ b ∷ later a
    own_next = step a ∙ rw (eq-eqb a a refl) refl

    ahead_room : (at_part table a).count < most_degree
    ahead_room =
        let whole : neighbours_in table a ++ (b ∷ later a) ≡ neighbours (station_of list).cables a = rw own_next at (A.by_line a) in
        let len : length (neighbours_in table a ++ (b ∷ later a)) ≤ most_degree = rw whole (neighbours_few W a) in
        omega (arith, length-append (neighbours_in table a) (b ∷ later a), neighbours_length A.formed a h)

    ahead_next : {table' : List Neighbours} → Appended table table' a b → Ahead list table' later
    ahead_next {table'} J = record { formed = J.formed; by_line = λ p. go p (ℕ_discrete p a) }
      where
        go : (p : ℕ) → Dec (p ≡ a) → neighbours_in table' p ++ later p ≡ neighbours (station_of list).cables p
        go p (yes e) = rw (e, J.own, append_assoc, ← own_next) (A.by_line a)
        go p (no n) = rw (J.rest p n) (ap (λ (l : List ℕ). neighbours_in table p ++ l) (sym (step p ∙ rw (ne_eqb a p (λ e. n (sym e))) refl)) ∙ A.by_line p)

-- The table of the first lines: those of m cables before a line.
pub record TableUpTo (list : List ℕ) (m : ℕ) (table : List Neighbours) (line : ℕ) : Type 0 where
  pub wired : Wired (station_of list)
  pub cables : m ≡ length (station_of list).cables
  pub place : line ≤ m
  pub ahead : Ahead list table (neighbours (drop line (station_of list).cables))

pub table_start : {list : List ℕ} {m : ℕ} (parts : List Part) → length parts ≡ most_degree → Wired (station_of list) → m ≡ length (station_of list).cables
    → TableUpTo list m (replicate most_parts (record { parts = parts; count = 0 })) 0
table_start {list} parts len W e = record { wired = W; cables = e; place = omega arith; ahead = ahead_none list W parts len }

pub line_word : {list : List ℕ} {table : List Neighbours} {m line : ℕ} → TableUpTo list m table line → line < m → 2 + line < length list
line_word {list} T h = omega (arith, T.cables, cables_count list)

-- A line's cable: each of its parts is put behind the neighbours of the other.
module _ {list : List ℕ} {table : List Neighbours} {m line a b : ℕ} (T : TableUpTo list m table line) (h : line < m) (ea : a ≡ (get_or (station_of list).cables line no_cable).one) (eb : b ≡ (get_or (station_of list).cables line no_cable).other) where
  -- what is to come after the line, and after its first part
  later : ℕ → List ℕ
  later = neighbours (drop (line + 1) (station_of list).cables)

  between : ℕ → List ℕ
  between p = cons_if (eqb b p) a (later p)

  at_line : (p : ℕ) → neighbours (drop line (station_of list).cables) p ≡ cons_if (eqb a p) b (between p)
  unfolding neighbours later between
  at_line p = rw (drop-cons (station_of list).cables line no_cable (omega (arith, T.cables)), ea, eb, add-one) refl

  one_below : a < most_parts
  one_below = omega (arith, ea, T.wired.one line, T.wired.most)

  other_below : b < most_parts
  other_below = omega (arith, eb, T.wired.other line, T.wired.most)

  pub first_fits : Appendable table a b
  first_fits =
      record {
        formed = T.ahead.formed;
        part = one_below;
        neighbour = other_below;
        few = ahead_room list T.wired table _ between a b one_below T.ahead at_line;
      }

  module _ {table' : List Neighbours} (J : Appended table table' a b) where
    first_done : Ahead list table' between
    first_done = ahead_next list T.wired table _ between a b one_below T.ahead at_line J

    pub second_fits : Appendable table' b a
    unfolding between
    second_fits =
        record {
          formed = first_done.formed;
          part = other_below;
          neighbour = one_below;
          few = ahead_room list T.wired table' _ later b a other_below first_done (λ p. refl);
        }

    pub table_next : {table'' : List Neighbours} → Appended table' table'' b a → TableUpTo list m table'' (line + 1)
    unfolding between later
    table_next K =
        record {
          wired = T.wired;
          cables = T.cables;
          place = omega arith;
          ahead = ahead_next list T.wired table' _ later b a other_below first_done (λ p. refl) K;
        }

pub table_end : {list : List ℕ} {table : List Neighbours} {m line : ℕ} → TableUpTo list m table line → m ≤ line → Adjacent list table
unfolding neighbours
table_end {list} {table} {m} {line} T h =
    record {
      wired = T.wired;
      formed = T.ahead.formed;
      by_line = λ p. sym (append-nil _) ∙ rw (drop_of_length-le (station_of list).cables {i = line} (omega (arith, T.cables))) at (T.ahead.by_line p);
    }
