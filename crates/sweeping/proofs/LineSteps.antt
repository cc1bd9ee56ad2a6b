-- The visits of a line in one row, one part of them after the other, in both tables. Assumes nothing.
use Prim.Native.Nat.{ℕ, suc, ◌+◌, ◌-◌, ◌<◌, ◌≤◌, min, max}
use native.Mathlib.Omega.{arith}
use native.Mathlib.Numerals.{add-one}
use mathlib.Core.Path.{◌≡◌, refl, sym, ap, ◌∙◌}
use mathlib.Core.Bool.{Bool, true, false, ◌&&◌}
use mathlib.Core.List.{List, [], ◌∷◌, ◌++◌, map, append_assoc, append-nil}
use lib.ListN.{length, get_or, drop, drop_of_length-le}
use lib.Seq.{drop-cons}
use lib.Dec.{ltb}
use borrow.Author.Tests.{eq-eqb, ne_eqb}
use Rattle.geometry.specs.Spots.{Spot}
use Rattle.drawing.specs.Reading.{word_spot}
use Rattle.sweep.specs.Visits.{Visit, visit_at, end_visits, corner_visits, level_visits, open_visits, visits_behind, line_visits}
use Rattle.sweep.specs.Boards.{visit_alone, visits_alone, visit_pair, visits_pair}
use Rattle.sweep.specs.Boards as tables
use Rattle.boards.specs.declared.Boards.{Boards}
use Rattle.sweeping.specs.Code.{point_visits, Visited}

-- Visits in sequence

alone_append :
    (y : ℕ) (c : tables.Strand) (board : List ℕ) (vs ws : List Visit)
    → visits_alone y c board (vs ++ ws) ≡ visits_alone y c (visits_alone y c board vs) ws
unfolding visits_alone
alone_append y c board [] ws = refl
alone_append y c board (v ∷ vs) ws = alone_append y c (visit_alone y c board v.column) vs ws

pair_append :
    (y line : ℕ) (board : List ℕ) (vs ws : List Visit)
    → visits_pair y line board (vs ++ ws) ≡ visits_pair y line (visits_pair y line board vs) ws
unfolding visits_pair
pair_append y line board [] ws = refl
pair_append y line board (v ∷ vs) ws = pair_append y line (visit_pair y line board v) vs ws

-- the visits that are left make of the tables what all of them make of the first ones
pub record Left (c : tables.Strand) (b₀ : Boards) (all : List Visit) (b : Boards) (rest : List Visit) : Type 0 where
  pub row : b.row ≡ b₀.row
  pub alone_rest : visits_alone b₀.row c b.alone rest ≡ visits_alone b₀.row c b₀.alone all
  pub pairs_rest : visits_pair b₀.row c.line b.pairs rest ≡ visits_pair b₀.row c.line b₀.pairs all

module _ {c : tables.Strand} where
  pub visited_one :
      {b b' : Boards} (v : Visit) → b'.row ≡ b.row → b'.alone ≡ visit_alone b.row c b.alone v.column
      → b'.pairs ≡ visit_pair b.row c.line b.pairs v → Visited c b (v ∷ []) b'
  unfolding visits_alone visits_pair
  visited_one v r e f = record { row = r; alone = e; pairs = f }

  pub visited_none : (b : Boards) → Visited c b [] b
  unfolding visits_alone visits_pair
  visited_none b = record { row = refl; alone = refl; pairs = refl }

  pub visited_as : {b b' : Boards} {vs ws : List Visit} → vs ≡ ws → Visited c b vs b' → Visited c b ws b'
  visited_as e U = rw e at U

  visited_then : {b b' b'' : Boards} {vs ws : List Visit} → Visited c b vs b' → Visited c b' ws b'' → Visited c b (vs ++ ws) b''
  visited_then {b} {b'} {vs = vs} {ws} U W = record {
    row = W.row ∙ U.row;
    alone =
        W.alone
        ∙ ap (λ (y : ℕ). visits_alone y c b'.alone ws) U.row
        ∙ ap (λ (a : List ℕ). visits_alone b.row c a ws) U.alone
        ∙ sym (alone_append b.row c b.alone vs ws);
    pairs =
        W.pairs
        ∙ ap (λ (y : ℕ). visits_pair y c.line b'.pairs ws) U.row
        ∙ ap (λ (p : List ℕ). visits_pair b.row c.line p ws) U.pairs
        ∙ sym (pair_append b.row c.line b.pairs vs ws);
  }

  pub left_all : {b : Boards} {all : List Visit} → Left c b all b all
  left_all = record { row = refl; alone_rest = refl; pairs_rest = refl }

  left_after :
      {b₀ b b' : Boards} {all vs rest : List Visit} → Left c b₀ all b (vs ++ rest) → Visited c b vs b' → Left c b₀ all b' rest
  left_after {b₀} {b} {vs = vs} {rest} L U = record {
    row = U.row ∙ L.row;
    alone_rest =
        ap (λ (a : List ℕ). visits_alone b₀.row c a rest) (U.alone ∙ ap (λ (y : ℕ). visits_alone y c b.alone vs) L.row)
        ∙ sym (alone_append b₀.row c b.alone vs rest)
        ∙ L.alone_rest;
    pairs_rest =
        ap (λ (p : List ℕ). visits_pair b₀.row c.line p rest) (U.pairs ∙ ap (λ (y : ℕ). visits_pair y c.line b.pairs vs) L.row)
        ∙ sym (pair_append b₀.row c.line b.pairs vs rest)
        ∙ L.pairs_rest;
  }

  left_none : {b₀ b : Boards} {all : List Visit} → Left c b₀ all b [] → Visited c b₀ all b
  unfolding visits_alone visits_pair
  left_none L = record { row = L.row; alone = L.alone_rest; pairs = L.pairs_rest }

  -- what is left can be said in another way
  left_as : {b₀ b : Boards} {all rest rest' : List Visit} → rest ≡ rest' → Left c b₀ all b rest → Left c b₀ all b rest'
  left_as e L = rw e at L

-- A point

module _ (y : ℕ) (p : Spot) (corner : Bool) where
  pub point_here : p.y ≡ y → visit_at p.x corner corner ∷ [] ≡ point_visits y p corner
  unfolding point_visits
  point_here e = rw (eq-eqb p.y y e) refl

  pub point_away : (p.y ≡ y → ⊥) → [] ≡ point_visits y p corner
  unfolding point_visits
  point_away e = rw (ne_eqb p.y y e) refl

-- Strictly between two points

module _ (y : ℕ) (p q : Spot) where
  pub open_upright :
      (p.y ≡ q.y → ⊥) → (ltb (min p.y q.y) y && ltb y (max p.y q.y)) ≡ true
      → visit_at p.x false true ∷ [] ≡ open_visits y p q
  unfolding open_visits
  open_upright e f = rw (ne_eqb p.y q.y e, f) refl

  pub open_elsewhere :
      (p.y ≡ q.y → ⊥) → (ltb (min p.y q.y) y && ltb y (max p.y q.y)) ≡ false → [] ≡ open_visits y p q
  unfolding open_visits
  open_elsewhere e f = rw (ne_eqb p.y q.y e, f) refl

  pub open_level :
      {l h : ℕ} → l ≡ min p.x q.x → h ≡ max p.x q.x → p.y ≡ q.y → p.y ≡ y
      → level_visits (l + 1) (h - (l + 1)) ≡ open_visits y p q
  unfolding open_visits
  open_level a b e f = rw (a, b, eq-eqb p.y q.y e, eq-eqb p.y y f) refl

  pub open_other_row : p.y ≡ q.y → (p.y ≡ y → ⊥) → [] ≡ open_visits y p q
  unfolding open_visits
  open_other_row e f = rw (eq-eqb p.y q.y e, ne_eqb p.y y f) refl

-- The columns of a level run

level_next : (x to : ℕ) → x < to → level_visits x (to - x) ≡ (visit_at x true false ∷ []) ++ level_visits (x + 1) (to - (x + 1))
unfolding level_visits
level_next x to h = let e : to - x ≡ suc (to - (x + 1)) = omega arith in rw e refl

level_end : (x to : ℕ) → to ≤ x → level_visits x (to - x) ≡ []
unfolding level_visits
level_end x to h = let e : to - x ≡ 0 = omega arith in rw e refl

-- the columns from x on are left
module _ {c : tables.Strand} {b₀ b : Boards} {all : List Visit} {x to : ℕ} (L : Left c b₀ all b (level_visits x (to - x))) where
  pub columns_next : {b' : Boards} → x < to → Visited c b (visit_at x true false ∷ []) b' → Left c b₀ all b' (level_visits (x + 1) (to - (x + 1)))
  columns_next h U = left_after (left_as (level_next x to h) L) U

  pub columns_end : to ≤ x → Visited c b₀ all b
  columns_end h = left_none (left_as (level_end x to h) L)

-- The whole line

corner_next :
    (y : ℕ) (p last : Spot) (corners : List ℕ) (k : ℕ) → k < length corners
    → visits_behind y p (map word_spot (drop k corners)) last
    ≡ (open_visits y p (word_spot (get_or corners k 0)) ++ point_visits y (word_spot (get_or corners k 0)) true)
    ++ visits_behind y (word_spot (get_or corners k 0)) (map word_spot (drop (k + 1) corners)) last
unfolding visits_behind corner_visits point_visits
corner_next y p last corners k h = rw (add-one, drop-cons corners k 0 h, append_assoc) refl

corners_end :
    (y : ℕ) (p last : Spot) (corners : List ℕ) (k : ℕ) → length corners ≤ k
    → visits_behind y p (map word_spot (drop k corners)) last ≡ open_visits y p last ++ point_visits y last false
unfolding visits_behind end_visits point_visits
corners_end y p last corners k h = rw (drop_of_length-le corners {i = k} h) refl

-- the line behind point p, from corner k on, is left of the whole line
pub record Tracing (c : tables.Strand) (first : Spot) (corners : List ℕ) (last : Spot) (b₀ b : Boards) (p : Spot) (k : ℕ) : Type 0 where
  pub inside : p.x < 4096
  pub rest :
      Left c b₀ (line_visits b₀.row first (map word_spot corners) last) b (visits_behind b₀.row p (map word_spot (drop k corners)) last)

pub tracing_start :
    {c : tables.Strand} (first : Spot) (corners : List ℕ) (last : Spot) {b₀ b : Boards}
    → first.x < 4096 → Visited c b₀ (point_visits b₀.row first false) b → Tracing c first corners last b₀ b first 0
unfolding line_visits end_visits point_visits
tracing_start first corners last h U = record { inside = h; rest = left_after left_all U }

module _
    {c : tables.Strand} {first : Spot} {corners : List ℕ} {last : Spot} {b₀ b : Boards} {p : Spot} {k : ℕ}
    (T : Tracing c first corners last b₀ b p k) where
  -- two parts of the line, each in the row that the tables have then
  two_parts :
      (q : Spot) (corner : Bool) {b' b'' : Boards} → Visited c b (open_visits b.row p q) b' → Visited c b' (point_visits b'.row q corner) b''
      → Visited c b (open_visits b₀.row p q ++ point_visits b₀.row q corner) b''
  two_parts q corner U W =
      visited_then (visited_as (ap (λ (y : ℕ). open_visits y p q) T.rest.row) U)
      (visited_as (ap (λ (y : ℕ). point_visits y q corner) (U.row ∙ T.rest.row)) W)

  pub tracing_next :
      {b' b'' : Boards} {q : Spot} → k < length corners → q ≡ word_spot (get_or corners k 0) → q.x < 4096
      → Visited c b (open_visits b.row p q) b' → Visited c b' (point_visits b'.row q true) b'' → Tracing c first corners last b₀ b'' q (k + 1)
  tracing_next {q = q} h e l U W = record { inside = l; rest = left_after (left_as step T.rest) (two_parts q true U W) }
    where
      step :
          visits_behind b₀.row p (map word_spot (drop k corners)) last
          ≡ (open_visits b₀.row p q ++ point_visits b₀.row q true) ++ visits_behind b₀.row q (map word_spot (drop (k + 1) corners)) last
      step = rw e (corner_next b₀.row p last corners k h)

  pub tracing_end :
      {b' b'' : Boards} → length corners ≤ k
      → Visited c b (open_visits b.row p last) b' → Visited c b' (point_visits b'.row last false) b''
      → Visited c b₀ (line_visits b₀.row first (map word_spot corners) last) b''
  tracing_end h U W =
      left_none
      (left_after
      (left_as (corners_end b₀.row p last corners k h ∙ sym (append-nil (open_visits b₀.row p last ++ point_visits b₀.row last false))) T.rest)
      (two_parts last false U W))
