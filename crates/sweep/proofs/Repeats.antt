-- A line of alternating runs touches itself exactly if in some row a column repeats among its visits: each run is walked without its last
-- point, and the line's last point once more at the end. Assumes nothing.
use Prim.Native.Nat.{ℕ, zero, suc, ◌+◌, ◌-◌, min, max}
use native.Mathlib.Omega.{arith}
use mathlib.Core.Path.{◌≡◌, refl, sym, ap, ◌∙◌, subst}
use mathlib.Core.Bool.{Bool, true, false, cond, ◌&&◌, ◌||◌, true≢false}
use mathlib.Core.Logic.{◌⊎◌, inl, inr}
use mathlib.Core.List.Memᴰ
use mathlib.Core.List.{List, [], ◌∷◌, ◌++◌, map-append, append_assoc, Memᴰ}
use lib.Dec.{eqb, ltb}
use Rattle.lists.specs.Select.{member, cons_if}
use Rattle.lists.proofs.Bools.{or_e, or_left, or_right}
use Rattle.lists.proofs.Sets.{member_e, member_i}
use Rattle.geometry.specs.Spots.{Spot, spot_at}
use Rattle.geometry.specs.Lines.{point, IsRun, OnRun, OnLine, Between}
use Rattle.geometry.proofs.Spots.{spot_path}
use Rattle.validation.specs.Alone.{touches_itself, alternates}
use Rattle.validation.specs.Facing.{line_over}
use Rattle.validation.proofs.Alone.{Touch, touches_itself_e, touches_itself_i, Alternating, alternating_later, alternates_e, neighbours_meet}
use Rattle.sweep.specs.Visits.{Visit, visit_at, end_visits, corner_visits, level_visits, open_visits, visits_behind, line_visits}
use Rattle.sweep.specs.Rows.{columns, repeats}
use Rattle.sweep.proofs.Visits.{Inside, in_row_lem, in_column, inside_between, spot_either, strictly_inside, column_e, column_i, end_visits_e, end_visits_i, level_visits_e, open_visits_e, open_visits_i, two_points, visited_on_line, on_line_visited}

-- Repetition in two lists put together

abbrev Split : List ℕ → List ℕ → Type 0
Split xs ys = (repeats xs ≡ true) ⊎ ((repeats ys ≡ true) ⊎ ((x : ℕ) × Memᴰ x xs × Memᴰ x ys))

repeats_split : (xs ys : List ℕ) → repeats (xs ++ ys) ≡ true → Split xs ys
unfolding repeats
repeats_split [] ys h = inr (inl h)
repeats_split (x ∷ xs) ys h = go (repeats_split xs ys) (or_e (member x (xs ++ ys)) (repeats (xs ++ ys)) h)
  where
    here : Memᴰ x xs ⊎ Memᴰ x ys → Split (x ∷ xs) ys
    here (inl m) = inl (or_left (member x xs) (repeats xs) (member_i xs m))
    here (inr m) = inr (inr (x, Memᴰ.head refl, m))

    there : Split xs ys → Split (x ∷ xs) ys
    there (inl e) = inl (or_right (member x xs) (repeats xs) e)
    there (inr (inl e)) = inr (inl e)
    there (inr (inr (z, m, n))) = inr (inr (z, Memᴰ.tail m, n))

    go : (repeats (xs ++ ys) ≡ true → Split xs ys) → (member x (xs ++ ys) ≡ true) ⊎ (repeats (xs ++ ys) ≡ true) → Split (x ∷ xs) ys
    go below (inl e) = here (Memᴰ.append_cases xs (member_e x (xs ++ ys) e))
    go below (inr e) = there (below e)

repeats_right : (xs ys : List ℕ) → repeats ys ≡ true → repeats (xs ++ ys) ≡ true
unfolding repeats
repeats_right [] ys h = h
repeats_right (x ∷ xs) ys h = or_right (member x (xs ++ ys)) (repeats (xs ++ ys)) (repeats_right xs ys h)

repeats_both : {x : ℕ} (xs ys : List ℕ) → Memᴰ x xs → Memᴰ x ys → repeats (xs ++ ys) ≡ true
unfolding repeats
repeats_both [] ys m n = absurd (Memᴰ.not-nil m)
repeats_both {x} (z ∷ xs) ys m n = go (λ k. repeats_both xs ys k n) (Memᴰ.cases_cons m)
  where
    go : (Memᴰ x xs → repeats (xs ++ ys) ≡ true) → (x ≡ z) ⊎ Memᴰ x xs → (member z (xs ++ ys) || repeats (xs ++ ys)) ≡ true
    go below (inl e) = or_left (member z (xs ++ ys)) (repeats (xs ++ ys)) (member_i (xs ++ ys) (Memᴰ.append_right xs (Memᴰ.cast (sym e) n)))
    go below (inr k) = or_right (member z (xs ++ ys)) (repeats (xs ++ ys)) (below k)

-- The columns of one run's share: its first point, and what lies inside

abbrev share : ℕ → Spot → Spot → List ℕ
share y p q = columns (end_visits y p) ++ columns (open_visits y p q)

end_column_e : {x : ℕ} (y : ℕ) (p : Spot) → Memᴰ x (columns (end_visits y p)) → spot_at x y ≡ p
end_column_e y p m =
    let r = column_e (end_visits y p) m in
    let t = end_visits_e y p r.1 in
    spot_path (sym r.2 ∙ ap (λ (v : Visit). v.column) t.1) (sym t.0)

open_column_e :
    {x : ℕ} (y : ℕ) (p q : Spot) → (p.y ≡ q.y) ⊎ (p.x ≡ q.x) → Memᴰ x (columns (open_visits y p q))
    → (a : Bool) × (b : Bool) × Inside p q (spot_at x y) a b
open_column_e y p q S m =
    let r = column_e (open_visits y p q) m in
    let v = r.0 in
    (v.level, v.upright, subst (λ (z : ℕ). Inside p q (spot_at z y) v.level v.upright) r.2 (open_visits_e y p q S r.1))

inside_first : {a b : Bool} (p q s : Spot) → Inside p q s a b → s ≡ p → ⊥
inside_first p q s (in_row_lem I) e = let f : s.x ≡ p.x = ap (λ (t : Spot). t.x) e in omega arith
inside_first p q s (in_column I) e = let f : s.y ≡ p.y = ap (λ (t : Spot). t.y) e in omega arith

inside_last : {a b : Bool} (p q s : Spot) → Inside p q s a b → s ≡ q → ⊥
inside_last p q s (in_row_lem I) e = let f : s.x ≡ q.x = ap (λ (t : Spot). t.x) e in omega arith
inside_last p q s (in_column I) e = let f : s.y ≡ q.y = ap (λ (t : Spot). t.y) e in omega arith

start_between : (p q s : Spot) → s ≡ p → Between p q s
start_between p q s e =
    let B : Between p q p = record { left = omega arith; right = omega arith; below = omega arith; above = omega arith } in
    subst (λ (t : Spot). Between p q t) (sym e) B

at_once : (b : Bool) (v : Visit) → repeats (columns (cons_if b v [])) ≡ true → ⊥
unfolding repeats member
at_once true v h = true≢false (sym h)
at_once false v h = true≢false (sym h)

end_once : (y : ℕ) (p : Spot) → repeats (columns (end_visits y p)) ≡ true → ⊥
unfolding end_visits
end_once y p h = at_once (eqb p.y y) (visit_at p.x false false) h

level_once : (x k : ℕ) → repeats (columns (level_visits x k)) ≡ true → ⊥
unfolding level_visits repeats
level_once x zero h = true≢false (sym h)
level_once x (suc k) h =
    go (level_once (x + 1) k) (or_e (member x (columns (level_visits (x + 1) k))) (repeats (columns (level_visits (x + 1) k))) h)
  where
    go :
        (repeats (columns (level_visits (x + 1) k)) ≡ true → ⊥)
        → (member x (columns (level_visits (x + 1) k)) ≡ true) ⊎ (repeats (columns (level_visits (x + 1) k)) ≡ true) → ⊥
    go below (inl e) =
        let r = column_e (level_visits (x + 1) k) (member_e x (columns (level_visits (x + 1) k)) e) in
        let t = level_visits_e (x + 1) k r.1 in
        omega (arith, r.2, t.1, ap (λ (v : Visit). v.column) t.3)
    go below (inr e) = below e

open_once : (y : ℕ) (p q : Spot) → repeats (columns (open_visits y p q)) ≡ true → ⊥
unfolding open_visits
open_once y p q h = first (eqb p.y q.y) h
  where
    level : List Visit
    level = level_visits (min p.x q.x + 1) (max p.x q.x - (min p.x q.x + 1))

    inner : Bool
    inner = ltb (min p.y q.y) y && ltb y (max p.y q.y)

    second : (b : Bool) → repeats (columns (cond b level [])) ≡ true → ⊥
    second true e = level_once (min p.x q.x + 1) (max p.x q.x - (min p.x q.x + 1)) e
    second false e = at_once false (visit_at 0 false false) e

    first : (b : Bool) → repeats (columns (cond b (cond (eqb p.y y) level []) (cons_if inner (visit_at p.x false true) []))) ≡ true → ⊥
    first true e = second (eqb p.y y) e
    first false e = at_once inner (visit_at p.x false true) e

module _ (p q : Spot) (S : (p.y ≡ q.y) ⊎ (p.x ≡ q.x)) where
  share_once : (y : ℕ) → repeats (share y p q) ≡ true → ⊥
  share_once y h = go (repeats_split (columns (end_visits y p)) (columns (open_visits y p q)) h)
    where
      go : Split (columns (end_visits y p)) (columns (open_visits y p q)) → ⊥
      go (inl e) = end_once y p e
      go (inr (inl e)) = open_once y p q e
      go (inr (inr (x, m, n))) = let r = open_column_e y p q S n in inside_first p q (spot_at x y) r.2 (end_column_e y p m)

  share_e : {x : ℕ} (y : ℕ) → (p ≡ q → ⊥) → Memᴰ x (share y p q) → Between p q (spot_at x y) × (spot_at x y ≡ q → ⊥)
  share_e {x} y N m = go (Memᴰ.append_cases (columns (end_visits y p)) m)
    where
      go :
          Memᴰ x (columns (end_visits y p)) ⊎ Memᴰ x (columns (open_visits y p q))
          → Between p q (spot_at x y) × (spot_at x y ≡ q → ⊥)
      go (inl n) = let e = end_column_e y p n in (start_between p q (spot_at x y) e, λ f. N (sym e ∙ f))
      go (inr n) =
          let r = open_column_e y p q S n in
          (inside_between p q (spot_at x y) r.2, inside_last p q (spot_at x y) r.2)

  share_i : (s : Spot) → Between p q s → (s ≡ q → ⊥) → Memᴰ s.x (share s.y p q)
  share_i s B N = go (spot_either s p)
    where
      go : (s ≡ p) ⊎ (s ≡ p → ⊥) → Memᴰ s.x (share s.y p q)
      go (inl e) = Memᴰ.append_left (columns (open_visits s.y p q)) (column_i (end_visits_i p s (sym e)))
      go (inr M) =
          let r = strictly_inside p q s S B M N in
          Memᴰ.append_right (columns (end_visits s.y p)) (column_i (open_visits_i p q s r.2))

-- A line's columns are the shares of its runs, and its last point

corner_columns : (y : ℕ) (c : Spot) → columns (corner_visits y c) ≡ columns (end_visits y c)
unfolding corner_visits end_visits
corner_columns y c = go (eqb c.y y)
  where
    go : (b : Bool) → columns (cons_if b (visit_at c.x true true) []) ≡ columns (cons_if b (visit_at c.x false false) [])
    go true = refl
    go false = refl

columns_append : (vs ws : List Visit) → columns (vs ++ ws) ≡ columns vs ++ columns ws
columns_append vs ws = map-append (λ (v : Visit). v.column) vs ws

module _ (y : ℕ) (l : Spot) where
  columns_last : (p : Spot) → columns (line_visits y p [] l) ≡ share y p l ++ columns (end_visits y l)
  unfolding line_visits visits_behind
  columns_last p = simp (columns_append, append_assoc)

  columns_next : (p c : Spot) (cs : List Spot) → columns (line_visits y p (c ∷ cs) l) ≡ share y p c ++ columns (line_visits y c cs l)
  unfolding line_visits visits_behind
  columns_next p c cs = simp (columns_append, append_assoc, corner_columns)

-- Runs behind the first

touch_later : (p : Spot) (ps : List Spot) → Touch ps → Touch (p ∷ ps)
unfolding point
touch_later p ps (j, k, g, l, s, B, C) = (suc j, suc k, omega arith, omega arith, s, B, C)

on_line_later : (p : Spot) (ps : List Spot) (s : Spot) → OnLine ps s → OnLine (p ∷ ps) s
unfolding point
on_line_later p ps s (k, l, B) = (suc k, omega arith, B)

module _ (l : Spot) where
  line_column_e :
      {x : ℕ} (y : ℕ) (p : Spot) (cs : List Spot) → Alternating (line_over p cs l) → Memᴰ x (columns (line_visits y p cs l))
      → OnLine (line_over p cs l) (spot_at x y)
  line_column_e y p cs A m =
      let r = column_e (line_visits y p cs l) m in
      subst (λ (z : ℕ). OnLine (line_over p cs l) (spot_at z y)) r.2 (visited_on_line p cs l A.straight y r.1)

  line_column_i :
      (p : Spot) (cs : List Spot) (s : Spot) → Alternating (line_over p cs l) → OnLine (line_over p cs l) s
      → Memᴰ s.x (columns (line_visits s.y p cs l))
  line_column_i p cs s A o =
      let r = on_line_visited p cs l A.straight s o in
      Memᴰ.cast (sym r.2) (column_i r.1)

  -- a spot of the first run's share that the line has again
  share_touch :
      (p c : Spot) (cs : List Spot) (s : Spot) → Alternating (line_over p (c ∷ cs) l) → Between p c s → (s ≡ c → ⊥)
      → OnLine (line_over c cs l) s → Touch (line_over p (c ∷ cs) l)
  unfolding point
  share_touch p c cs s A B N (zero, h, C) = absurd (N (neighbours_meet (line_over p (c ∷ cs) l) A 0 s (omega arith) B C))
  share_touch p c cs s A B N (suc k, h, C) = (0, suc (suc k), omega arith, omega arith, s, B, C)

  repeats_meet :
      (y : ℕ) (p : Spot) (cs : List Spot) → Alternating (line_over p cs l) → repeats (columns (line_visits y p cs l)) ≡ true
      → Touch (line_over p cs l)
  unfolding point
  repeats_meet y p [] A h = go (repeats_split (share y p l) (columns (end_visits y l)) (rw columns_last at h))
    where
      S : (p.y ≡ l.y) ⊎ (p.x ≡ l.x)
      S = A.straight 0 (omega arith)

      go : Split (share y p l) (columns (end_visits y l)) → Touch (line_over p [] l)
      go (inl e) = absurd (share_once p l S y e)
      go (inr (inl e)) = absurd (end_once y l e)
      go (inr (inr (x, m, n))) = absurd ((share_e p l S y (A.differ 0 (omega arith)) m).1 (end_column_e y l n))
  repeats_meet y p (c ∷ cs) A h =
      go (λ e. repeats_meet y c cs later e) (repeats_split (share y p c) (columns (line_visits y c cs l)) (rw columns_next at h))
    where
      later : Alternating (line_over c cs l)
      later = alternating_later p (line_over c cs l) A

      S : (p.y ≡ c.y) ⊎ (p.x ≡ c.x)
      S = A.straight 0 (omega arith)

      go :
          (repeats (columns (line_visits y c cs l)) ≡ true → Touch (line_over c cs l))
          → Split (share y p c) (columns (line_visits y c cs l)) → Touch (line_over p (c ∷ cs) l)
      go below (inl e) = absurd (share_once p c S y e)
      go below (inr (inl e)) = touch_later p (line_over c cs l) (below e)
      go below (inr (inr (x, m, n))) =
          let r = share_e p c S y (A.differ 0 (omega arith)) m in
          share_touch p c cs (spot_at x y) A r.0 r.1 (line_column_e y c cs later n)

  -- in the row of one of its spots a column repeats
  abbrev Again : Spot → List Spot → Type 0
  Again p cs = (s : Spot) × OnLine (line_over p cs l) s × (repeats (columns (line_visits s.y p cs l)) ≡ true)

  again_later : (p c : Spot) (cs : List Spot) → Again c cs → Again p (c ∷ cs)
  again_later p c cs (s, o, h) = (
    s,
    on_line_later p (line_over c cs l) s o,
    rw columns_next (repeats_right (share s.y p c) (columns (line_visits s.y c cs l)) h),
  )

  share_again :
      (p c : Spot) (cs : List Spot) (s : Spot) → Alternating (line_over p (c ∷ cs) l) → Between p c s → (s ≡ c → ⊥)
      → OnLine (line_over c cs l) s → Again p (c ∷ cs)
  unfolding point
  share_again p c cs s A B N o = (
    s,
    (0, two_points p (c ∷ cs) l, B),
    rw columns_next
        (repeats_both (share s.y p c) (columns (line_visits s.y c cs l)) (share_i p c (A.straight 0 (two_points p (c ∷ cs) l)) s B N)
        (line_column_i c cs s (alternating_later p (line_over c cs l) A) o)),
  )

  -- the first point is on a run behind the first
  start_again :
      (p : Spot) (cs : List Spot) (k : ℕ) → Alternating (line_over p cs l) → IsRun (line_over p cs l) (suc k)
      → OnRun (line_over p cs l) (suc k) p → Again p cs
  unfolding point
  start_again p [] k A h C = absurd (omega arith)
  start_again p (c ∷ cs) k A h C =
      share_again p c cs p A (start_between p c p refl) (A.differ 0 (two_points p (c ∷ cs) l)) (k, omega arith, C)

  meet_repeats : (p : Spot) (cs : List Spot) → Alternating (line_over p cs l) → Touch (line_over p cs l) → Again p cs
  unfolding point
  meet_repeats p [] A (j, k, g, h, s, B, C) = absurd (omega arith)
  meet_repeats p (c ∷ cs) A (j, zero, g, h, s, B, C) = absurd (omega arith)
  meet_repeats p (c ∷ cs) A (suc j, suc k, g, h, s, B, C) =
      again_later p c cs (meet_repeats c cs (alternating_later p (line_over c cs l) A) (j, k, omega arith, omega arith, s, B, C))
  meet_repeats p (c ∷ cs) A (zero, suc zero, g, h, s, B, C) = absurd (omega arith)
  meet_repeats p (c ∷ cs) A (zero, suc (suc k), g, h, s, B, C) = go (spot_either s c)
    where
      go : (s ≡ c) ⊎ (s ≡ c → ⊥) → Again p (c ∷ cs)
      go (inl e) =
          again_later p c cs
          (start_again c cs k (alternating_later p (line_over c cs l) A) (omega arith)
          (subst (λ (t : Spot). OnRun (line_over c cs l) (suc k) t) e C))
      go (inr N) = share_again p c cs s A B N (suc k, omega arith, C)

module _ (f : Spot) (cs : List Spot) (l : Spot) (A : alternates (line_over f cs l) ≡ true) where
  pub repeats_touch : (y : ℕ) → repeats (columns (line_visits y f cs l)) ≡ true → touches_itself (line_over f cs l) ≡ true
  repeats_touch y h =
      let B = alternates_e (line_over f cs l) A in
      touches_itself_i (line_over f cs l) (repeats_meet l y f cs B h)

  pub touch_repeats :
      touches_itself (line_over f cs l) ≡ true
      → (s : Spot) × OnLine (line_over f cs l) s × (repeats (columns (line_visits s.y f cs l)) ≡ true)
  touch_repeats h = meet_repeats l f cs (alternates_e (line_over f cs l) A) (touches_itself_e (line_over f cs l) h)
