-- The visits of a line in a row are the spots of the line in that row, and their flags say how the line passes each: as an end, as a
-- corner, inside a level run or inside an upright run. Assumes nothing.
use Prim.Native.Nat.{ℕ, zero, suc, ◌+◌, ◌-◌, ◌<◌, ◌≤◌, min, max}
use native.Mathlib.Omega.{arith}
use native.Mathlib.Decide.{ℕ_discrete, dec_lt}
use mathlib.Core.Path.{◌≡◌, refl, sym, ap, ◌∙◌, subst}
use mathlib.Core.Bool.{Bool, true, false, cond, ◌&&◌}
use mathlib.Core.Logic.{◌⊎◌, inl, inr}
use mathlib.Core.List.Memᴰ
use mathlib.Core.List.{List, [], ◌∷◌, ◌++◌, Memᴰ}
use lib.ListN.{length, length-append}
use lib.Dec.{eqb, ltb}
use borrow.Author.Tests.{eqb-true, eqb-false, eq-eqb, ne_eqb, ltb-true, lt-ltb}
use Rattle.lists.specs.Select.{cons_if}
use Rattle.lists.proofs.Bools.{and_e, and_i}
use Rattle.lists.proofs.Filters.{cons_if_e, cons_if_here}
use Rattle.geometry.specs.Spots.{Spot, spot_at}
use Rattle.geometry.specs.Lines.{point, IsRun, OnLine, Between, Level, Upright}
use Rattle.geometry.proofs.Spots.{spot_path}
use Rattle.validation.specs.Facing.{line_over}
use Rattle.validation.proofs.Ways.{point_on}
use Rattle.sweep.specs.Visits.{Visit, visit_at, end_visits, corner_visits, level_visits, open_visits, visits_behind, line_visits}
use Rattle.sweep.specs.Rows.{columns}

-- Strictly between two points

-- of one row
pub record InRow (p q s : Spot) : Type 0 where
  pub level : p.y ≡ q.y
  pub row : s.y ≡ p.y
  pub left : min p.x q.x < s.x
  pub right : s.x < max p.x q.x

-- of one column
pub record InColumn (p q s : Spot) : Type 0 where
  pub upright : p.x ≡ q.x
  pub column : s.x ≡ p.x
  pub below : min p.y q.y < s.y
  pub above : s.y < max p.y q.y

pub row_between : (p q s : Spot) → InRow p q s → Between p q s
row_between p q s I = record { left = omega arith; right = omega arith; below = omega arith; above = omega arith }

pub column_between : (p q s : Spot) → InColumn p q s → Between p q s
column_between p q s I = record { left = omega arith; right = omega arith; below = omega arith; above = omega arith }

-- with the flags that such a visit has
pub data Inside (p q s : Spot) : Bool → Bool → Type 0 where
  in_row_lem : InRow p q s → Inside p q s true false
  in_column : InColumn p q s → Inside p q s false true

pub inside_between : {a b : Bool} (p q s : Spot) → Inside p q s a b → Between p q s
inside_between p q s (in_row_lem I) = row_between p q s I
inside_between p q s (in_column I) = column_between p q s I

-- two spots are the same or not
pub spot_either : (p q : Spot) → (p ≡ q) ⊎ (p ≡ q → ⊥)
spot_either p q = go (ℕ_discrete p.x q.x) (ℕ_discrete p.y q.y)
  where
    go : Dec (p.x ≡ q.x) → Dec (p.y ≡ q.y) → (p ≡ q) ⊎ (p ≡ q → ⊥)
    go (yes e) (yes f) = inl (spot_path e f)
    go (yes e) (no f) = inr λ h. f (ap (λ (s : Spot). s.y) h)
    go (no e) d = inr λ h. e (ap (λ (s : Spot). s.x) h)

module _ (p q s : Spot) where
  level_strictly :
      p.y ≡ q.y → Between p q s → (s ≡ p → ⊥) → (s ≡ q → ⊥) → InRow p q s
  level_strictly e B f g = go (ℕ_discrete s.x p.x) (ℕ_discrete s.x q.x)
    where
      r : s.y ≡ p.y
      r = omega arith

      go : Dec (s.x ≡ p.x) → Dec (s.x ≡ q.x) → InRow p q s
      go (yes h) d = absurd (f (spot_path h r))
      go (no h) (yes d) = absurd (g (spot_path d (r ∙ e)))
      go (no h) (no d) = record { level = e; row = r; left = omega arith; right = omega arith }

  upright_strictly : p.x ≡ q.x → Between p q s → (s ≡ p → ⊥) → (s ≡ q → ⊥) → InColumn p q s
  upright_strictly e B f g = go (ℕ_discrete s.y p.y) (ℕ_discrete s.y q.y)
    where
      r : s.x ≡ p.x
      r = omega arith

      go : Dec (s.y ≡ p.y) → Dec (s.y ≡ q.y) → InColumn p q s
      go (yes h) d = absurd (f (spot_path r h))
      go (no h) (yes d) = absurd (g (spot_path (r ∙ e) d))
      go (no h) (no d) = record { upright = e; column = r; below = omega arith; above = omega arith }

-- what a run has besides its two points
pub strictly_inside :
    (p q s : Spot) → (p.y ≡ q.y) ⊎ (p.x ≡ q.x) → Between p q s → (s ≡ p → ⊥) → (s ≡ q → ⊥)
    → (a : Bool) × (b : Bool) × Inside p q s a b
strictly_inside p q s (inl e) B f g = (true, false, in_row_lem (level_strictly p q s e B f g))
strictly_inside p q s (inr e) B f g = (false, true, in_column (upright_strictly p q s e B f g))

-- The columns of visits

pub column_e : {x : ℕ} (vs : List Visit) → Memᴰ x (columns vs) → (v : Visit) × Memᴰ v vs × (v.column ≡ x)
column_e vs m = Memᴰ.of_map (λ (v : Visit). v.column) vs m

pub column_i : {v : Visit} {vs : List Visit} → Memᴰ v vs → Memᴰ v.column (columns vs)
column_i m = Memᴰ.map (λ (v : Visit). v.column) m

-- Visits of one point, and between two

here_e : {v w : Visit} (y : ℕ) (s : Spot) → Memᴰ v (cons_if (eqb s.y y) w []) → (s.y ≡ y) × (v ≡ w)
here_e {v} {w} y s m = go (cons_if_e (eqb s.y y) m)
  where
    go : ((eqb s.y y ≡ true) × (v ≡ w)) ⊎ Memᴰ v [] → (s.y ≡ y) × (v ≡ w)
    go (inl (e, h)) = (eqb-true s.y y e, h)
    go (inr n) = absurd (Memᴰ.not-nil n)

here_i : (a b : Bool) (p s : Spot) → p ≡ s → Memᴰ (visit_at s.x a b) (cons_if (eqb p.y s.y) (visit_at p.x a b) [])
here_i a b p s e =
    cons_if_here [] (eqb p.y s.y) (eq-eqb p.y s.y (ap (λ (t : Spot). t.y) e)) (ap (λ (t : Spot). visit_at t.x a b) (sym e))

pub end_visits_e : {v : Visit} (y : ℕ) (s : Spot) → Memᴰ v (end_visits y s) → (s.y ≡ y) × (v ≡ visit_at s.x false false)
unfolding end_visits
end_visits_e y s m = here_e y s m

pub end_visits_i : (p s : Spot) → p ≡ s → Memᴰ (visit_at s.x false false) (end_visits s.y p)
unfolding end_visits
end_visits_i p s e = here_i false false p s e

pub corner_visits_e : {v : Visit} (y : ℕ) (s : Spot) → Memᴰ v (corner_visits y s) → (s.y ≡ y) × (v ≡ visit_at s.x true true)
unfolding corner_visits
corner_visits_e y s m = here_e y s m

pub corner_visits_i : (p s : Spot) → p ≡ s → Memᴰ (visit_at s.x true true) (corner_visits s.y p)
unfolding corner_visits
corner_visits_i p s e = here_i true true p s e

pub level_visits_e :
    {v : Visit} (x k : ℕ) → Memᴰ v (level_visits x k) → (z : ℕ) × (x ≤ z) × (z < x + k) × (v ≡ visit_at z true false)
unfolding level_visits
level_visits_e x zero m = absurd (Memᴰ.not-nil m)
level_visits_e {v} x (suc k) m = go (λ n. level_visits_e (x + 1) k n) (Memᴰ.cases_cons m)
  where
    go :
        (Memᴰ v (level_visits (x + 1) k) → (z : ℕ) × (x + 1 ≤ z) × (z < x + 1 + k) × (v ≡ visit_at z true false))
        → (v ≡ visit_at x true false) ⊎ Memᴰ v (level_visits (x + 1) k)
        → (z : ℕ) × (x ≤ z) × (z < x + suc k) × (v ≡ visit_at z true false)
    go f (inl e) = (x, omega arith, omega arith, e)
    go f (inr n) = let r = f n in (r.0, omega (arith, r.1), omega (arith, r.2), r.3)

pub level_visits_i : (x k z : ℕ) → x ≤ z → z < x + k → Memᴰ (visit_at z true false) (level_visits x k)
unfolding level_visits
level_visits_i x zero z f g = absurd (omega arith)
level_visits_i x (suc k) z f g = go (λ h. level_visits_i (x + 1) k z h (omega arith)) (ℕ_discrete z x)
  where
    go :
        (x + 1 ≤ z → Memᴰ (visit_at z true false) (level_visits (x + 1) k)) → Dec (z ≡ x)
        → Memᴰ (visit_at z true false) (visit_at x true false ∷ level_visits (x + 1) k)
    go later (yes e) = Memᴰ.head (ap (λ (i : ℕ). visit_at i true false) e)
    go later (no e) = Memᴰ.tail (later (omega arith))

-- said of a visit of row y
abbrev InsideAt : Spot → Spot → ℕ → Visit → Type 0
InsideAt p q y v = Inside p q (spot_at v.column y) v.level v.upright

-- the columns strictly between two
span : (l h z : ℕ) → l + 1 ≤ z → z < l + 1 + (h - (l + 1)) → (l < z) × (z < h)
span l h z f g = (omega arith, omega arith)

span_i : (l h z : ℕ) → l < z → z < h → (l + 1 ≤ z) × (z < l + 1 + (h - (l + 1)))
span_i l h z f g = (omega arith, omega arith)

module _ (y : ℕ) (p q : Spot) where
  level_open_e :
      {v : Visit} → p.y ≡ q.y → p.y ≡ y
      → Memᴰ v (level_visits (min p.x q.x + 1) (max p.x q.x - (min p.x q.x + 1))) → InsideAt p q y v
  level_open_e e f m =
      let r = level_visits_e (min p.x q.x + 1) (max p.x q.x - (min p.x q.x + 1)) m in
      let t = span (min p.x q.x) (max p.x q.x) r.0 r.1 r.2 in
      subst (λ (w : Visit). InsideAt p q y w) (sym r.3) (in_row_lem (record { level = e; row = sym f; left = t.0; right = t.1 }))

  upright_open_e :
      {v : Visit} → p.x ≡ q.x
      → Memᴰ v (cons_if (ltb (min p.y q.y) y && ltb y (max p.y q.y)) (visit_at p.x false true) []) → InsideAt p q y v
  upright_open_e {v} e m = go (cons_if_e (ltb (min p.y q.y) y && ltb y (max p.y q.y)) m)
    where
      go :
          (((ltb (min p.y q.y) y && ltb y (max p.y q.y)) ≡ true) × (v ≡ visit_at p.x false true)) ⊎ Memᴰ v []
          → InsideAt p q y v
      go (inl (h, f)) =
          let r = and_e (ltb (min p.y q.y) y) (ltb y (max p.y q.y)) h in
          subst (λ (w : Visit). InsideAt p q y w) (sym f)
          (in_column (record { upright = e; column = refl; below = ltb-true _ _ r.0; above = ltb-true _ _ r.1 }))
      go (inr n) = absurd (Memᴰ.not-nil n)

  pub open_visits_e : {v : Visit} → (p.y ≡ q.y) ⊎ (p.x ≡ q.x) → Memᴰ v (open_visits y p q) → InsideAt p q y v
  unfolding open_visits
  open_visits_e {v} S m = first (eqb p.y q.y) refl m
    where
      columns : List Visit
      columns = level_visits (min p.x q.x + 1) (max p.x q.x - (min p.x q.x + 1))

      uprightly : List Visit
      uprightly = cons_if (ltb (min p.y q.y) y && ltb y (max p.y q.y)) (visit_at p.x false true) []

      second : (b : Bool) → eqb p.y y ≡ b → p.y ≡ q.y → Memᴰ v (cond b columns []) → InsideAt p q y v
      second true f e n = level_open_e e (eqb-true _ _ f) n
      second false f e n = absurd (Memᴰ.not-nil n)

      slope : (p.y ≡ q.y → ⊥) → (p.y ≡ q.y) ⊎ (p.x ≡ q.x) → p.x ≡ q.x
      slope N (inl e) = absurd (N e)
      slope N (inr e) = e

      first : (b : Bool) → eqb p.y q.y ≡ b → Memᴰ v (cond b (cond (eqb p.y y) columns []) uprightly) → InsideAt p q y v
      first true e n = second (eqb p.y y) refl (eqb-true _ _ e) n
      first false e n = upright_open_e (slope (eqb-false _ _ e) S) n

pub open_visits_i :
    {a b : Bool} (p q s : Spot) → Inside p q s a b → Memᴰ (visit_at s.x a b) (open_visits s.y p q)
unfolding open_visits
open_visits_i p q s (in_row_lem I) =
    let r = span_i (min p.x q.x) (max p.x q.x) s.x I.left I.right in
    rw (eq-eqb p.y q.y I.level, eq-eqb p.y s.y (sym I.row))
    (level_visits_i (min p.x q.x + 1) (max p.x q.x - (min p.x q.x + 1)) s.x r.0 r.1)
open_visits_i p q s (in_column I) =
    rw (ne_eqb p.y q.y λ e. apart e)
    (cons_if_here [] (ltb (min p.y q.y) s.y && ltb s.y (max p.y q.y))
    (and_i _ _ (lt-ltb _ _ I.below) (lt-ltb _ _ I.above))
    (ap (λ (i : ℕ). visit_at i false true) I.column))
  where
    apart : p.y ≡ q.y → ⊥
    apart e = omega arith

-- Visits behind a line's first point

-- how a line with the points ps passes a spot, its first point apart, with the flags that such a visit has
data Behind (ps : List Spot) (s : Spot) : Bool → Bool → Type 0 where
  last_point : (k : ℕ) → suc k ≡ length ps → point ps k ≡ s → Behind ps s false false
  inner_point : (k : ℕ) → suc (suc k) < length ps → point ps (suc k) ≡ s → Behind ps s true true
  no_point : {a b : Bool} (k : ℕ) → IsRun ps k → Inside (point ps k) (point ps (suc k)) s a b → Behind ps s a b

abbrev BehindAt : List Spot → ℕ → Visit → Type 0
BehindAt ps y v = Behind ps (spot_at v.column y) v.level v.upright

behind_later : {a b : Bool} {s : Spot} (p : Spot) (ps : List Spot) → Behind ps s a b → Behind (p ∷ ps) s a b
unfolding point
behind_later p ps (last_point k l e) = last_point (suc k) (ap suc l) e
behind_later p ps (inner_point k l e) = inner_point (suc k) (omega arith) e
behind_later p ps (no_point k l I) = no_point (suc k) (omega arith) I

pub two_points : (f : Spot) (cs : List Spot) (l : Spot) → 2 ≤ length (line_over f cs l)
two_points f cs l = simp length-append (omega arith)

-- its runs are level or upright
abbrev pub Straight : List Spot → Type 0
Straight ps = (k : ℕ) → IsRun ps k → Level ps k ⊎ Upright ps k

pub straight_later : (p : Spot) (ps : List Spot) → Straight (p ∷ ps) → Straight ps
unfolding point
straight_later p ps S k l = S (suc k) (omega arith)

module _ (y : ℕ) (l : Spot) where
  visits_behind_e :
      {v : Visit} (p : Spot) (cs : List Spot) → Straight (line_over p cs l) → Memᴰ v (visits_behind y p cs l)
      → BehindAt (line_over p cs l) y v
  unfolding visits_behind point
  visits_behind_e {v} p [] S m = go (Memᴰ.append_cases (open_visits y p l) m)
    where
      go : Memᴰ v (open_visits y p l) ⊎ Memᴰ v (end_visits y l) → BehindAt (line_over p [] l) y v
      go (inl n) = no_point 0 (omega arith) (open_visits_e y p l (S 0 (omega arith)) n)
      go (inr n) =
          let r = end_visits_e y l n in
          subst (λ (w : Visit). BehindAt (line_over p [] l) y w) (sym r.1) (last_point 1 refl (spot_path refl r.0))
  visits_behind_e {v} p (c ∷ cs) S m =
      go (λ n. visits_behind_e c cs (straight_later p (line_over c cs l) S) n) (Memᴰ.append_cases (open_visits y p c) m)
    where
      go' :
          (Memᴰ v (visits_behind y c cs l) → BehindAt (line_over c cs l) y v)
          → Memᴰ v (corner_visits y c) ⊎ Memᴰ v (visits_behind y c cs l) → BehindAt (line_over p (c ∷ cs) l) y v
      go' below (inl n) =
          let r = corner_visits_e y c n in
          let w = two_points c cs l in
          subst (λ (w : Visit). BehindAt (line_over p (c ∷ cs) l) y w) (sym r.1) (inner_point 0 (omega arith) (spot_path refl r.0))
      go' below (inr n) = behind_later p (line_over c cs l) (below n)

      go :
          (Memᴰ v (visits_behind y c cs l) → BehindAt (line_over c cs l) y v)
          → Memᴰ v (open_visits y p c) ⊎ Memᴰ v (corner_visits y c ++ visits_behind y c cs l)
          → BehindAt (line_over p (c ∷ cs) l) y v
      go below (inl n) = no_point 0 (omega arith) (open_visits_e y p c (S 0 (omega arith)) n)
      go below (inr n) = go' below (Memᴰ.append_cases (corner_visits y c) n)

module _ (s l : Spot) where
  later :
      {v : Visit} (p c : Spot) (cs : List Spot) → Memᴰ v (visits_behind s.y c cs l) → Memᴰ v (visits_behind s.y p (c ∷ cs) l)
  unfolding visits_behind
  later p c cs m = Memᴰ.append_right (open_visits s.y p c) (Memᴰ.append_right (corner_visits s.y c) m)

  visits_behind_i :
      {a b : Bool} (p : Spot) (cs : List Spot) → Behind (line_over p cs l) s a b
      → Memᴰ (visit_at s.x a b) (visits_behind s.y p cs l)
  unfolding visits_behind point
  visits_behind_i p [] (last_point zero h e) = absurd (omega arith)
  visits_behind_i p [] (last_point (suc zero) h e) = Memᴰ.append_right (open_visits s.y p l) (end_visits_i l s e)
  visits_behind_i p [] (last_point (suc (suc k)) h e) = absurd (omega arith)
  visits_behind_i p [] (inner_point k h e) = absurd (omega arith)
  visits_behind_i p [] (no_point zero h I) = Memᴰ.append_left (end_visits s.y l) (open_visits_i p l s I)
  visits_behind_i p [] (no_point (suc k) h I) = absurd (omega arith)
  visits_behind_i p (c ∷ cs) (last_point zero h e) = absurd (omega arith)
  visits_behind_i p (c ∷ cs) (last_point (suc k) h e) = later p c cs (visits_behind_i c cs (last_point k (omega arith) e))
  visits_behind_i p (c ∷ cs) (inner_point zero h e) =
      Memᴰ.append_right (open_visits s.y p c) (Memᴰ.append_left (visits_behind s.y c cs l) (corner_visits_i c s e))
  visits_behind_i p (c ∷ cs) (inner_point (suc k) h e) = later p c cs (visits_behind_i c cs (inner_point k (omega arith) e))
  visits_behind_i p (c ∷ cs) (no_point zero h I) =
      Memᴰ.append_left (corner_visits s.y c ++ visits_behind s.y c cs l) (open_visits_i p c s I)
  visits_behind_i p (c ∷ cs) (no_point (suc k) h I) = later p c cs (visits_behind_i c cs (no_point k (omega arith) I))

-- A whole line

-- how a line with the points ps passes a spot, with the flags that such a visit has
pub data Visiting (ps : List Spot) (s : Spot) : Bool → Bool → Type 0 where
  at_end_lem : (s ≡ point ps 0) ⊎ (s ≡ point ps (length ps - 1)) → Visiting ps s false false
  at_corner : (k : ℕ) → 0 < k → suc k < length ps → point ps k ≡ s → Visiting ps s true true
  in_level : (k : ℕ) → IsRun ps k → InRow (point ps k) (point ps (suc k)) s → Visiting ps s true false
  in_upright : (k : ℕ) → IsRun ps k → InColumn (point ps k) (point ps (suc k)) s → Visiting ps s false true

-- said of a visit of row y
abbrev pub VisitingAt : List Spot → ℕ → Visit → Type 0
VisitingAt ps y v = Visiting ps (spot_at v.column y) v.level v.upright

from_inside :
    {a b : Bool} (ps : List Spot) (s : Spot) (k : ℕ) → IsRun ps k → Inside (point ps k) (point ps (suc k)) s a b → Visiting ps s a b
from_inside ps s k l (in_row_lem I) = in_level k l I
from_inside ps s k l (in_column I) = in_upright k l I

from_behind : {a b : Bool} (ps : List Spot) (s : Spot) → Behind ps s a b → Visiting ps s a b
from_behind ps s (last_point k l e) = at_end_lem (inr (sym e ∙ ap (point ps) (omega arith)))
from_behind ps s (inner_point k l e) = at_corner (suc k) (omega arith) l e
from_behind ps s (no_point k l I) = from_inside ps s k l I

module _ (f : Spot) (cs : List Spot) (l : Spot) where
  -- a visit is of a spot that the line passes so
  pub visit_kind :
      {v : Visit} (y : ℕ) → Straight (line_over f cs l) → Memᴰ v (line_visits y f cs l) → VisitingAt (line_over f cs l) y v
  unfolding line_visits point
  visit_kind {v} y S m = go (Memᴰ.append_cases (end_visits y f) m)
    where
      go : Memᴰ v (end_visits y f) ⊎ Memᴰ v (visits_behind y f cs l) → VisitingAt (line_over f cs l) y v
      go (inl n) =
          let r = end_visits_e y f n in
          subst (λ (w : Visit). VisitingAt (line_over f cs l) y w) (sym r.1) (at_end_lem (inl (spot_path refl (sym r.0))))
      go (inr n) = from_behind (line_over f cs l) (spot_at v.column y) (visits_behind_e y l f cs S n)

  behind_visited : {a b : Bool} (s : Spot) → Behind (line_over f cs l) s a b → Memᴰ (visit_at s.x a b) (line_visits s.y f cs l)
  unfolding line_visits
  behind_visited s B = Memᴰ.append_right (end_visits s.y f) (visits_behind_i s l f cs B)

  -- and such a spot has its visit
  pub kind_visit : {a b : Bool} (s : Spot) → Visiting (line_over f cs l) s a b → Memᴰ (visit_at s.x a b) (line_visits s.y f cs l)
  unfolding line_visits point
  kind_visit s (at_end_lem (inl e)) = Memᴰ.append_left (visits_behind s.y f cs l) (end_visits_i f s (sym e))
  kind_visit s (at_end_lem (inr e)) =
      let w = two_points f cs l in
      behind_visited s (last_point (length (line_over f cs l) - 1) (omega arith) (sym e))
  kind_visit s (at_corner zero g h e) = absurd (omega arith)
  kind_visit s (at_corner (suc k) g h e) = behind_visited s (inner_point k h e)
  kind_visit s (in_level k h I) = behind_visited s (no_point k h (in_row_lem I))
  kind_visit s (in_upright k h I) = behind_visited s (no_point k h (in_column I))

-- a spot that a line passes is on it
pub kind_on_line : {a b : Bool} (ps : List Spot) (s : Spot) → 2 ≤ length ps → Visiting ps s a b → OnLine ps s
kind_on_line ps s w (at_end_lem (inl e)) = subst (λ (t : Spot). OnLine ps t) (sym e) (point_on ps 0 w (omega arith))
kind_on_line ps s w (at_end_lem (inr e)) = subst (λ (t : Spot). OnLine ps t) (sym e) (point_on ps (length ps - 1) w (omega arith))
kind_on_line ps s w (at_corner k g h e) = subst (λ (t : Spot). OnLine ps t) e (point_on ps k w (omega arith))
kind_on_line ps s w (in_level k h I) = (k, h, row_between _ _ s I)
kind_on_line ps s w (in_upright k h I) = (k, h, column_between _ _ s I)

-- and one on it, it passes
point_kind : (ps : List Spot) (k : ℕ) (s : Spot) → k < length ps → s ≡ point ps k → (a : Bool) × (b : Bool) × Visiting ps s a b
point_kind ps zero s l e = (false, false, at_end_lem (inl e))
point_kind ps (suc k) s l e = go (dec_lt (suc (suc k)) (length ps))
  where
    go : Dec (suc (suc k) < length ps) → (a : Bool) × (b : Bool) × Visiting ps s a b
    go (yes h) = (true, true, at_corner (suc k) (omega arith) h (sym e))
    go (no h) = (false, false, at_end_lem (inr (e ∙ ap (point ps) (omega arith))))

pub on_line_kind : (ps : List Spot) (s : Spot) → Straight ps → OnLine ps s → (a : Bool) × (b : Bool) × Visiting ps s a b
on_line_kind ps s S (k, l, B) = go (spot_either s (point ps k)) (spot_either s (point ps (suc k)))
  where
    go :
        (s ≡ point ps k) ⊎ (s ≡ point ps k → ⊥) → (s ≡ point ps (suc k)) ⊎ (s ≡ point ps (suc k) → ⊥)
        → (a : Bool) × (b : Bool) × Visiting ps s a b
    go (inl e) d = point_kind ps k s (omega arith) e
    go (inr N) (inl e) = point_kind ps (suc k) s l e
    go (inr N) (inr M) =
        let r = strictly_inside (point ps k) (point ps (suc k)) s (S k l) B N M in
        (r.0, r.1, from_inside ps s k l r.2)

module _ (f : Spot) (cs : List Spot) (l : Spot) (S : Straight (line_over f cs l)) where
  -- the spots that are visited are those of the line
  pub visited_on_line : {v : Visit} (y : ℕ) → Memᴰ v (line_visits y f cs l) → OnLine (line_over f cs l) (spot_at v.column y)
  visited_on_line {v} y m = kind_on_line (line_over f cs l) (spot_at v.column y) (two_points f cs l) (visit_kind f cs l y S m)

  pub on_line_visited :
      (s : Spot) → OnLine (line_over f cs l) s → (v : Visit) × Memᴰ v (line_visits s.y f cs l) × (v.column ≡ s.x)
  on_line_visited s o =
      let r = on_line_kind (line_over f cs l) s S o in
      (visit_at s.x r.0 r.1, kind_visit f cs l s r.2, refl)
