-- The visits of one line in one row, in the table in which each line is held against itself and against the parts: what they leave, and
-- when the line is blamed. Assumes nothing.
use Prim.Native.Nat.{ℕ, ◌<◌, ◌≤◌, min}
use native.Mathlib.Omega.{arith}
use native.Mathlib.Decide.{dec_lt, ℕ_discrete}
use mathlib.Core.Path.{◌≡◌, refl, sym, ap, ◌∙◌}
use mathlib.Core.Bool.{Bool, true, false, cond, ◌||◌, true≢false}
use mathlib.Core.Logic.{◌⊎◌, inl, inr}
use mathlib.Core.List.Memᴰ
use mathlib.Core.List.{List, [], ◌∷◌, Memᴰ}
use lib.ListN.{length, get_or, set, length-set}
use lib.Seq.{get_or-set_same, get_or-set_other}
use borrow.Author.Tests.{eq-eqb}
use Rattle.lists.specs.Select.{member}
use Rattle.lists.proofs.Bools.{or_e, or_left, or_right}
use Rattle.lists.proofs.Sets.{member_e, member_i}
use Rattle.sweep.specs.Visits.{Visit}
use Rattle.sweep.specs.Boards.{Strand, stamp, one_cell, other_cell, lowest_place, blame, foreign, was_here, visit_alone, visits_alone}
use Rattle.sweep.specs.Rows.{columns, repeats}
use Rattle.sweep.proofs.Visits.{column_e, column_i}
use Rattle.sweep.proofs.Blank.{lowest}

-- A store, and perhaps blame: the one change that a visit makes

abbrev struck : Bool → List ℕ → ℕ → ℕ → ℕ → List ℕ
struck t b p v i = cond t (blame (set b p v) i) (set b p v)

module _ (b : List ℕ) (p v i : ℕ) where
  struck_long : (t : Bool) → length (struck t b p v i) ≡ length b
  unfolding blame
  struck_long true = simp length-set
  struck_long false = simp length-set

  struck_same : (t : Bool) → p < length b → (p ≡ lowest_place → ⊥) → get_or (struck t b p v i) p 0 ≡ v
  unfolding blame
  struck_same true h n =
      get_or-set_other (set b p v) lowest_place p (min (get_or (set b p v) lowest_place 0) i) 0 n ∙ get_or-set_same b p v 0 h
  struck_same false h n = get_or-set_same b p v 0 h

  struck_other : (t : Bool) (q : ℕ) → (q ≡ p → ⊥) → (q ≡ lowest_place → ⊥) → get_or (struck t b p v i) q 0 ≡ get_or b q 0
  unfolding blame
  struck_other true q h n =
      get_or-set_other (set b p v) lowest_place q (min (get_or (set b p v) lowest_place 0) i) 0 n ∙ get_or-set_other b p q v 0 h
  struck_other false q h n = get_or-set_other b p q v 0 h

  struck_lowest :
      (t : Bool) → lowest_place < length b → (lowest_place ≡ p → ⊥) → lowest (struck t b p v i) ≡ cond t (min (lowest b) i) (lowest b)
  unfolding blame
  struck_lowest true h n =
      get_or-set_same (set b p v) lowest_place (min (lowest (set b p v)) i) 0 (omega (arith, length-set b p v))
      ∙ ap (λ (w : ℕ). min w i) (get_or-set_other b p lowest_place v 0 n)
  struck_lowest false h n = get_or-set_other b p lowest_place v 0 n

-- One line in one row

module _ (y : ℕ) (c : Strand) where
  -- the line was in column x before, or a part stands there that it does not join
  abbrev pub touch : List ℕ → ℕ → Bool
  touch b x = was_here y b c x || foreign y b c x

  -- what the line is blamed for
  abbrev pub Hit : List ℕ → List Visit → Type 0
  Hit b vs = (repeats (columns vs) ≡ true) ⊎ ((v : Visit) × Memᴰ v vs × (touch b v.column ≡ true))

  touch_same :
      (b b' : List ℕ) (x : ℕ) → get_or b' (one_cell x) 0 ≡ get_or b (one_cell x) 0 → get_or b' (other_cell x) 0 ≡ get_or b (other_cell x) 0
      → touch b' x ≡ touch b x
  unfolding was_here foreign
  touch_same b b' x e f = rw (e, f) refl

  touch_was : (b : List ℕ) (x : ℕ) → get_or b (other_cell x) 0 ≡ stamp y c.line → touch b x ≡ true
  unfolding was_here
  touch_was b x e = or_left (was_here y b c x) (foreign y b c x) (eq-eqb (get_or b (other_cell x) 0) (stamp y c.line) e)

  module _ (b : List ℕ) (x : ℕ) (long : length b ≡ 8193) (low : x < 4096) where
    visit_is : visit_alone y c b x ≡ struck (touch b x) b (other_cell x) (stamp y c.line) c.line
    unfolding visit_alone
    visit_is = refl

    visit_long : length (visit_alone y c b x) ≡ 8193
    visit_long = rw visit_is (struck_long b (other_cell x) (stamp y c.line) c.line (touch b x) ∙ long)

    visit_one : (z : ℕ) → z < 4096 → get_or (visit_alone y c b x) (one_cell z) 0 ≡ get_or b (one_cell z) 0
    visit_one z h =
        rw visit_is
        (struck_other b (other_cell x) (stamp y c.line) c.line (touch b x) (one_cell z) (λ e. omega arith) (λ e. omega arith))

    visit_here : get_or (visit_alone y c b x) (other_cell x) 0 ≡ stamp y c.line
    visit_here = rw visit_is (struck_same b (other_cell x) (stamp y c.line) c.line (touch b x) (omega arith) (λ e. omega arith))

    visit_other : (z : ℕ) → (z ≡ x → ⊥) → get_or (visit_alone y c b x) (other_cell z) 0 ≡ get_or b (other_cell z) 0
    visit_other z n =
        rw visit_is
        (struck_other b (other_cell x) (stamp y c.line) c.line (touch b x) (other_cell z) (λ e. n (omega arith)) (λ e. omega arith))

    visit_lowest : lowest (visit_alone y c b x) ≡ cond (touch b x) (min (lowest b) c.line) (lowest b)
    visit_lowest = rw visit_is (struck_lowest b (other_cell x) (stamp y c.line) c.line (touch b x) (omega arith) (λ e. omega arith))

    -- the next visits: a column that was not touched is touched only behind this visit of it
    touch_back : (z : ℕ) → z < 4096 → touch (visit_alone y c b x) z ≡ true → (x ≡ z) ⊎ (touch b z ≡ true)
    touch_back z h t = go (ℕ_discrete z x)
      where
        go : Dec (z ≡ x) → (x ≡ z) ⊎ (touch b z ≡ true)
        go (yes e) = inl (sym e)
        go (no n) = inr (sym (touch_same b (visit_alone y c b x) z (visit_one z h) (visit_other z n)) ∙ t)

    touch_on : (z : ℕ) → z < 4096 → touch b z ≡ true → touch (visit_alone y c b x) z ≡ true
    touch_on z h t = go (ℕ_discrete z x)
      where
        go : Dec (z ≡ x) → touch (visit_alone y c b x) z ≡ true
        go (yes e) = rw e (touch_was (visit_alone y c b x) x visit_here)
        go (no n) = touch_same b (visit_alone y c b x) z (visit_one z h) (visit_other z n) ∙ t

    visit_bound :
        (k : ℕ) → stamp y c.line < k → ((z : ℕ) → get_or b (other_cell z) 0 < k) → (z : ℕ) → get_or (visit_alone y c b x) (other_cell z) 0 < k
    visit_bound k s h z = go (ℕ_discrete z x)
      where
        go : Dec (z ≡ x) → get_or (visit_alone y c b x) (other_cell z) 0 < k
        go (yes e) = rw (e, visit_here) s
        go (no n) = rw (visit_other z n) (h z)

    visit_falls : lowest (visit_alone y c b x) ≤ lowest b
    visit_falls = rw visit_lowest (go (touch b x))
      where
        go : (t : Bool) → cond t (min (lowest b) c.line) (lowest b) ≤ lowest b
        go true = omega arith
        go false = omega arith

    visit_blames : touch b x ≡ true → lowest (visit_alone y c b x) ≤ c.line
    visit_blames t = rw (visit_lowest, t) (omega arith)

    visit_sound : (lowest (visit_alone y c b x) ≡ lowest b) ⊎ ((lowest (visit_alone y c b x) ≡ c.line) × (touch b x ≡ true))
    visit_sound = rw visit_lowest (go (touch b x) refl (dec_lt (lowest b) c.line))
      where
        go :
            (t : Bool) → touch b x ≡ t → Dec (lowest b < c.line)
            → (cond t (min (lowest b) c.line) (lowest b) ≡ lowest b)
            ⊎ ((cond t (min (lowest b) c.line) (lowest b) ≡ c.line) × (touch b x ≡ true))
        go true e (yes h) = inl (omega arith)
        go true e (no h) = inr (omega arith, e)
        go false e d = inl refl

-- after the visits vs of a line
pub record Passed (y : ℕ) (c : Strand) (b : List ℕ) (vs : List Visit) (b' : List ℕ) : Type 0 where
  pub long : length b' ≡ 8193
  pub ones : (x : ℕ) → x < 4096 → get_or b' (one_cell x) 0 ≡ get_or b (one_cell x) 0
  pub others : (k : ℕ) → stamp y c.line < k → ((x : ℕ) → get_or b (other_cell x) 0 < k) → (x : ℕ) → get_or b' (other_cell x) 0 < k
  pub falls : lowest b' ≤ lowest b
  pub sound : (lowest b' ≡ lowest b) ⊎ ((lowest b' ≡ c.line) × Hit y c b vs)
  pub complete : Hit y c b vs → lowest b' ≤ c.line

module _ (y : ℕ) (c : Strand) (b : List ℕ) (v : Visit) (vs : List Visit) (long : length b ≡ 8193) (low : v.column < 4096)
    (lows : (w : Visit) → Memᴰ w vs → w.column < 4096) where
  abbrev next : List ℕ
  next = visit_alone y c b v.column

  again : Memᴰ v.column (columns vs) → repeats (columns (v ∷ vs)) ≡ true
  unfolding repeats
  again m = or_left (member v.column (columns vs)) (repeats (columns vs)) (member_i (columns vs) m)

  hit_back : Hit y c next vs → Hit y c b (v ∷ vs)
  unfolding repeats
  hit_back (inl h) = inl (or_right (member v.column (columns vs)) (repeats (columns vs)) h)
  hit_back (inr h) = go (touch_back y c b v.column long low h.0.column (lows h.0 h.1) h.2)
    where
      go : (v.column ≡ h.0.column) ⊎ (touch y c b h.0.column ≡ true) → Hit y c b (v ∷ vs)
      go (inl e) = inl (again (Memᴰ.cast e (column_i h.1)))
      go (inr t) = inr (h.0, Memᴰ.tail h.1, t)

  hit_on : Hit y c b (v ∷ vs) → (touch y c b v.column ≡ true) ⊎ Hit y c next vs
  unfolding repeats
  hit_on (inl h) = go (or_e (member v.column (columns vs)) (repeats (columns vs)) h)
    where
      go : (member v.column (columns vs) ≡ true) ⊎ (repeats (columns vs) ≡ true) → (touch y c b v.column ≡ true) ⊎ Hit y c next vs
      go (inl e) =
          let r = column_e vs (member_e v.column (columns vs) e) in
          let t : touch y c next v.column ≡ true = touch_was y c next v.column (visit_here y c b v.column long low) in
          inr (inr (r.0, r.1, ap (touch y c next) r.2 ∙ t))
      go (inr e) = inr (inl e)
  hit_on (inr h) = go (Memᴰ.cases_cons h.1)
    where
      go : (h.0 ≡ v) ⊎ Memᴰ h.0 vs → (touch y c b v.column ≡ true) ⊎ Hit y c next vs
      go (inl e) = inl (ap (λ (w : Visit). touch y c b w.column) (sym e) ∙ h.2)
      go (inr m) = inr (inr (h.0, m, touch_on y c b v.column long low h.0.column (lows h.0 m) h.2))

  passed_more : {b' : List ℕ} → Passed y c next vs b' → Passed y c b (v ∷ vs) b'
  passed_more {b'} P = record {
    long = P.long;
    ones = λ x h. P.ones x h ∙ visit_one y c b v.column long low x h;
    others = λ k s h. P.others k s (visit_bound y c b v.column long low k s h);
    falls = omega (arith, P.falls, visit_falls y c b v.column long low);
    sound = sound P.sound (visit_sound y c b v.column long low);
    complete = λ h. complete (hit_on h);
  }
    where
      sound : (lowest b' ≡ lowest next) ⊎ ((lowest b' ≡ c.line) × Hit y c next vs)
          → (lowest next ≡ lowest b) ⊎ ((lowest next ≡ c.line) × (touch y c b v.column ≡ true))
          → (lowest b' ≡ lowest b) ⊎ ((lowest b' ≡ c.line) × Hit y c b (v ∷ vs))
      sound (inl e) (inl f) = inl (e ∙ f)
      sound (inl e) (inr f) = inr (e ∙ f.0, inr (v, Memᴰ.head refl, f.1))
      sound (inr e) f = inr (e.0, hit_back e.1)

      complete : (touch y c b v.column ≡ true) ⊎ Hit y c next vs → lowest b' ≤ c.line
      complete (inl t) = omega (arith, P.falls, visit_blames y c b v.column long low t)
      complete (inr h) = P.complete h

-- the visits leave the table so
pub passed :
    (y : ℕ) (c : Strand) (b : List ℕ) (vs : List Visit) → length b ≡ 8193 → ((v : Visit) → Memᴰ v vs → v.column < 4096)
    → Passed y c b vs (visits_alone y c b vs)
unfolding visits_alone repeats
passed y c b [] long lows = record {
  long = long;
  ones = λ x h. refl;
  others = λ k s h. h;
  falls = omega arith;
  sound = inl refl;
  complete = nothing;
}
  where
    nothing : Hit y c b [] → lowest b ≤ c.line
    nothing (inl h) = absurd (true≢false (sym h))
    nothing (inr h) = absurd (Memᴰ.not-nil h.1)
passed y c b (v ∷ vs) long lows =
    let low : v.column < 4096 = lows v (Memᴰ.head refl) in
    let rest : (w : Visit) → Memᴰ w vs → w.column < 4096 = λ w m. lows w (Memᴰ.tail m) in
    passed_more y c b v vs long low rest
    (passed y c (visit_alone y c b v.column) vs (visit_long y c b v.column long low) rest)
