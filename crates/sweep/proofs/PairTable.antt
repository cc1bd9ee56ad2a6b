-- The table of pairs finds the lowest line that meets a later one wrongly: what holds of it after any passes, and at the end. Assumes
-- nothing.
use Prim.Native.Nat.{ℕ, ◌+◌, ◌-◌, ◌*◌, ◌/◌, ◌%◌, ◌<◌, ◌≤◌}
use native.Mathlib.Omega.{arith}
use native.Mathlib.Decide.{dec_lt, ℕ_discrete}
use mathlib.Core.Path.{◌≡◌, refl, sym, ap, subst, ◌∙◌}
use mathlib.Core.Bool.{true, false, ◌&&◌, true≢false}
use mathlib.Core.Logic.{◌⊎◌, inl, inr}
use mathlib.Core.List.{List, [], ◌∷◌, Memᴰ}
use lib.ListN.{length, get_or}
use Rattle.lists.proofs.Bools.{and_e, and_i, or_e, or_left, or_right}
use Rattle.geometry.specs.Spots.{Spot, spot_at}
use Rattle.drawing.specs.Drawing.{Drawing}
use Rattle.sweep.specs.Visits.{Visit}
use Rattle.sweep.specs.Boards.{stamp, crossing_place, has_bit, lay_over, cross_over, pass_column}
use Rattle.sweep.specs.Sweep.{blank, lowest_pair}
use Rattle.sweep.specs.Rows.{visits_of, columns, repeats, same_kind, other_kind, BothVisit, PairWrong, Roomy}
use Rattle.sweep.proofs.Blank.{lowest, blank_length, blank_cell, blank_lowest}
use Rattle.sweep.proofs.Bits.{bit_none}
use Rattle.sweep.proofs.PairSteps.{crossed, Holds, Laid, laid, Met, met}
use Rattle.sweep.proofs.Passes.{Pass, pass, across, across_one, across_other, across_sum, step, after, sweep_passes, rows_after, Flag, flag_column, Of, sweep_e, sweep_i, Before, Ordered, sweep_ordered}

-- Meetings among passes

-- lines u and j pass one cell; or each other in two ways: at two spots, or at one that is a corner of both
abbrev Clash : List Pass → ℕ → ℕ → Type 0
Clash l u j =
    ((y : ℕ) × (a : ℕ) × Memᴰ (pass y u a) l × Memᴰ (pass y j a) l)
    ⊎ ((y : ℕ) × (a : ℕ) × (z : ℕ) × (b : ℕ) × (y ≡ z → a ≡ b → ⊥) × Memᴰ (pass y u (across a)) l × Memᴰ (pass y j a) l
    × Memᴰ (pass z u (across b)) l × Memᴰ (pass z j b) l)

-- no line, or one that a later line clashes with
abbrev Named : ℕ → List Pass → ℕ → Type 0
Named m l u = (u ≡ m) ⊎ ((j : ℕ) × (u < j) × (j < m) × Clash l u j)

-- the table after the passes of a list, of m lines
record Shown (m : ℕ) (l : List Pass) (t : List ℕ) : Type 0 where
  size : length t ≡ 40961
  inside : (y i a : ℕ) → Memᴰ (pass y i a) l → (i < m) × (a < 8192)
  -- a cell has the first line of the last row in which it was passed
  first : (y i a : ℕ) → Memᴰ (pass y i a) l → (y + 1 ≤ get_or t a 0 / 1024) × (get_or t a 0 / 1024 ≡ y + 1 → get_or t a 0 % 1024 ≤ i)
  was : (y i a : ℕ) → a < 8192 → i < 1024 → get_or t a 0 ≡ stamp y i → Memᴰ (pass y i a) l
  -- a pair in the set has crossed
  did :
      (u j : ℕ) → u < 1024 → j < 1024 → crossed t u j ≡ true
      → (y : ℕ) × (a : ℕ) × Memᴰ (pass y u (across a)) l × Memᴰ (pass y j a) l
  -- nothing is missed whose lower line is below the lowest found
  once : (y u j a : ℕ) → u < j → Memᴰ (pass y u (across a)) l → Memᴰ (pass y j a) l → (lowest t ≤ u) ⊎ (crossed t u j ≡ true)
  twice :
      (u j y a z b : ℕ) → u < j → (y ≡ z → a ≡ b → ⊥) → Memᴰ (pass y u (across a)) l → Memᴰ (pass y j a) l
      → Memᴰ (pass z u (across b)) l → Memᴰ (pass z j b) l → lowest t ≤ u
  same : (y u j a : ℕ) → u < j → Memᴰ (pass y u a) l → Memᴰ (pass y j a) l → lowest t ≤ u
  -- the lowest found meets a later line wrongly
  sound : (u : ℕ) → lowest t ≡ u → Named m l u

-- a pass of a longer list
cons_e :
    (y i a z j b : ℕ) (l : List Pass) → Memᴰ (pass z j b) (pass y i a ∷ l) → ((z ≡ y) × (j ≡ i) × (b ≡ a)) ⊎ Memᴰ (pass z j b) l
cons_e y i a z j b l m = go (mathlib.Core.List.Memᴰ.cases_cons m)
  where
    go : (pass z j b ≡ pass y i a) ⊎ Memᴰ (pass z j b) l → ((z ≡ y) × (j ≡ i) × (b ≡ a)) ⊎ Memᴰ (pass z j b) l
    go (inl e) = inl (ap (λ (p : Pass). p.row) e, ap (λ (p : Pass). p.line) e, ap (λ (p : Pass). p.cell) e)
    go (inr n) = inr n

pass_same : (y i a z j b : ℕ) → z ≡ y → j ≡ i → b ≡ a → pass z j b ≡ pass y i a
pass_same y i a z j b e f g = λ k. pass (e k) (f k) (g k)

clash_more : (p : Pass) (l : List Pass) (u j : ℕ) → Clash l u j → Clash (p ∷ l) u j
clash_more p l u j (inl (y, a, m, n)) = inl (y, a, mathlib.Core.List.Memᴰ.tail m, mathlib.Core.List.Memᴰ.tail n)
clash_more p l u j (inr (y, a, z, b, f, m, n, r, s)) =
    inr (y, a, z, b, f, mathlib.Core.List.Memᴰ.tail m, mathlib.Core.List.Memᴰ.tail n, mathlib.Core.List.Memᴰ.tail r, mathlib.Core.List.Memᴰ.tail s)

-- One pass more

module _ (m y i a : ℕ) (l : List Pass) (t : List ℕ) (few : m ≤ 1024) (hi : i < m) (ha : a < 8192)
    (S : Shown m l t) (B : (q : Pass) → Memᴰ q l → Before q (pass y i a)) where
  -- what a cell of this row has
  now_was : (b : ℕ) → b < 8192 → get_or t b 0 / 1024 ≡ y + 1 → Memᴰ (pass y (get_or t b 0 % 1024) b) l
  now_was b h e = S.was y (get_or t b 0 % 1024) b h (omega arith) (omega arith)

  -- no cell is of a later row
  no_later : (b : ℕ) → b < 8192 → get_or t b 0 / 1024 ≤ y + 1
  no_later b h = go (dec_lt (y + 1) (get_or t b 0 / 1024))
    where
      go : Dec (y + 1 < get_or t b 0 / 1024) → get_or t b 0 / 1024 ≤ y + 1
      go (yes g) =
          let n = S.was (get_or t b 0 / 1024 - 1) (get_or t b 0 % 1024) b h (omega arith) (omega arith) in
          let r : get_or t b 0 / 1024 - 1 ≤ y = (B (pass (get_or t b 0 / 1024 - 1) (get_or t b 0 % 1024) b) n).rows in
          omega arith
      go (no g) = omega arith

  -- a cell that was passed in this row is of this row
  seen : (u b : ℕ) → Memᴰ (pass y u b) l → (get_or t b 0 / 1024 ≡ y + 1) × (get_or t b 0 % 1024 ≤ u)
  seen u b n =
      let f = S.first y u b n in
      let e : get_or t b 0 / 1024 ≡ y + 1 = omega (arith, no_later b (S.inside y u b n).1, f.0) in
      (e, f.1 e)

  -- the line is not below those of this row
  not_below : (u b : ℕ) → Memᴰ (pass y u b) l → u ≤ i
  not_below u b n = (B (pass y u b) n).lines refl

  across_below : across a < 8192
  across_below = omega (arith, across_sum a)

  across_apart : across a ≡ a → ⊥
  across_apart e = omega (arith, across_sum a)

  module _ (c t' : List ℕ) (L : Laid y i a t c) (M : Met y i (across a) c t') where
    other : get_or c (across a) 0 ≡ get_or t (across a) 0
    other = L.rest (across a) across_apart (λ e. omega (arith, across_below))

    set_kept : (u j : ℕ) → crossed c u j ≡ crossed t u j
    set_kept u j = ap (λ (w : ℕ). has_bit w (j % 32)) (L.rest (crossing_place u j) (λ e. omega arith) (λ e. omega arith))

    less : lowest t' ≤ lowest t
    less = omega (arith, L.less, M.less)

    cell_rest : (b : ℕ) → b < 8192 → (b ≡ a → ⊥) → get_or t' b 0 ≡ get_or t b 0
    cell_rest b h n = M.cells b h ∙ L.rest b n (λ e. omega arith)

    cell_kept : get_or t a 0 / 1024 ≡ y + 1 → get_or t' a 0 ≡ get_or t a 0
    cell_kept e = M.cells a ha ∙ L.kept e

    cell_written : (get_or t a 0 / 1024 ≡ y + 1 → ⊥) → get_or t' a 0 ≡ stamp y i
    cell_written n = M.cells a ha ∙ L.written n

    inside' : (z j b : ℕ) → Memᴰ (pass z j b) (pass y i a ∷ l) → (j < m) × (b < 8192)
    inside' z j b n = go (cons_e y i a z j b l n)
      where
        go : ((z ≡ y) × (j ≡ i) × (b ≡ a)) ⊎ Memᴰ (pass z j b) l → (j < m) × (b < 8192)
        go (inl e) = omega arith
        go (inr r) = S.inside z j b r

    first' :
        (z j b : ℕ) → Memᴰ (pass z j b) (pass y i a ∷ l)
        → (z + 1 ≤ get_or t' b 0 / 1024) × (get_or t' b 0 / 1024 ≡ z + 1 → get_or t' b 0 % 1024 ≤ j)
    first' z j b n = go (cons_e y i a z j b l n) (ℕ_discrete b a) (ℕ_discrete (get_or t a 0 / 1024) (y + 1))
      where
        go :
            ((z ≡ y) × (j ≡ i) × (b ≡ a)) ⊎ Memᴰ (pass z j b) l → Dec (b ≡ a) → Dec (get_or t a 0 / 1024 ≡ y + 1)
            → (z + 1 ≤ get_or t' b 0 / 1024) × (get_or t' b 0 / 1024 ≡ z + 1 → get_or t' b 0 % 1024 ≤ j)
        go (inl e) d (yes h) =
            let q : get_or t' b 0 ≡ get_or t a 0 = ap (λ (x : ℕ). get_or t' x 0) e.2 ∙ cell_kept h in
            let r : get_or t a 0 % 1024 ≤ i = not_below (get_or t a 0 % 1024) a (now_was a ha h) in
            omega arith
        go (inl e) d (no h) =
            let q : get_or t' b 0 ≡ stamp y i = ap (λ (x : ℕ). get_or t' x 0) e.2 ∙ cell_written h in
            omega arith
        go (inr r) (yes e) (yes h) =
            let q : get_or t' b 0 ≡ get_or t b 0 = ap (λ (x : ℕ). get_or t' x 0) e ∙ cell_kept h ∙ ap (λ (x : ℕ). get_or t x 0) (sym e) in
            let f = S.first z j b r in
            (omega (arith, f.0), λ p. omega (arith, f.1 (omega arith)))
        go (inr r) (yes e) (no h) =
            let q : get_or t' b 0 ≡ stamp y i = ap (λ (x : ℕ). get_or t' x 0) e ∙ cell_written h in
            let w : z ≤ y = (B (pass z j b) r).rows in
            let same-cell : get_or t b 0 ≡ get_or t a 0 = ap (λ (x : ℕ). get_or t x 0) e in
            let f : z + 1 ≤ get_or t b 0 / 1024 = (S.first z j b r).0 in
            let g : get_or t a 0 / 1024 ≤ y + 1 = no_later a ha in
            (omega arith, λ p. absurd (h (omega arith)))
        go (inr r) (no e) d =
            let q : get_or t' b 0 ≡ get_or t b 0 = cell_rest b (S.inside z j b r).1 e in
            let f = S.first z j b r in
            (omega (arith, f.0), λ p. omega (arith, f.1 (omega arith)))

    was' : (z j b : ℕ) → b < 8192 → j < 1024 → get_or t' b 0 ≡ stamp z j → Memᴰ (pass z j b) (pass y i a ∷ l)
    was' z j b hb hj p = go (ℕ_discrete b a) (ℕ_discrete (get_or t a 0 / 1024) (y + 1))
      where
        go : Dec (b ≡ a) → Dec (get_or t a 0 / 1024 ≡ y + 1) → Memᴰ (pass z j b) (pass y i a ∷ l)
        go (yes e) (yes h) =
            mathlib.Core.List.Memᴰ.tail (S.was z j b hb hj (ap (λ (x : ℕ). get_or t x 0) e ∙ sym (cell_kept h) ∙ ap (λ (x : ℕ). get_or t' x 0) (sym e) ∙ p))
        go (yes e) (no h) =
            let q : stamp z j ≡ stamp y i = sym p ∙ ap (λ (x : ℕ). get_or t' x 0) e ∙ cell_written h in
            mathlib.Core.List.Memᴰ.head (pass_same y i a z j b (omega arith) (omega arith) e)
        go (no e) d = mathlib.Core.List.Memᴰ.tail (S.was z j b hb hj (sym (cell_rest b hb e) ∙ p))

    did' :
        (u j : ℕ) → u < 1024 → j < 1024 → crossed t' u j ≡ true
        → (z : ℕ) × (b : ℕ) × Memᴰ (pass z u (across b)) (pass y i a ∷ l) × Memᴰ (pass z j b) (pass y i a ∷ l)
    did' u j hu hj p = go (M.more u j hu hj p)
      where
        go :
            (crossed c u j ≡ true) ⊎ ((j ≡ i) × (get_or c (across a) 0 / 1024 ≡ y + 1) × (get_or c (across a) 0 % 1024 ≡ u))
            → (z : ℕ) × (b : ℕ) × Memᴰ (pass z u (across b)) (pass y i a ∷ l) × Memᴰ (pass z j b) (pass y i a ∷ l)
        go (inl q) = let r = S.did u j hu hj (sym (set_kept u j) ∙ q) in (r.0, r.1, mathlib.Core.List.Memᴰ.tail r.2, mathlib.Core.List.Memᴰ.tail r.3)
        go (inr q) =
            let e : get_or t (across a) 0 ≡ stamp y u = omega (arith, other, q.1, q.2) in
            (y, a, mathlib.Core.List.Memᴰ.tail (S.was y u (across a) across_below hu e), mathlib.Core.List.Memᴰ.head (pass_same y i a y j a refl q.0 refl))

    -- the lower line of two in a row is not the new one
    older :
        (z u j b c' : ℕ) → u < j → Memᴰ (pass z u b) (pass y i a ∷ l) → Memᴰ (pass z j c') (pass y i a ∷ l)
        → Memᴰ (pass z u b) l
    older z u j b c' h n r = go (cons_e y i a z u b l n) (cons_e y i a z j c' l r)
      where
        go :
            ((z ≡ y) × (u ≡ i) × (b ≡ a)) ⊎ Memᴰ (pass z u b) l → ((z ≡ y) × (j ≡ i) × (c' ≡ a)) ⊎ Memᴰ (pass z j c') l
            → Memᴰ (pass z u b) l
        go (inl e) (inl f) = absurd (omega arith)
        go (inl e) (inr f) = let g : j ≤ i = (B (pass z j c') f).lines e.0 in absurd (omega arith)
        go (inr e) f = e

    -- the line passes across one that was here: that one's number stands there, or a lower one's, which has been found
    meets : (u : ℕ) → u < i → Memᴰ (pass y u (across a)) l → (lowest t ≤ u) ⊎ Holds c (across a) y u
    meets u h n = go (ℕ_discrete (get_or t (across a) 0 % 1024) u)
      where
        s : (get_or t (across a) 0 / 1024 ≡ y + 1) × (get_or t (across a) 0 % 1024 ≤ u)
        s = seen u (across a) n

        go : Dec (get_or t (across a) 0 % 1024 ≡ u) → (lowest t ≤ u) ⊎ Holds c (across a) y u
        go (yes e) = inr (omega (arith, other, s.0), omega (arith, other))
        go (no e) =
            let v = get_or t (across a) 0 % 1024 in
            let h = S.same y v u (across a) (omega (arith, s.1)) (now_was (across a) across_below s.0) n in
            inl (omega (arith, s.1))

    once' :
        (z u j b : ℕ) → u < j → Memᴰ (pass z u (across b)) (pass y i a ∷ l) → Memᴰ (pass z j b) (pass y i a ∷ l)
        → (lowest t' ≤ u) ⊎ (crossed t' u j ≡ true)
    once' z u j b h n r = go (older z u j (across b) b h n r) (cons_e y i a z j b l r)
      where
        old : (lowest t ≤ u) ⊎ (crossed t u j ≡ true) → j < m → (lowest t' ≤ u) ⊎ (crossed t' u j ≡ true)
        old (inl p) g = inl (omega (arith, less))
        old (inr p) g = inr (M.bits u j (omega arith) (omega arith) (set_kept u j ∙ p))

        new : j ≡ i → (lowest t ≤ u) ⊎ Holds c (across a) y u → (lowest t' ≤ u) ⊎ (crossed t' u j ≡ true)
        new e (inl p) = inl (omega (arith, less))
        new e (inr p) = inr (subst (λ (x : ℕ). crossed t' u x ≡ true) (sym e) (M.marks u p.0 p.1 (λ q. omega arith)))

        go :
            Memᴰ (pass z u (across b)) l → ((z ≡ y) × (j ≡ i) × (b ≡ a)) ⊎ Memᴰ (pass z j b) l
            → (lowest t' ≤ u) ⊎ (crossed t' u j ≡ true)
        go p (inl e) =
            new e.1
            (meets u (omega arith)
            (subst (λ (q : Pass). Memᴰ q l) (pass_same y u (across a) z u (across b) e.0 refl (ap across e.2)) p))
        go p (inr q) = old (S.once z u j b h p q) (S.inside z j b q).0

    -- the pair has crossed before
    twice_new :
        (u z b : ℕ) → u < i → Memᴰ (pass y u (across a)) l → Memᴰ (pass z u (across b)) l → Memᴰ (pass z i b) l
        → lowest t' ≤ u
    twice_new u z b h n p q = go (S.once z u i b h p q) (meets u h n)
      where
        go :
            (lowest t ≤ u) ⊎ (crossed t u i ≡ true) → (lowest t ≤ u) ⊎ Holds c (across a) y u
            → lowest t' ≤ u
        go (inl e) d = omega (arith, less)
        go (inr e) (inl f) = omega (arith, less)
        go (inr e) (inr f) = M.again u f.0 f.1 (λ g. omega arith) (set_kept u i ∙ e)

    twice' :
        (u j z b w k : ℕ) → u < j → (z ≡ w → b ≡ k → ⊥) → Memᴰ (pass z u (across b)) (pass y i a ∷ l)
        → Memᴰ (pass z j b) (pass y i a ∷ l) → Memᴰ (pass w u (across k)) (pass y i a ∷ l)
        → Memᴰ (pass w j k) (pass y i a ∷ l) → lowest t' ≤ u
    twice' u j z b w k h n p q r s =
        go (older z u j (across b) b h p q) (cons_e y i a z j b l q) (older w u j (across k) k h r s) (cons_e y i a w j k l s)
      where
        line : (x g : ℕ) → j ≡ i → Memᴰ (pass x j g) l → Memᴰ (pass x i g) l
        line x g e = subst (λ (o : ℕ). Memᴰ (pass x o g) l) e

        here : (x g : ℕ) → x ≡ y → g ≡ a → Memᴰ (pass x u (across g)) l → Memᴰ (pass y u (across a)) l
        here x g e f = subst (λ (o : Pass). Memᴰ o l) (pass_same y u (across a) x u (across g) e refl (ap across f))

        go :
            Memᴰ (pass z u (across b)) l → ((z ≡ y) × (j ≡ i) × (b ≡ a)) ⊎ Memᴰ (pass z j b) l
            → Memᴰ (pass w u (across k)) l → ((w ≡ y) × (j ≡ i) × (k ≡ a)) ⊎ Memᴰ (pass w j k) l → lowest t' ≤ u
        go f (inl e) g (inl o) = absurd (n (e.0 ∙ sym o.0) (e.2 ∙ sym o.2))
        go f (inl e) g (inr o) = twice_new u w k (omega arith) (here z b e.0 e.2 f) g (line w k e.1 o)
        go f (inr e) g (inl o) = twice_new u z b (omega arith) (here w k o.0 o.2 g) f (line z b o.1 e)
        go f (inr e) g (inr o) = omega (arith, less, S.twice u j z b w k h n f e g o)

    same' : (z u j b : ℕ) → u < j → Memᴰ (pass z u b) (pass y i a ∷ l) → Memᴰ (pass z j b) (pass y i a ∷ l) → lowest t' ≤ u
    same' z u j b h n r = go (older z u j b b h n r) (cons_e y i a z j b l r)
      where
        go : Memᴰ (pass z u b) l → ((z ≡ y) × (j ≡ i) × (b ≡ a)) ⊎ Memᴰ (pass z j b) l → lowest t' ≤ u
        go p (inl e) =
            let s = seen u a (subst (λ (q : Pass). Memᴰ q l) (pass_same y u a z u b e.0 refl e.2) p) in
            omega (arith, s.1, L.found s.0, M.less)
        go p (inr q) = omega (arith, less, S.same z u j b h p q)

    sound' : (u : ℕ) → lowest t' ≡ u → Named m (pass y i a ∷ l) u
    sound' u e = go (M.from u e)
      where
        old : Named m l u → Named m (pass y i a ∷ l) u
        old (inl p) = inl p
        old (inr p) = inr (p.0, p.1, p.2, clash_more (pass y i a) l u p.0 p.3)

        over : (lowest t ≡ u) ⊎ Holds t a y u → Named m (pass y i a ∷ l) u
        over (inl p) = old (S.sound u p)
        over (inr p) =
            let n : Memᴰ (pass y u a) l = S.was y u a ha (omega arith) (omega arith) in
            let h : u ≤ i = not_below u a n in
            let ne : (u ≡ i → ⊥) = λ q. (B (pass y u a) n).apart refl q refl in
            inr (i, omega arith, hi, inl (y, a, mathlib.Core.List.Memᴰ.tail n, mathlib.Core.List.Memᴰ.head refl))

        go :
            (lowest c ≡ u) ⊎ ((get_or c (across a) 0 / 1024 ≡ y + 1) × (get_or c (across a) 0 % 1024 ≡ u) × (u ≡ i → ⊥)
            × (crossed c u i ≡ true))
            → Named m (pass y i a ∷ l) u
        go (inl p) = over (L.from u p)
        go (inr p) =
            let hu : u < 1024 = omega (arith, p.1) in
            let q : get_or t (across a) 0 ≡ stamp y u = omega (arith, other, p.0, p.1) in
            let n : Memᴰ (pass y u (across a)) l = S.was y u (across a) across_below hu q in
            let h : u ≤ i = not_below u (across a) n in
            let ne : (u ≡ i → ⊥) = p.2 in
            let d = S.did u i hu (omega arith) (sym (set_kept u i) ∙ p.3) in
            inr (
              i,
              omega arith,
              hi,
              inr (
                y,
                a,
                d.0,
                d.1,
                (λ v w. (B (pass d.0 i d.1) d.3).apart (sym v) refl (sym w)),
                mathlib.Core.List.Memᴰ.tail n,
                mathlib.Core.List.Memᴰ.head refl,
                mathlib.Core.List.Memᴰ.tail d.2,
                mathlib.Core.List.Memᴰ.tail d.3,
              ),
            )

    shown_more : Shown m (pass y i a ∷ l) t'
    shown_more = record {
      size = M.size ∙ L.size ∙ S.size;
      inside = inside';
      first = first';
      was = was';
      did = did';
      once = once';
      twice = twice';
      same = same';
      sound = sound';
    }

  shown_step : Shown m (pass y i a ∷ l) (step t (pass y i a))
  unfolding step pass_column
  shown_step =
      let L : Laid y i a t (lay_over y i a t) = laid y i a t ha S.size in
      shown_more (lay_over y i a t) (cross_over y i (across a) (lay_over y i a t)) L
      (met y i (across a) (lay_over y i a t) (omega arith) (L.size ∙ S.size))

-- All passes

shown_none : (n m : ℕ) → n ≡ 40961 → Shown m [] (blank n m)
shown_none n m e = record {
  size = blank_length n m ∙ e;
  inside = λ y i a h. absurd (mathlib.Core.List.Memᴰ.not-nil h);
  first = λ y i a h. absurd (mathlib.Core.List.Memᴰ.not-nil h);
  was = λ y i a h g p. absurd (omega (arith, blank_cell n m a (λ q. omega arith)));
  did = λ u j hu hj p.
      absurd
      (true≢false
      (sym p ∙ ap (λ (w : ℕ). has_bit w (j % 32)) (blank_cell n m (crossing_place u j) (λ q. omega arith)) ∙ bit_none (j % 32)));
  once = λ y u j a h p q. absurd (mathlib.Core.List.Memᴰ.not-nil p);
  twice = λ u j y a z b h f p q r s. absurd (mathlib.Core.List.Memᴰ.not-nil p);
  same = λ y u j a h p q. absurd (mathlib.Core.List.Memᴰ.not-nil p);
  sound = λ u p. inl (sym p ∙ blank_lowest n m (omega arith));
}

-- the passes ps behind those of l, the last first
unfoldable onto : List Pass → List Pass → List Pass
onto [] l = l
onto (p ∷ ps) l = onto ps (p ∷ l)

onto_old : (q : Pass) (ps l : List Pass) → Memᴰ q l → Memᴰ q (onto ps l)
unfolding onto
onto_old q [] l m = m
onto_old q (p ∷ ps) l m = onto_old q ps (p ∷ l) (mathlib.Core.List.Memᴰ.tail m)

onto_new : (q : Pass) (ps l : List Pass) → Memᴰ q ps → Memᴰ q (onto ps l)
unfolding onto
onto_new q [] l m = absurd (mathlib.Core.List.Memᴰ.not-nil m)
onto_new q (p ∷ ps) l m = go (λ n. onto_new q ps (p ∷ l) n) (mathlib.Core.List.Memᴰ.cases_cons m)
  where
    go : (Memᴰ q ps → Memᴰ q (onto ps (p ∷ l))) → (q ≡ p) ⊎ Memᴰ q ps → Memᴰ q (onto ps (p ∷ l))
    go f (inl e) = onto_old q ps (p ∷ l) (mathlib.Core.List.Memᴰ.head e)
    go f (inr n) = f n

onto_e : (q : Pass) (ps l : List Pass) → Memᴰ q (onto ps l) → Memᴰ q ps ⊎ Memᴰ q l
unfolding onto
onto_e q [] l m = inr m
onto_e q (p ∷ ps) l m = go (onto_e q ps (p ∷ l) m)
  where
    at : (q ≡ p) ⊎ Memᴰ q l → Memᴰ q (p ∷ ps) ⊎ Memᴰ q l
    at (inl e) = inl (mathlib.Core.List.Memᴰ.head e)
    at (inr n) = inr n

    go : Memᴰ q ps ⊎ Memᴰ q (p ∷ l) → Memᴰ q (p ∷ ps) ⊎ Memᴰ q l
    go (inl n) = inl (mathlib.Core.List.Memᴰ.tail n)
    go (inr n) = at (mathlib.Core.List.Memᴰ.cases_cons n)

shown_after :
    (m : ℕ) (ps l : List Pass) (t : List ℕ) → m ≤ 1024 → Shown m l t → ((p q : Pass) → Memᴰ p l → Memᴰ q ps → Before p q)
    → Ordered ps
    → ((q : Pass) → Memᴰ q ps → (q.line < m) × (q.cell < 8192)) → Shown m (onto ps l) (after t ps)
unfolding onto after
shown_after m [] l t few S B o i = S
shown_after m (p ∷ ps) l t few S B o i =
    let h = i p (mathlib.Core.List.Memᴰ.head refl) in
    shown_after m ps (p ∷ l) (step t p) few
    (shown_step m p.row p.line p.cell l t few h.0 h.1 S (λ q n. B q p n (mathlib.Core.List.Memᴰ.head refl)))
    (λ r q n k. go r q (mathlib.Core.List.Memᴰ.cases_cons n) k)
    o.1 (λ q n. i q (mathlib.Core.List.Memᴰ.tail n))
  where
    go : (r q : Pass) → (r ≡ p) ⊎ Memᴰ r l → Memᴰ q ps → Before r q
    go r q (inl e) k = subst (λ (x : Pass). Before x q) (sym e) (o.0 q k)
    go r q (inr n) k = B r q n (mathlib.Core.List.Memᴰ.tail k)

-- The drawing

flags_same : (v w : Visit) (a : ℕ) → Flag v a → Flag w a → same_kind v w ≡ true
unfolding same_kind
flags_same v w a (inl h) (inl g) = or_left (v.level && w.level) (v.upright && w.upright) (and_i v.level w.level h.0 g.0)
flags_same v w a (inl h) (inr g) = absurd (omega arith)
flags_same v w a (inr h) (inl g) = absurd (omega arith)
flags_same v w a (inr h) (inr g) =
    or_right (v.level && w.level) (v.upright && w.upright) (and_i v.upright w.upright h.0 g.0)

flags_other : (v w : Visit) (a : ℕ) → Flag v (across a) → Flag w a → other_kind v w ≡ true
unfolding other_kind
flags_other v w a (inl h) (inl g) = absurd (omega (arith, across_sum a))
flags_other v w a (inl h) (inr g) = or_left (v.level && w.upright) (v.upright && w.level) (and_i v.level w.upright h.0 g.0)
flags_other v w a (inr h) (inl g) = or_right (v.level && w.upright) (v.upright && w.level) (and_i v.upright w.level h.0 g.0)
flags_other v w a (inr h) (inr g) = absurd (omega (arith, across_sum a))

same_flags : (v w : Visit) (x : ℕ) → v.column ≡ x → w.column ≡ x → same_kind v w ≡ true → (a : ℕ) × (a / 2 ≡ x) × Flag v a × Flag w a
unfolding same_kind
same_flags v w x p q h = go (or_e (v.level && w.level) (v.upright && w.upright) h)
  where
    go : ((v.level && w.level) ≡ true) ⊎ ((v.upright && w.upright) ≡ true) → (a : ℕ) × (a / 2 ≡ x) × Flag v a × Flag w a
    go (inl e) =
        let f = and_e v.level w.level e in
        (2 * x, omega arith, inl (f.0, omega arith), inl (f.1, omega arith))
    go (inr e) =
        let f = and_e v.upright w.upright e in
        (2 * x + 1, omega arith, inr (f.0, omega arith), inr (f.1, omega arith))

other_flags :
    (v w : Visit) (x : ℕ) → v.column ≡ x → w.column ≡ x → other_kind v w ≡ true
    → (a : ℕ) × (a / 2 ≡ x) × Flag v (across a) × Flag w a
unfolding other_kind
other_flags v w x p q h = go (or_e (v.level && w.upright) (v.upright && w.level) h)
  where
    go : ((v.level && w.upright) ≡ true) ⊎ ((v.upright && w.level) ≡ true) → (a : ℕ) × (a / 2 ≡ x) × Flag v (across a) × Flag w a
    go (inl e) =
        let f = and_e v.level w.upright e in
        (2 * x + 1, omega arith, inl (f.0, omega (arith, across_other x)), inr (f.1, omega arith))
    go (inr e) =
        let f = and_e v.upright w.level e in
        (2 * x, omega arith, inr (f.0, omega (arith, across_one x)), inl (f.1, omega arith))

module _ (d : Drawing) where
  -- all passes, the last first
  all : List Pass
  all = onto (sweep_passes d 0 (d.height + 1)) []

  all_e : (y i a : ℕ) → Memᴰ (pass y i a) all → (y ≤ d.height) × Of (visits_of d y i) a
  unfolding all
  all_e y i a m = go (onto_e (pass y i a) (sweep_passes d 0 (d.height + 1)) [] m)
    where
      go : Memᴰ (pass y i a) (sweep_passes d 0 (d.height + 1)) ⊎ Memᴰ (pass y i a) [] → (y ≤ d.height) × Of (visits_of d y i) a
      go (inl n) = let r = sweep_e d 0 (d.height + 1) (pass y i a) n in (omega (arith, r.1), r.2.1)
      go (inr n) = absurd (mathlib.Core.List.Memᴰ.not-nil n)

  all_i : (y i a : ℕ) → y ≤ d.height → i < length d.routes → Of (visits_of d y i) a → Memᴰ (pass y i a) all
  unfolding all
  all_i y i a h l o =
      onto_new (pass y i a) (sweep_passes d 0 (d.height + 1)) []
      (sweep_i d 0 (d.height + 1) y i a (omega arith) (omega arith) l o)

  -- passes of one cell are visits of one spot on runs of the same kind
  same_wrong :
      (u j y a : ℕ) → Memᴰ (pass y u a) all → Memᴰ (pass y j a) all
      → (s : Spot) × (s.y ≤ d.height) × BothVisit same_kind d u j s
  same_wrong u j y a m n =
      let p = all_e y u a m in
      let q = all_e y j a n in
      let v = p.1.0 in
      let w = q.1.0 in (
        spot_at (a / 2) y,
        p.0,
        (v, w, p.1.1, q.1.1, flag_column v a p.1.2, flag_column w a q.1.2, flags_same v w a p.1.2 q.1.2),
      )

  -- passes of a column's two cells are visits of one spot on runs of different kinds
  other_wrong :
      (u j y a : ℕ) → Memᴰ (pass y u (across a)) all → Memᴰ (pass y j a) all
      → (y ≤ d.height) × BothVisit other_kind d u j (spot_at (a / 2) y)
  other_wrong u j y a m n =
      let p = all_e y u (across a) m in
      let q = all_e y j a n in
      let v = p.1.0 in
      let w = q.1.0 in
      let e : v.column ≡ a / 2 = omega (arith, flag_column v (across a) p.1.2, across_sum a) in
      (p.0, (v, w, p.1.1, q.1.1, e, flag_column w a q.1.2, flags_other v w a p.1.2 q.1.2))

  clash_wrong : (u j : ℕ) → Clash all u j → PairWrong d u j
  clash_wrong u j (inl (y, a, m, n)) = inl (same_wrong u j y a m n)
  clash_wrong u j (inr (y, a, z, b, f, m, n, r, s)) = go (ℕ_discrete y z) (ℕ_discrete (a / 2) (b / 2))
    where
      apart : (spot_at (a / 2) y ≡ spot_at (b / 2) z → ⊥) → PairWrong d u j
      apart e =
          let p = other_wrong u j y a m n in
          let q = other_wrong u j z b r s in
          inr (spot_at (a / 2) y, spot_at (b / 2) z, p.0, q.0, e, p.1, q.1)

      go : Dec (y ≡ z) → Dec (a / 2 ≡ b / 2) → PairWrong d u j
      go (yes e) (yes g) =
          let h : (a ≡ b → ⊥) = f e in
          let c : across a ≡ b = omega (arith, across_sum a) in
          inl (same_wrong u j z b (subst (λ (x : Pass). Memᴰ x all) (pass_same z u b y u (across a) e refl c) m) s)
      go (yes e) (no g) = apart (λ q. g (ap (λ (k : Spot). k.x) q))
      go (no e) c = apart (λ q. e (ap (λ (k : Spot). k.y) q))

-- no line visits a column twice in a row of the head
module _
    (d : Drawing) (R : Roomy d) (N : (y i : ℕ) → y ≤ d.height → i < length d.routes → repeats (columns (visits_of d y i)) ≡ false) where
  end : List ℕ
  end = after (blank 40961 (length d.routes)) (sweep_passes d 0 (d.height + 1))

  end_lowest : lowest end ≡ lowest_pair d
  unfolding end lowest_pair
  end_lowest = ap (λ (t : List ℕ). get_or t 8192 0) (sym (rows_after d (blank 40961 (length d.routes)) 0 (d.height + 1)))

  end_shown : Shown (length d.routes) (all d) end
  unfolding end all
  end_shown =
      shown_after (length d.routes) (sweep_passes d 0 (d.height + 1)) [] (blank 40961 (length d.routes)) R.lines
      (shown_none 40961 (length d.routes) refl) (λ p q m n. absurd (mathlib.Core.List.Memᴰ.not-nil m))
      (sweep_ordered d 0 (d.height + 1) (λ y i h l. N y i (omega arith) l)) fits
    where
      fits : (q : Pass) → Memᴰ q (sweep_passes d 0 (d.height + 1)) → (q.line < length d.routes) × (q.cell < 8192)
      fits q n =
          let r = sweep_e d 0 (d.height + 1) q n in
          let v = r.2.1.0 in
          let h : v.column < 4096 = R.visits q.row q.line v r.2.0 r.2.1.1 in
          let c : v.column ≡ q.cell / 2 = flag_column v q.cell r.2.1.2 in
          (r.2.0, omega arith)

  -- what is found is a line's number, or the count of lines
  pub pair_most : lowest_pair d ≤ length d.routes
  pair_most = go (end_shown.sound (lowest_pair d) end_lowest)
    where
      go : Named (length d.routes) (all d) (lowest_pair d) → lowest_pair d ≤ length d.routes
      go (inl e) = omega arith
      go (inr c) = omega (arith, c.1, c.2)

  -- the line that is found meets a later one wrongly
  pub pair_sound :
      lowest_pair d < length d.routes → (j : ℕ) × (lowest_pair d < j) × (j < length d.routes) × PairWrong d (lowest_pair d) j
  pair_sound h = go (end_shown.sound (lowest_pair d) end_lowest)
    where
      go :
          Named (length d.routes) (all d) (lowest_pair d)
          → (j : ℕ) × (lowest_pair d < j) × (j < length d.routes) × PairWrong d (lowest_pair d) j
      go (inl e) = absurd (omega arith)
      go (inr c) = (c.0, c.1, c.2, clash_wrong d (lowest_pair d) c.0 c.3)

  -- no lower line does
  pub pair_complete : (i j : ℕ) → i < j → j < length d.routes → PairWrong d i j → lowest_pair d ≤ i
  pair_complete i j h l (inl (s, k, (v, w, m, n, p, q, e))) =
      let f = same_flags v w s.x p q e in
      omega (
        arith,
        end_lowest,
        end_shown.same s.y i j f.0 h (all_i d s.y i f.0 k (omega arith) (v, m, f.2))
            (all_i d s.y j f.0 k l (w, n, f.3)),
      )
  pair_complete i j h l (inr (s, r, ks, kr, ne, (v, w, m, n, p, q, e), (v', w', m', n', p', q', e'))) =
      let f = other_flags v w s.x p q e in
      let g = other_flags v' w' r.x p' q' e' in
      omega (
        arith,
        end_lowest,
        end_shown.twice i j s.y f.0 r.y g.0 h (λ a b. ne (λ o. spot_at (x_same f.1 g.1 b o) (a o)))
            (all_i d s.y i (across f.0) ks (omega arith) (v, m, f.2))
            (all_i d s.y j f.0 ks l (w, n, f.3))
            (all_i d r.y i (across g.0) kr (omega arith) (v', m', g.2))
            (all_i d r.y j g.0 kr l (w', n', g.3)),
      )
    where
      x_same : {a b : ℕ} → a / 2 ≡ s.x → b / 2 ≡ r.x → a ≡ b → s.x ≡ r.x
      x_same c c' o = omega arith
