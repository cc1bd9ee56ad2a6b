-- What a line's pass of a column does to the table of pairs: to the cells, to the set of crossings and to the lowest line found. Assumes
-- nothing.
use Prim.Native.Nat.{ℕ, ◌+◌, ◌/◌, ◌%◌, ◌^◌, ◌<◌, ◌≤◌, min}
use native.Mathlib.Omega.{arith}
use native.Mathlib.Decide.{ℕ_discrete}
use mathlib.Core.Path.{◌≡◌, refl, sym, ap, subst, ◌∙◌}
use mathlib.Core.Bool.{Bool, true, false, cond, not, ◌&&◌, true≢false}
use mathlib.Core.Logic.{◌⊎◌, inl, inr}
use mathlib.Core.List.{List}
use lib.ListN.{length, get_or, set, length-set}
use lib.Seq.{get_or-set_same, get_or-set_other}
use lib.Dec.{eqb}
use borrow.Author.Tests.{eqb-true, eqb-false}
use Rattle.sweep.specs.Boards.{stamp, in_row, blame, crossing_place, has_bit, cross, lay_over, cross_over}
use Rattle.sweep.proofs.Blank.{lowest}
use Rattle.sweep.proofs.Bits.{bit_added, bit_other}

-- a pair is in the set
abbrev pub crossed : List ℕ → ℕ → ℕ → Bool
crossed b u j = has_bit (get_or b (crossing_place u j) 0) (j % 32)

-- cell o has line u, of row y
abbrev pub Holds : List ℕ → ℕ → ℕ → ℕ → Type 0
Holds b o y u = (get_or b o 0 / 1024 ≡ y + 1) × (get_or b o 0 % 1024 ≡ u)

-- the word that has the pair too, and the table with it
abbrev pair_word : List ℕ → ℕ → ℕ → ℕ
pair_word b u j = get_or b (crossing_place u j) 0 + 2 ^ (j % 32)

abbrev with_pair : List ℕ → ℕ → ℕ → List ℕ
with_pair b u j = set b (crossing_place u j) (pair_word b u j)

-- Blaming a line

module _ (b : List ℕ) (i : ℕ) where
  blame_size : length (blame b i) ≡ length b
  unfolding blame
  blame_size = length-set b 8192 (min (lowest b) i)

  blame_rest : (k : ℕ) → (k ≡ 8192 → ⊥) → get_or (blame b i) k 0 ≡ get_or b k 0
  unfolding blame
  blame_rest k n = get_or-set_other b 8192 k (min (lowest b) i) 0 n

  blame_least : length b ≡ 40961 → lowest (blame b i) ≡ min (lowest b) i
  unfolding blame
  blame_least e = get_or-set_same b 8192 (min (lowest b) i) 0 (omega arith)

either_least : (m n u : ℕ) → min m n ≡ u → (m ≡ u) ⊎ (n ≡ u)
either_least m n u e = go (ℕ_discrete m u)
  where
    go : Dec (m ≡ u) → (m ≡ u) ⊎ (n ≡ u)
    go (yes h) = inl h
    go (no h) = inr (omega arith)

-- A line has a spot on a run of one kind: cell a of row y

pub record Laid (y i a : ℕ) (b c : List ℕ) : Type 0 where
  pub size : length c ≡ length b
  pub less : lowest c ≤ lowest b
  pub rest : (k : ℕ) → (k ≡ a → ⊥) → (k ≡ 8192 → ⊥) → get_or c k 0 ≡ get_or b k 0
  pub kept : get_or b a 0 / 1024 ≡ y + 1 → get_or c a 0 ≡ get_or b a 0
  pub written : (get_or b a 0 / 1024 ≡ y + 1 → ⊥) → get_or c a 0 ≡ stamp y i
  pub found : get_or b a 0 / 1024 ≡ y + 1 → lowest c ≤ get_or b a 0 % 1024
  pub from : (u : ℕ) → lowest c ≡ u → (lowest b ≡ u) ⊎ Holds b a y u

pub laid : (y i a : ℕ) (b : List ℕ) → a < 8192 → length b ≡ 40961 → Laid y i a b (lay_over y i a b)
unfolding lay_over in_row
laid y i a b h e = go (eqb (get_or b a 0 / 1024) (y + 1)) refl
  where
    go : (t : Bool) → eqb (get_or b a 0 / 1024) (y + 1) ≡ t → Laid y i a b (cond t (blame b (get_or b a 0 % 1024)) (set b a (stamp y i)))
    go true q =
        let here : get_or b a 0 / 1024 ≡ y + 1 = eqb-true (get_or b a 0 / 1024) (y + 1) q in
        let least = blame_least b (get_or b a 0 % 1024) e in
        record {
          size = blame_size b (get_or b a 0 % 1024);
          less = omega arith;
          rest = λ k n p. blame_rest b (get_or b a 0 % 1024) k p;
          kept = λ r. blame_rest b (get_or b a 0 % 1024) a (λ p. omega arith);
          written = λ n. absurd (n here);
          found = λ r. omega arith;
          from = λ u p. back u (either_least (lowest b) (get_or b a 0 % 1024) u (sym least ∙ p)) here;
        }
      where
        back :
            (u : ℕ) → (lowest b ≡ u) ⊎ (get_or b a 0 % 1024 ≡ u) → get_or b a 0 / 1024 ≡ y + 1
            → (lowest b ≡ u) ⊎ Holds b a y u
        back u (inl p) r = inl p
        back u (inr p) r = inr (r, p)
    go false q =
        let away : (get_or b a 0 / 1024 ≡ y + 1 → ⊥) = eqb-false (get_or b a 0 / 1024) (y + 1) q in
        let same : lowest (set b a (stamp y i)) ≡ lowest b = get_or-set_other b a 8192 (stamp y i) 0 (λ p. omega arith) in
        record {
          size = length-set b a (stamp y i);
          less = omega arith;
          rest = λ k n p. get_or-set_other b a k (stamp y i) 0 n;
          kept = λ r. absurd (away r);
          written = λ n. get_or-set_same b a (stamp y i) 0 (omega arith);
          found = λ r. absurd (away r);
          from = λ u p. inl (sym same ∙ p);
        }

-- A pair crosses

record Noted (u j : ℕ) (b c : List ℕ) : Type 0 where
  size : length c ≡ length b
  less : lowest c ≤ lowest b
  cells : (k : ℕ) → k < 8192 → get_or c k 0 ≡ get_or b k 0
  bits : (v k : ℕ) → v < 1024 → k < 1024 → crossed b v k ≡ true → crossed c v k ≡ true
  more : (v k : ℕ) → v < 1024 → k < 1024 → crossed c v k ≡ true → (crossed b v k ≡ true) ⊎ ((v ≡ u) × (k ≡ j))
  marks : crossed c u j ≡ true
  again : crossed b u j ≡ true → lowest c ≤ u
  from : (v : ℕ) → lowest c ≡ v → (lowest b ≡ v) ⊎ ((v ≡ u) × (crossed b u j ≡ true))

-- of the pairs' bits only its own is set anew
module _ (u j : ℕ) (b : List ℕ) (hu : u < 1024) (hj : j < 1024) (e : length b ≡ 40961) where
  noted_same : crossed b u j ≡ false → crossed (with_pair b u j) u j ≡ true
  noted_same q =
      ap (λ (w : ℕ). has_bit w (j % 32)) (get_or-set_same b (crossing_place u j) (pair_word b u j) 0 (omega arith))
      ∙ bit_added (get_or b (crossing_place u j) 0) (j % 32) q

  noted_other :
      (v k : ℕ) → v < 1024 → k < 1024 → ((v ≡ u) × (k ≡ j) → ⊥) → crossed b u j ≡ false
      → crossed (with_pair b u j) v k ≡ crossed b v k
  noted_other v k hv hk n q = go (ℕ_discrete (crossing_place v k) (crossing_place u j))
    where
      go : Dec (crossing_place v k ≡ crossing_place u j) → crossed (with_pair b u j) v k ≡ crossed b v k
      go (no p) = ap (λ (x : ℕ). has_bit x (k % 32)) (get_or-set_other b (crossing_place u j) (crossing_place v k) (pair_word b u j) 0 p)
      go (yes p) =
          let apart : (j % 32 ≡ k % 32 → ⊥) = λ r. n (omega arith, omega arith) in
          ap (λ (x : ℕ). has_bit (get_or (with_pair b u j) x 0) (k % 32)) p
          ∙ ap (λ (x : ℕ). has_bit x (k % 32)) (get_or-set_same b (crossing_place u j) (pair_word b u j) 0 (omega arith))
          ∙ bit_other (get_or b (crossing_place u j) 0) (j % 32) (k % 32) q apart
          ∙ ap (λ (x : ℕ). has_bit (get_or b x 0) (k % 32)) (sym p)

both : (v u k j : ℕ) → Dec ((v ≡ u) × (k ≡ j))
both v u k j = go (ℕ_discrete v u) (ℕ_discrete k j)
  where
    go : Dec (v ≡ u) → Dec (k ≡ j) → Dec ((v ≡ u) × (k ≡ j))
    go (yes p) (yes q) = yes (p, q)
    go (yes p) (no q) = no (λ r. q r.1)
    go (no p) (yes q) = no (λ r. p r.0)
    go (no p) (no q) = no (λ r. p r.0)

noted : (u j : ℕ) (b : List ℕ) → u < 1024 → j < 1024 → length b ≡ 40961 → Noted u j b (cross b u j)
unfolding cross
noted u j b hu hj e = go (crossed b u j) refl
  where
    go :
        (t : Bool) → crossed b u j ≡ t
        → Noted u j b (cond t (blame b u) (with_pair b u j))
    go true q =
        let least = blame_least b u e in
        record {
          size = blame_size b u;
          less = omega arith;
          cells = λ k h. blame_rest b u k (λ p. omega arith);
          bits = λ v k hv hk r. ap (λ (w : ℕ). has_bit w (k % 32)) (blame_rest b u (crossing_place v k) (λ p. omega arith)) ∙ r;
          more = λ v k hv hk r. inl (sym (ap (λ (w : ℕ). has_bit w (k % 32)) (blame_rest b u (crossing_place v k) (λ p. omega arith))) ∙ r);
          marks = ap (λ (w : ℕ). has_bit w (j % 32)) (blame_rest b u (crossing_place u j) (λ p. omega arith)) ∙ q;
          again = λ r. omega arith;
          from = λ v p. back v (either_least (lowest b) u v (sym least ∙ p));
        }
      where
        back : (v : ℕ) → (lowest b ≡ v) ⊎ (u ≡ v) → (lowest b ≡ v) ⊎ ((v ≡ u) × (crossed b u j ≡ true))
        back v (inl p) = inl p
        back v (inr p) = inr (sym p, q)
    go false q =
        let same : lowest (with_pair b u j) ≡ lowest b =
        get_or-set_other b (crossing_place u j) 8192 (pair_word b u j) 0 (λ p. omega arith) in
        record {
          size = length-set b (crossing_place u j) (pair_word b u j);
          less = omega arith;
          cells = λ k h. get_or-set_other b (crossing_place u j) k (pair_word b u j) 0 (λ p. omega arith);
          bits = λ v k hv hk r. noted_other u j b hu hj e v k hv hk (λ p. clash v k p r) q ∙ r;
          more = λ v k hv hk r. back v k hv hk r (both v u k j);
          marks = noted_same u j b hu hj e q;
          again = λ r. absurd (true≢false (sym r ∙ q));
          from = λ v p. inl (sym same ∙ p);
        }
      where
        clash : (v k : ℕ) → (v ≡ u) × (k ≡ j) → crossed b v k ≡ true → ⊥
        clash v k (p, r) h = true≢false (sym h ∙ ap (λ (x : ℕ). crossed b x k) p ∙ ap (λ (x : ℕ). crossed b u x) r ∙ q)

        back :
            (v k : ℕ) → v < 1024 → k < 1024
            → crossed (with_pair b u j) v k ≡ true → Dec ((v ≡ u) × (k ≡ j))
            → (crossed b v k ≡ true) ⊎ ((v ≡ u) × (k ≡ j))
        back v k hv hk r (yes p) = inr p
        back v k hv hk r (no p) = inl (sym (noted_other u j b hu hj e v k hv hk p q) ∙ r)

-- A line crosses the first that has the spot on a run of the other kind: cell o of row y

pub record Met (y i o : ℕ) (b c : List ℕ) : Type 0 where
  pub size : length c ≡ length b
  pub less : lowest c ≤ lowest b
  pub cells : (k : ℕ) → k < 8192 → get_or c k 0 ≡ get_or b k 0
  pub bits : (u j : ℕ) → u < 1024 → j < 1024 → crossed b u j ≡ true → crossed c u j ≡ true
  pub more :
      (u j : ℕ) → u < 1024 → j < 1024 → crossed c u j ≡ true
      → (crossed b u j ≡ true) ⊎ ((j ≡ i) × (get_or b o 0 / 1024 ≡ y + 1) × (get_or b o 0 % 1024 ≡ u))
  pub marks : (u : ℕ) → get_or b o 0 / 1024 ≡ y + 1 → get_or b o 0 % 1024 ≡ u → (u ≡ i → ⊥) → crossed c u i ≡ true
  pub again : (u : ℕ) → get_or b o 0 / 1024 ≡ y + 1 → get_or b o 0 % 1024 ≡ u → (u ≡ i → ⊥) → crossed b u i ≡ true → lowest c ≤ u
  pub from :
      (u : ℕ) → lowest c ≡ u
      → (lowest b ≡ u) ⊎ ((get_or b o 0 / 1024 ≡ y + 1) × (get_or b o 0 % 1024 ≡ u) × (u ≡ i → ⊥) × (crossed b u i ≡ true))

module _ (y i o : ℕ) (b : List ℕ) (hi : i < 1024) (e : length b ≡ 40961) where
  -- there is such a line
  met_one :
      (u : ℕ) → get_or b o 0 / 1024 ≡ y + 1 → get_or b o 0 % 1024 ≡ u → (u ≡ i → ⊥) → Met y i o b (cross b u i)
  met_one u here is n =
      let hu : u < 1024 = omega arith in
      let N : Noted u i b (cross b u i) = noted u i b hu hi e in
      record {
        size = N.size;
        less = N.less;
        cells = N.cells;
        bits = N.bits;
        more = λ v k hv hk r. wide v k (N.more v k hv hk r);
        marks = λ v p q r. subst (λ (x : ℕ). crossed (cross b u i) x i ≡ true) (sym is ∙ q) N.marks;
        again = λ v p q r s.
            subst (λ (x : ℕ). lowest (cross b u i) ≤ x) (sym is ∙ q) (N.again (subst (λ (x : ℕ). crossed b x i ≡ true) (sym q ∙ is) s));
        from = λ v p. back v (N.from v p);
      }
    where
      wide :
          (v k : ℕ) → (crossed b v k ≡ true) ⊎ ((v ≡ u) × (k ≡ i))
          → (crossed b v k ≡ true) ⊎ ((k ≡ i) × (get_or b o 0 / 1024 ≡ y + 1) × (get_or b o 0 % 1024 ≡ v))
      wide v k (inl p) = inl p
      wide v k (inr p) = inr (p.1, here, omega arith)

      back :
          (v : ℕ) → (lowest b ≡ v) ⊎ ((v ≡ u) × (crossed b u i ≡ true))
          → (lowest b ≡ v) ⊎ ((get_or b o 0 / 1024 ≡ y + 1) × (get_or b o 0 % 1024 ≡ v) × (v ≡ i → ⊥) × (crossed b v i ≡ true))
      back v (inl p) = inl p
      back v (inr p) = inr (here, omega arith, (λ r. n (sym p.0 ∙ r)), subst (λ (x : ℕ). crossed b x i ≡ true) (sym p.0) p.1)

  -- there is none
  met_none : ((u : ℕ) → get_or b o 0 / 1024 ≡ y + 1 → get_or b o 0 % 1024 ≡ u → (u ≡ i → ⊥) → ⊥) → Met y i o b b
  met_none n = record {
    size = refl;
    less = omega arith;
    cells = λ k h. refl;
    bits = λ u j hu hj r. r;
    more = λ u j hu hj r. inl r;
    marks = λ u p q r. absurd (n u p q r);
    again = λ u p q r s. absurd (n u p q r);
    from = λ u p. inl p;
  }

pub met : (y i o : ℕ) (b : List ℕ) → i < 1024 → length b ≡ 40961 → Met y i o b (cross_over y i o b)
unfolding cross_over in_row
met y i o b hi e = go (eqb (get_or b o 0 / 1024) (y + 1)) refl (eqb (get_or b o 0 % 1024) i) refl
  where
    go :
        (s : Bool) → eqb (get_or b o 0 / 1024) (y + 1) ≡ s → (t : Bool) → eqb (get_or b o 0 % 1024) i ≡ t
        → Met y i o b (cond (s && not t) (cross b (get_or b o 0 % 1024) i) b)
    go true p true q = met_none y i o b hi e (λ u r s n. n (sym s ∙ eqb-true (get_or b o 0 % 1024) i q))
    go true p false q =
        met_one y i o b hi e (get_or b o 0 % 1024) (eqb-true (get_or b o 0 / 1024) (y + 1) p) refl (eqb-false (get_or b o 0 % 1024) i q)
    go false p true q = met_none y i o b hi e (λ u r s n. eqb-false (get_or b o 0 / 1024) (y + 1) p r)
    go false p false q = met_none y i o b hi e (λ u r s n. eqb-false (get_or b o 0 / 1024) (y + 1) p r)
