-- Meetings hold under other numbers of the parts: what holds by rank holds by part number. Assumes nothing.
use Prim.Native.Nat.{ℕ, suc, ◌<◌, ◌≤◌}
use mathlib.Core.Path.{◌≡◌, sym, ap, subst, subst₂, ◌∙◌}
use mathlib.Core.Logic.{◌⊎◌, inl, inr, ⊎_elim}
use mathlib.Core.List.{List}
use lib.ListN.{length}
use Rattle.geometry.specs.Spots.{Spot}
use Rattle.geometry.specs.Lines.{point, IsRun, OnRun, Level, Upright, OnLine, CrossingAt, CommonPart, Meetings}

-- Below n each part has a rank, no two the same, and its spot is its rank's; each cable's first and last part have its lower and its upper
-- rank, and its points are the same.
pub record Renames
    (n m : ℕ) (spot : ℕ → Spot) (lower upper : ℕ → ℕ) (points : ℕ → List Spot)
    (rank : ℕ → ℕ) (spot' : ℕ → Spot) (first last : ℕ → ℕ) (points' : ℕ → List Spot) : Type 0 where
  pub inside : (p : ℕ) → p < n → rank p < n
  pub one : (p q : ℕ) → p < n → q < n → rank p ≡ rank q → p ≡ q
  pub spots : (p : ℕ) → p < n → spot' p ≡ spot (rank p)
  pub first_inside : (i : ℕ) → i < m → first i < n
  pub last_inside : (i : ℕ) → i < m → last i < n
  pub first_rank : (i : ℕ) → i < m → rank (first i) ≡ lower i
  pub last_rank : (i : ℕ) → i < m → rank (last i) ≡ upper i
  pub same : (i : ℕ) → i < m → points i ≡ points' i

module _
    (n m : ℕ) (spot : ℕ → Spot) (lower upper : ℕ → ℕ) (points : ℕ → List Spot)
    (rank : ℕ → ℕ) (spot' : ℕ → Spot) (first last : ℕ → ℕ) (points' : ℕ → List Spot)
    (R : Renames n m spot lower upper points rank spot' first last points') (M : Meetings n m spot lower upper points) where
  first_spot : (i : ℕ) → i < m → spot (lower i) ≡ spot' (first i)
  first_spot i h = ap spot (sym (R.first_rank i h)) ∙ sym (R.spots (first i) (R.first_inside i h))

  last_spot : (i : ℕ) → i < m → spot (upper i) ≡ spot' (last i)
  last_spot i h = ap spot (sym (R.last_rank i h)) ∙ sym (R.spots (last i) (R.last_inside i h))

  -- a part whose rank is one of a cable's is one of the cable's
  end : (p i : ℕ) → p < n → i < m → (rank p ≡ lower i) ⊎ (rank p ≡ upper i) → (p ≡ first i) ⊎ (p ≡ last i)
  end p i h g (inl e) = inl (R.one p (first i) h (R.first_inside i g) (e ∙ sym (R.first_rank i g)))
  end p i h g (inr e) = inr (R.one p (last i) h (R.last_inside i g) (e ∙ sym (R.last_rank i g)))

  -- the part of a rank that is one of a cable's
  part : (k i : ℕ) → i < m → (k ≡ lower i) ⊎ (k ≡ upper i) → (p : ℕ) × (p < n) × (rank p ≡ k)
  part k i h (inl e) = (first i, R.first_inside i h, R.first_rank i h ∙ sym e)
  part k i h (inr e) = (last i, R.last_inside i h, R.last_rank i h ∙ sym e)

  along : (k j : ℕ) → (k ≡ lower j) ⊎ (k ≡ upper j) → (p : ℕ) → rank p ≡ k → (rank p ≡ lower j) ⊎ (rank p ≡ upper j)
  along k j (inl e) p q = inl (q ∙ e)
  along k j (inr e) p q = inr (q ∙ e)

  common :
      (i j : ℕ) → i < m → j < m → (s : Spot) → CommonPart spot (lower i) (upper i) (lower j) (upper j) s
      → CommonPart spot' (first i) (last i) (first j) (last j) s
  common i j h g s c =
      let t = part c.0 i h c.1 in (
        t.0,
        end t.0 i t.1 h (along c.0 i c.1 t.0 t.2),
        end t.0 j t.1 g (along c.0 j c.2 t.0 t.2),
        R.spots t.0 t.1 ∙ ap spot t.2 ∙ c.3,
      )

  -- what holds of the points of one cable, or of two
  of : (P : List Spot → Type 0) (i : ℕ) → i < m → P (points i) → P (points' i)
  of P i h = subst P (R.same i h)

  of₂ : (P : List Spot → List Spot → Type 0) (i j : ℕ) → i < m → j < m → P (points i) (points j) → P (points' i) (points' j)
  of₂ P i j h g = subst₂ P (R.same i h) (R.same j g)

  pub renamed : Meetings n m spot' first last points'
  renamed = record {
    alone = λ i h. let L = M.alone i h in record {
      starts = of (λ ps. point ps 0 ≡ spot' (first i)) i h (L.starts ∙ first_spot i h);
      ends = λ k. of (λ ps. suc k ≡ length ps → point ps k ≡ spot' (last i)) i h (λ e. L.ends k e ∙ last_spot i h);
      two = of (λ ps. 2 ≤ length ps) i h L.two;
      parts = (R.first_inside i h, R.last_inside i h, λ e. L.parts.2 (sym (R.first_rank i h) ∙ ap rank e ∙ R.last_rank i h));
      differ = λ k. of (λ ps. IsRun ps k → point ps k ≡ point ps (suc k) → ⊥) i h (L.differ k);
      straight = λ k. of (λ ps. IsRun ps k → Level ps k ⊎ Upright ps k) i h (L.straight k);
      level_upright = λ k. of (λ ps. IsRun ps (suc k) → Level ps k → Upright ps (suc k)) i h (L.level_upright k);
      upright_level = λ k. of (λ ps. IsRun ps (suc k) → Upright ps k → Level ps (suc k)) i h (L.upright_level k);
      itself = λ j k l. of (λ ps. IsRun ps k → (s : Spot) → OnRun ps j s → OnRun ps k s → (k ≡ suc j) × (s ≡ point ps k)) i h (L.itself j k l);
      others = λ p g. of (λ ps. OnLine ps (spot' p) → (p ≡ first i) ⊎ (p ≡ last i)) i h
          (λ a. end p i g h (L.others (rank p) (R.inside p g) (subst (λ (s : Spot). OnLine (points i) s) (R.spots p g) a)));
      own_first = λ k. of (λ ps. IsRun ps k → OnRun ps k (spot' (first i)) → k ≡ 0) i h
          (λ r a. L.own_first k r (subst (λ (s : Spot). OnRun (points i) k s) (sym (first_spot i h)) a));
      own_last = λ k. of (λ ps. IsRun ps k → OnRun ps k (spot' (last i)) → suc (suc k) ≡ length ps) i h
          (λ r a. L.own_last k r (subst (λ (s : Spot). OnRun (points i) k s) (sym (last_spot i h)) a));
    };
    together = λ i j h g d. let T = M.together i j h g d in record {
      once = of₂ (λ ps qs. (s r : Spot) → CrossingAt ps qs s → CrossingAt ps qs r → s ≡ r) i j h g T.once;
      shared = of₂ (λ ps qs. (s : Spot) → OnLine ps s → OnLine qs s → CrossingAt ps qs s ⊎ CommonPart spot' (first i) (last i) (first j) (last j) s)
          i j h g (λ s a b. ⊎_elim inl (λ c. inr (common i j h g s c)) (T.shared s a b));
    };
    apart = λ p q h g e. R.one p q h g (M.apart (rank p) (rank q) (R.inside p h) (R.inside q g) (sym (R.spots p h) ∙ e ∙ R.spots q g));
  }
