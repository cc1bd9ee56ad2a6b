-- Request 2026-10: at a spot of an accepted sheet that is no part's, any two cables cross and there is never a third. So the lines found
-- there are answered rightly by blank, one cable or two cables crossing, and no spot has two right answers. Assumes nothing.
use Prim.Native.Nat.{ℕ, ◌<◌}
use native.Mathlib.Omega.{arith}
use mathlib.Core.Path.{◌≡◌, refl, sym, ap, ◌∙◌}
use mathlib.Core.Bool.{Bool, true, true≢false}
use mathlib.Core.Logic.{◌⊎◌, inl, inr, ⊎_elim}
use mathlib.Core.List.{List, [], ◌∷◌}
use mathlib.Core.List.Memᴰ
use mathlib.Core.List.{Memᴰ}
use lib.ListN.{length}
use Rattle.lists.specs.Select.{filter, range}
use Rattle.lists.proofs.Select.{filter_e, filter_i, range_e, range_i, distinct_filter, distinct_range}
use Rattle.lists.proofs.Sets.{rising_filter, rising_range}
use Rattle.lists.proofs.Rising.{StrictlyRising, strictly_of_rising}
use Rattle.geometry.specs.Spots.{Spot}
use Rattle.geometry.specs.Lines.{OnLine, OnLevel, OnUpright, NoPoint, CrossingAt, CommonPart}
use Rattle.drawing.specs.Drawing.{Drawing, Meets, spot_of, route_at, points_at}
use Rattle.validation.specs.Ways.{Way, off, end, corner, level, upright, way_at, is_level, is_upright}
use Rattle.validation.proofs.Ways.{level_way_i, upright_way_i}
use Rattle.location.specs.declared.Hit.{Hit}
use Rattle.location.specs.declared.Hit.TheVariants.{Blank, Part, Cable, Crossing}
use Rattle.location.specs.Hits.{named}
use Rattle.location.specs.Lying.{NoPart, OnCable, Lies}

-- no way is both level and upright
not_both : (w : Way) → is_level w ≡ true → is_upright w ≡ true → ⊥
not_both off l u = true≢false (sym l)
not_both end l u = true≢false (sym l)
not_both corner l u = true≢false (sym l)
not_both level l u = true≢false (sym u)
not_both upright l u = true≢false (sym l)

module _ (d : Drawing) (M : Meets d) (s : Spot) where
  -- no line passes a spot both ways
  one_way : (i : ℕ) → OnCable d s i → OnLevel (points_at d i) s → OnUpright (points_at d i) s → NoPoint (points_at d i) s → ⊥
  one_way i o l u f =
      let L = M.alone i o.0 in
      let a = (route_at d i).first in
      let b = (route_at d i).last in
      let n = length d.parts in
      let ps = points_at d i in
      not_both (way_at ps s) (level_way_i n (spot_of d) a b ps L s l f) (upright_way_i n (spot_of d) a b ps L s u f)

  module _ (N : NoPart d s) where
    -- a part that both join would be a part there
    no_common :
        (i j : ℕ) → OnCable d s i
        → CommonPart (spot_of d) (route_at d i).first (route_at d i).last (route_at d j).first (route_at d j).last s → ⊥
    no_common i j o (k, inl e, f, h) = N k (omega (arith, (M.alone i o.0).parts.0)) h
    no_common i j o (k, inr e, f, h) = N k (omega (arith, (M.alone i o.0).parts.1)) h

    -- 'two cables crossing': any two at a spot that is no part's
    pub two_cross : (i j : ℕ) → (i ≡ j → ⊥) → OnCable d s i → OnCable d s j → CrossingAt (points_at d i) (points_at d j) s
    two_cross i j n o q =
        ⊎_elim (λ X. X) (λ C. absurd (no_common i j o C)) ((M.together i j o.0 q.0 n).shared s o.1 q.1)

    -- and never a third: one of the three would be level and upright there
    pub no_third :
        (i j k : ℕ) → (i ≡ j → ⊥) → (i ≡ k → ⊥) → (j ≡ k → ⊥) → OnCable d s i → OnCable d s j → OnCable d s k → ⊥
    no_third i j k n m t o q r = go (two_cross i j n o q) (two_cross i k m o r) (two_cross j k t q r)
      where
        go :
            CrossingAt (points_at d i) (points_at d j) s → CrossingAt (points_at d i) (points_at d k) s
            → CrossingAt (points_at d j) (points_at d k) s → ⊥
        go (inl X) (inl Y) (inl Z) = one_way j q Z.level X.upright X.free_second
        go (inl X) (inl Y) (inr Z) = one_way k r Z.level Y.upright Y.free_second
        go (inl X) (inr Y) Z = one_way i o X.level Y.upright X.free_first
        go (inr X) (inl Y) Z = one_way i o Y.level X.upright Y.free_first
        go (inr X) (inr Y) (inl Z) = one_way k r Y.level Z.upright Y.free_first
        go (inr X) (inr Y) (inr Z) = one_way j q X.level Z.upright X.free_first

    -- the cables at the spot, by rising line, are named rightly
    pub listed_lies :
        (lines : List ℕ) → StrictlyRising (λ i. i) lines → ((i : ℕ) → Memᴰ i lines → OnCable d s i)
        → ((i : ℕ) → OnCable d s i → Memᴰ i lines) → Lies d s (named lines)
    listed_lies [] R f g = record { no_part = N; no_cable_lem = λ i o. Memᴰ.not-nil (g i o) }
    listed_lies (i ∷ []) R f g = record {
      no_part = N;
      on_line = f i (Memᴰ.head refl);
      alone = λ j o. Memᴰ.eq_of_singleton (g j o);
    }
    listed_lies (i ∷ j ∷ []) R f g =
        let l = R.0 j (Memᴰ.head refl) in
        let o = f i (Memᴰ.head refl) in
        let q = f j (Memᴰ.tail (Memᴰ.head refl)) in
        record {
          no_part = N;
          lower = l;
          on_lines = (o, q);
          crossing = two_cross i j (λ e. omega arith) o q;
          alone = λ k r. ⊎_elim inl (λ u. inr (Memᴰ.eq_of_singleton u)) (Memᴰ.cases_cons (g k r));
        }
    listed_lies (i ∷ j ∷ k ∷ more) R f g =
        let a = R.0 j (Memᴰ.head refl) in
        let b = R.1.0 k (Memᴰ.head refl) in
        let o = f i (Memᴰ.head refl) in
        let q = f j (Memᴰ.tail (Memᴰ.head refl)) in
        let r = f k (Memᴰ.tail (Memᴰ.tail (Memᴰ.head refl))) in
        absurd (no_third i j k (λ e. omega arith) (λ e. omega arith) (λ e. omega arith) o q r)

    -- so are the lines that a test finds which holds exactly for these cables
    pub filtered_lies :
        (p : ℕ → Bool) → ((i : ℕ) → i < length d.routes → p i ≡ true → OnLine (points_at d i) s)
        → ((i : ℕ) → i < length d.routes → OnLine (points_at d i) s → p i ≡ true)
        → Lies d s (named (filter p (range (length d.routes))))
    filtered_lies p f g =
        let m = length d.routes in
        let all = range m in
        let lines = filter p all in
        let rising = rising_filter (λ i. i) p all (rising_range m) in
        listed_lies lines (strictly_of_rising (λ i. i) lines rising (distinct_filter p all (distinct_range m)) λ i j u v e. e)
        (λ i u. let t = filter_e p all u in let l = range_e m t.0 in (l, f i l t.1))
        (λ i o. filter_i p all (range_i i m o.0) (g i o.0 o.1))

  -- any two answers that are right at a spot are the same
  pub one_answer : (h g : Hit) → Lies d s h → Lies d s g → h ≡ g
  one_answer Blank Blank A B = refl
  one_answer Blank (Part q) A B = absurd (A.no_part q.0 B.is_part B.its_spot)
  one_answer Blank (Cable j) A B = absurd (A.no_cable_lem j B.on_line)
  one_answer Blank (Crossing j l) A B = absurd (A.no_cable_lem j B.on_lines.0)
  one_answer (Part p) Blank A B = absurd (B.no_part p.0 A.is_part A.its_spot)
  one_answer (Part p) (Part q) A B =
      ap (λ (k : ℕ). Part (record { 0 = k })) (M.apart p.0 q.0 A.is_part B.is_part (A.its_spot ∙ sym B.its_spot))
  one_answer (Part p) (Cable j) A B = absurd (B.no_part p.0 A.is_part A.its_spot)
  one_answer (Part p) (Crossing j l) A B = absurd (B.no_part p.0 A.is_part A.its_spot)
  one_answer (Cable i) Blank A B = absurd (B.no_cable_lem i A.on_line)
  one_answer (Cable i) (Part q) A B = absurd (A.no_part q.0 B.is_part B.its_spot)
  one_answer (Cable i) (Cable j) A B = ap Cable (B.alone i A.on_line)
  one_answer (Cable i) (Crossing j l) A B = absurd (omega (arith, A.alone j B.on_lines.0, A.alone l B.on_lines.1))
  one_answer (Crossing i k) Blank A B = absurd (B.no_cable_lem i A.on_lines.0)
  one_answer (Crossing i k) (Part q) A B = absurd (A.no_part q.0 B.is_part B.its_spot)
  one_answer (Crossing i k) (Cable j) A B = absurd (omega (arith, B.alone i A.on_lines.0, B.alone k A.on_lines.1))
  one_answer (Crossing i k) (Crossing j l) A B = both (B.alone i A.on_lines.0) (B.alone k A.on_lines.1)
    where
      both : (i ≡ j) ⊎ (i ≡ l) → (k ≡ j) ⊎ (k ≡ l) → Crossing i k ≡ Crossing j l
      both (inl e) (inl f) = absurd (omega arith)
      both (inl e) (inr f) = cc
      both (inr e) (inl f) = absurd (omega arith)
      both (inr e) (inr f) = absurd (omega arith)
