-- Two lines, each right by itself, meet wrongly exactly if their visits share a spot on runs of the same kind, or two spots on runs of
-- different kinds. Assumes nothing.
use Prim.Native.Nat.{ℕ, suc, ◌<◌, ◌≤◌}
use native.Mathlib.Omega.{arith}
use mathlib.Core.Path.{◌≡◌, refl, sym, ap, ◌∙◌, subst}
use mathlib.Core.Bool.{Bool, true, false, not, ◌&&◌, ◌||◌, true≢false}
use mathlib.Core.Logic.{◌⊎◌, inl, inr}
use mathlib.Core.List.{List}
use lib.ListN.{length}
use borrow.Author.Tests.{not-true, not-false}
use Rattle.lists.proofs.Bools.{and_fails, or_fails, not_i}
use Rattle.geometry.specs.Spots.{Spot, spot_at, same_spot}
use Rattle.geometry.specs.Lines.{Lone, OnLine}
use Rattle.drawing.specs.Drawing.{Drawing, spot_of, route_at, points_at}
use Rattle.validation.specs.Alone.{each}
use Rattle.validation.specs.Ways.{Way, off, end, corner, level, upright, way_at, passing, is_end, cross_wise, clash, wrong_ways, Passing}
use Rattle.validation.specs.Judging.{each_spot, cross_here, allowed, only_at, once_at, together}
use Rattle.validation.proofs.Alone.{each_fails, same_spot_i}
use Rattle.validation.proofs.Ways.{passing_way_e, end_way_e, end_way, wrong_ways_e, together_passing}
use Rattle.validation.proofs.Judging.{together_e}
use Rattle.sweep.specs.Rows.{same_kind, other_kind, BothVisit, PairWrong}
use Rattle.sweep.proofs.Rising.{LoneLine, LineInHead, pair_together}
use Rattle.sweep.proofs.VisitWays.{level_flag, upright_flag, line_visit_way, line_way_visit}

-- Two ways

-- by their flags: on runs of the same kind, and of different kinds
abbrev alike : Way → Way → Bool
alike w x = level_flag w && level_flag x || upright_flag w && upright_flag x

abbrev across : Way → Way → Bool
across w x = level_flag w && upright_flag x || upright_flag w && level_flag x

-- an end of one line inside the other
abbrev EndOn : Way → Way → Type 0
EndOn w x = (is_end w ≡ true) × (passing x ≡ true) × (is_end x ≡ false)

-- what two ways are to each other, by the flags and by the rules
data Kinds (w x : Way) : Type 0 where
  same : passing w ≡ true → passing x ≡ true → alike w x ≡ true → wrong_ways w x ≡ true → Kinds w x
  crossing :
      passing w ≡ true → passing x ≡ true → alike w x ≡ false → across w x ≡ true → cross_wise w x ≡ true → wrong_ways w x ≡ false
      → Kinds w x
  end_on : alike w x ≡ false → across w x ≡ false → cross_wise w x ≡ false → EndOn w x ⊎ EndOn x w → Kinds w x
  neither : alike w x ≡ false → across w x ≡ false → cross_wise w x ≡ false → wrong_ways w x ≡ false → Kinds w x

kinds : (w x : Way) → Kinds w x
unfolding cross_wise wrong_ways clash
kinds off x = neither refl refl refl refl
kinds end off = neither refl refl refl refl
kinds end end = neither refl refl refl refl
kinds end corner = end_on refl refl refl (inl (refl, refl, refl))
kinds end level = end_on refl refl refl (inl (refl, refl, refl))
kinds end upright = end_on refl refl refl (inl (refl, refl, refl))
kinds corner off = neither refl refl refl refl
kinds corner end = end_on refl refl refl (inr (refl, refl, refl))
kinds corner corner = same refl refl refl refl
kinds corner level = same refl refl refl refl
kinds corner upright = same refl refl refl refl
kinds level off = neither refl refl refl refl
kinds level end = end_on refl refl refl (inr (refl, refl, refl))
kinds level corner = same refl refl refl refl
kinds level level = same refl refl refl refl
kinds level upright = crossing refl refl refl refl refl refl
kinds upright off = neither refl refl refl refl
kinds upright end = end_on refl refl refl (inr (refl, refl, refl))
kinds upright corner = same refl refl refl refl
kinds upright level = crossing refl refl refl refl refl refl
kinds upright upright = same refl refl refl refl

differs : {a : Bool} → a ≡ true → a ≡ false → ⊥
differs e f = true≢false (sym e ∙ f)

-- both pass, and a test of the two is true
abbrev Both : Bool → Way → Way → Type 0
Both b w x = (passing w ≡ true) × (passing x ≡ true) × (b ≡ true)

alike_wrong : {w x : Way} → Kinds w x → alike w x ≡ true → wrong_ways w x ≡ true
alike_wrong (same p q a e) h = e
alike_wrong (crossing p q a b c e) h = absurd (differs h a)
alike_wrong (end_on a b c e) h = absurd (differs h a)
alike_wrong (neither a b c e) h = absurd (differs h a)

wrong_alike : {w x : Way} → (EndOn w x ⊎ EndOn x w → ⊥) → Kinds w x → wrong_ways w x ≡ true → Both (alike w x) w x
wrong_alike f (same p q a e) h = (p, q, a)
wrong_alike f (crossing p q a b c e) h = absurd (differs h e)
wrong_alike f (end_on a b c e) h = absurd (f e)
wrong_alike f (neither a b c e) h = absurd (differs h e)

-- a corner is on runs of both kinds, so that on runs of different kinds two ways need not cross
across_crossing : {w x : Way} → Kinds w x → across w x ≡ true → (wrong_ways w x ≡ true) ⊎ (cross_wise w x ≡ true)
across_crossing (same p q a e) h = inl e
across_crossing (crossing p q a b c e) h = inr c
across_crossing (end_on a b c e) h = absurd (differs h b)
across_crossing (neither a b c e) h = absurd (differs h b)

crossing_across : {w x : Way} → Kinds w x → cross_wise w x ≡ true → Both (alike w x) w x ⊎ Both (across w x) w x
crossing_across (same p q a e) h = inl (p, q, a)
crossing_across (crossing p q a b c e) h = inr (p, q, b)
crossing_across (end_on a b c e) h = absurd (differs h c)
crossing_across (neither a b c e) h = absurd (differs h c)

-- An end of one line is the spot of a part, and the other line touches that part as an end only.

module _
    (n : ℕ) (spot : ℕ → Spot) (a b : ℕ) (ps : List Spot) (c d : ℕ) (qs : List Spot) (L : Lone n spot a b ps) (K : Lone n spot c d qs)
    (s : Spot)
  where
    no_end_on : EndOn (way_at ps s) (way_at qs s) → ⊥
    no_end_on (e, p, f) = go (end_way_e n spot a b ps L s e)
      where
        part : (k : ℕ) → k < n → s ≡ spot k → ⊥
        part k l q =
            let o = subst (λ (t : Spot). OnLine qs t) q (passing_way_e n spot c d qs K s p) in
            differs (ap is_end (end_way n spot c d qs K s k (K.others k l o) (sym q))) f

        go : (s ≡ spot a) ⊎ (s ≡ spot b) → ⊥
        go (inl q) = part a L.parts.0 q
        go (inr q) = part b L.parts.1 q

-- Tests of all spots that fail

each_spot_fails : (width height : ℕ) (p : Spot → Bool) → each_spot width height p ≡ false → (s : Spot) × (s.y ≤ height) × (p s ≡ false)
unfolding each_spot
each_spot_fails width height p h =
    let r = each_fails (λ y. each (λ x. p (spot_at x y)) (suc width)) (suc height) h in
    let t = each_fails (λ x. p (spot_at x r.0)) (suc width) r.2 in
    (spot_at t.0 r.0, omega (arith, r.1), t.2)

-- the two lines meet wrongly at s, or they cross at s and at r
abbrev Badly : ℕ → List Spot → List Spot → Type 0
Badly height ps qs =
    ((s : Spot) × (s.y ≤ height) × (wrong_ways (way_at ps s) (way_at qs s) ≡ true))
    ⊎ ((s : Spot) × (r : Spot) × (s.y ≤ height) × (r.y ≤ height) × (s ≡ r → ⊥)
    × (cross_wise (way_at ps s) (way_at qs s) ≡ true) × (cross_wise (way_at ps r) (way_at qs r) ≡ true))

together_fails : (width height : ℕ) (ps qs : List Spot) → together width height ps qs ≡ false → Badly height ps qs
unfolding together allowed cross_here
together_fails width height ps qs h = go (each_spot width height (allowed ps qs)) refl
  where
    go : (b : Bool) → each_spot width height (allowed ps qs) ≡ b → Badly height ps qs
    go false e =
        let r = each_spot_fails width height (allowed ps qs) e in
        inl (r.0, r.1, not-false (wrong_ways (way_at ps r.0) (way_at qs r.0)) r.2)
    go true e =
        let f = and_fails (each_spot width height (allowed ps qs)) (each_spot width height (once_at width height ps qs)) h e in
        let r = each_spot_fails width height (once_at width height ps qs) f in
        let s = r.0 in
        let t = or_fails (not (cross_here ps qs s)) (each_spot width height (only_at ps qs s)) r.2 in
        let u = each_spot_fails width height (only_at ps qs s) t.1 in
        let q = u.0 in
        let z = or_fails (not (cross_here ps qs q)) (same_spot s q) u.2 in
        let g = not-false (cross_here ps qs s) t.0 in
        inr (s, q, r.1, u.1, λ k. differs (same_spot_i s q k) z.1, g, not-false (cross_here ps qs q) z.0)

-- Two lines of a drawing

module _ (d : Drawing) (i j : ℕ) (L : LoneLine d i) (K : LoneLine d j) where
  abbrev one_way : Spot → Way
  one_way s = way_at (points_at d i) s

  abbrev other_way : Spot → Way
  other_way s = way_at (points_at d j) s

  abbrev BothAlike : Spot → Type 0
  BothAlike s = Both (alike (one_way s) (other_way s)) (one_way s) (other_way s)

  abbrev BothAcross : Spot → Type 0
  BothAcross s = Both (across (one_way s) (other_way s)) (one_way s) (other_way s)

  visits_alike_e : (s : Spot) → BothVisit same_kind d i j s → alike (one_way s) (other_way s) ≡ true
  unfolding same_kind
  visits_alike_e s (v, u, m, n, e, f, h) =
      let a = line_visit_way d i L s v m e in
      let b = line_visit_way d j K s u n f in
      rw (a.first_flag, b.first_flag, a.second_flag, b.second_flag) h

  visits_alike_i : (s : Spot) → BothAlike s → BothVisit same_kind d i j s
  unfolding same_kind
  visits_alike_i s (p, q, h) =
      let (v, m, e, a) = line_way_visit d i L s p in
      let (u, n, f, b) = line_way_visit d j K s q in
      (v, u, m, n, e, f, rw (a.first_flag, b.first_flag, a.second_flag, b.second_flag) at h)

  visits_across_e : (s : Spot) → BothVisit other_kind d i j s → across (one_way s) (other_way s) ≡ true
  unfolding other_kind
  visits_across_e s (v, u, m, n, e, f, h) =
      let a = line_visit_way d i L s v m e in
      let b = line_visit_way d j K s u n f in
      rw (a.first_flag, b.first_flag, a.second_flag, b.second_flag) h

  visits_across_i : (s : Spot) → BothAcross s → BothVisit other_kind d i j s
  unfolding other_kind
  visits_across_i s (p, q, h) =
      let (v, m, e, a) = line_way_visit d i L s p in
      let (u, n, f, b) = line_way_visit d j K s q in
      (v, u, m, n, e, f, rw (a.first_flag, b.first_flag, a.second_flag, b.second_flag) at h)

  abbrev Right : Type 0
  Right =
      Passing (spot_of d) (route_at d i).first (route_at d i).last (points_at d i) (route_at d j).first (route_at d j).last (points_at d j)

  never_wrong : Right → (s : Spot) → wrong_ways (one_way s) (other_way s) ≡ true → ⊥
  never_wrong P s e =
      let r = route_at d i in
      let q = route_at d j in
      let t = wrong_ways_e (length d.parts) (spot_of d) r.first r.last (points_at d i) q.first q.last (points_at d j) L K s e in
      t.1 (P.shared s t.0)

  no_ends : (s : Spot) → EndOn (one_way s) (other_way s) ⊎ EndOn (other_way s) (one_way s) → ⊥
  no_ends s (inl e) =
      let r = route_at d i in
      let q = route_at d j in
      no_end_on (length d.parts) (spot_of d) r.first r.last (points_at d i) q.first q.last (points_at d j) L K s e
  no_ends s (inr e) =
      let r = route_at d i in
      let q = route_at d j in
      no_end_on (length d.parts) (spot_of d) q.first q.last (points_at d j) r.first r.last (points_at d i) K L s e

  right : LineInHead d i → pair_together d i j ≡ true → Right
  right F h =
      let n = length d.parts in
      let r = route_at d i in
      let q = route_at d j in
      together_passing n (spot_of d) r.first r.last (points_at d i) q.first q.last (points_at d j) L K
      (together_e d.width d.height n (spot_of d) r.first r.last (points_at d i) q.first q.last (points_at d j) L K F h)

  -- what the rows find is wrong
  pub wrong_pair_lem : LineInHead d i → PairWrong d i j → pair_together d i j ≡ false
  wrong_pair_lem F W = not-true (pair_together d i j) (not_i (pair_together d i j) λ h. go (right F h) W)
    where
      twice :
          Right → (s r : Spot) → (s ≡ r → ⊥)
          → (wrong_ways (one_way s) (other_way s) ≡ true) ⊎ (cross_wise (one_way s) (other_way s) ≡ true)
          → (wrong_ways (one_way r) (other_way r) ≡ true) ⊎ (cross_wise (one_way r) (other_way r) ≡ true) → ⊥
      twice P s r n (inl e) c = never_wrong P s e
      twice P s r n (inr e) (inl c) = never_wrong P r c
      twice P s r n (inr e) (inr c) = n (P.once s r e c)

      go : Right → PairWrong d i j → ⊥
      go P (inl (s, l, B)) = never_wrong P s (alike_wrong (kinds (one_way s) (other_way s)) (visits_alike_e s B))
      go P (inr (s, r, l, m, n, B, C)) =
          twice P s r n (across_crossing (kinds (one_way s) (other_way s)) (visits_across_e s B))
          (across_crossing (kinds (one_way r) (other_way r)) (visits_across_e r C))

  -- and what is wrong they find
  pub pair_wrong : pair_together d i j ≡ false → PairWrong d i j
  pair_wrong h = go (together_fails d.width d.height (points_at d i) (points_at d j) h)
    where
      twice :
          (s r : Spot) → s.y ≤ d.height → r.y ≤ d.height → (s ≡ r → ⊥)
          → BothAlike s ⊎ BothAcross s → BothAlike r ⊎ BothAcross r → PairWrong d i j
      twice s r l m n (inl e) c = inl (s, l, visits_alike_i s e)
      twice s r l m n (inr e) (inl c) = inl (r, m, visits_alike_i r c)
      twice s r l m n (inr e) (inr c) = inr (s, r, l, m, n, visits_across_i s e, visits_across_i r c)

      go : Badly d.height (points_at d i) (points_at d j) → PairWrong d i j
      go (inl (s, l, e)) = inl (s, l, visits_alike_i s (wrong_alike (no_ends s) (kinds (one_way s) (other_way s)) e))
      go (inr (s, r, l, m, n, e, c)) =
          twice s r l m n (crossing_across (kinds (one_way s) (other_way s)) e) (crossing_across (kinds (one_way r) (other_way r)) c)
