-- Where a cable is right from one of its ends, the look at its end runs tells from which. Assumes nothing.
use Prim.Native.Nat.{ℕ, zero, suc, ◌+◌, ◌-◌, ◌<◌, ◌≤◌}
use native.Mathlib.Omega.{arith}
use native.Mathlib.Decide.{dec_lt}
use mathlib.Core.Path.{◌≡◌, refl, sym, ap, ◌∙◌}
use mathlib.Core.Bool.{true, false, not, ◌&&◌, ◌||◌, true≢false}
use mathlib.Core.Logic.{◌⊎◌, inl, inr, ⊎_elim}
use mathlib.Core.List.{List}
use lib.ListN.{length, get_or}
use lib.Dec.{ltb}
use borrow.Author.Tests.{ltb-true, lt-ltb}
use Rattle.lists.proofs.Bools.{and_e, and_i, or_e, or_left, or_right, not_e, not_i}
use Rattle.geometry.specs.Spots.{Spot, origin}
use Rattle.geometry.specs.Lines.{Lone, point, OnRun}
use Rattle.validation.specs.Alone.{alternates, lone}
use Rattle.validation.specs.Facing.{line_over, ends_share, faces_forward}
use Rattle.validation.proofs.Alone.{runs_share_e, runs_share_i, alternates_e, alternates_i, lone_e, lone_i}
use Rattle.validation.proofs.Directions.{Mirrored, Facing, lone_back, lone_facing, never_both, line_length_lem, corner_at, last_at, same_inner}

-- The look

-- the last run is run z + 1
ends_share_i :
    (ps : List Spot) (z : ℕ) → suc (suc (suc z)) ≡ length ps → (s : Spot) → OnRun ps 0 s → OnRun ps (suc z) s → ends_share ps ≡ true
unfolding ends_share
ends_share_i ps z e s A B =
    let f : length ps - 2 ≡ suc z = omega arith in
    let g : length ps - 1 ≡ suc (suc z) = omega arith in
    rw (f, g) (runs_share_i (point ps 0) (point ps 1) (point ps (suc z)) (point ps (suc (suc z))) s A B)

ends_share_e :
    (ps : List Spot) (z : ℕ) → suc (suc (suc z)) ≡ length ps → ends_share ps ≡ true → (s : Spot) × OnRun ps 0 s × OnRun ps (suc z) s
unfolding ends_share
ends_share_e ps z e h =
    let f : length ps - 2 ≡ suc z = omega arith in
    let g : length ps - 1 ≡ suc (suc z) = omega arith in
    runs_share_e (point ps 0) (point ps 1) (point ps (suc z)) (point ps (suc (suc z))) (rw (f, g) at h)

module _ (p : Spot) (cs : List Spot) (q : Spot) where
  abbrev ps : List Spot
  ps = line_over p cs q

  pub faces_e : 2 ≤ length cs → faces_forward p cs q ≡ true → Facing (line_over p cs q)
  unfolding faces_forward
  faces_e w h = go (or_e (ltb (length cs) 2) (alternates ps && not (ends_share ps)) h)
    where
      go : (ltb (length cs) 2 ≡ true) ⊎ ((alternates ps && not (ends_share ps)) ≡ true) → Facing ps
      go (inl e) = let l = ltb-true (length cs) 2 e in absurd (omega arith)
      go (inr e) =
          let r = and_e (alternates ps) (not (ends_share ps)) e in
          record {
            alternating = alternates_e ps r.0;
            apart = λ z o f s A B. not_e (ends_share ps) r.1 (ends_share_i ps z f s A B);
          }

  pub faces_i : Facing (line_over p cs q) → faces_forward p cs q ≡ true
  unfolding faces_forward
  faces_i F = go (dec_lt (length cs) 2)
    where
      go : Dec (length cs < 2) → (ltb (length cs) 2 || (alternates ps && not (ends_share ps))) ≡ true
      go (yes l) = or_left (ltb (length cs) 2) (alternates ps && not (ends_share ps)) (lt-ltb (length cs) 2 l)
      go (no l) =
          or_right (ltb (length cs) 2) (alternates ps && not (ends_share ps))
          (and_i _ _ (alternates_i ps F.alternating)
          (not_i (ends_share ps) λ h.
          let e : suc (suc (suc (length cs - 1))) ≡ length ps = omega (arith, line_length_lem p q cs) in
          let r = ends_share_e ps (length cs - 1) e h in
          F.apart (length cs - 1) (omega arith) e r.0 r.1 r.2))

-- Few corners

-- with one corner at most, the two directions are one line
pub short_mirrored : (p : Spot) (cs : List Spot) (q : Spot) → length cs < 2 → Mirrored (line_over p cs q) (line_over q cs p)
unfolding point
short_mirrored p cs q w = record {
  as_long = line_length_lem p q cs ∙ sym (line_length_lem q p cs);
  back = λ k j h. back k j (h ∙ line_length_lem p q cs);
}
  where
    back : (k j : ℕ) → suc (k + j) ≡ suc (suc (length cs)) → point (line_over p cs q) k ≡ point (line_over q cs p) j
    back zero j h = sym (last_at q p cs j (omega arith))
    back (suc k) zero h = last_at p q cs (suc k) (omega arith)
    back (suc k) (suc j) h =
        let e : k ≡ j = omega arith in
        corner_at p q cs k (omega arith) ∙ ap (λ (i : ℕ). get_or cs i origin) e ∙ sym (corner_at q p cs j (omega arith))

-- The choice of a direction

module _ (n : ℕ) (spot : ℕ → Spot) (a b : ℕ) (cs : List Spot) where
  -- a line that is right forward faces forward
  pub forward_faces : Lone n spot a b (line_over (spot a) cs (spot b)) → faces_forward (spot a) cs (spot b) ≡ true
  forward_faces L = faces_i (spot a) cs (spot b) (lone_facing n spot a b (line_over (spot a) cs (spot b)) L)

  -- and one that faces forward over two corners is not right backward
  pub backward_wrong : Lone n spot b a (line_over (spot b) cs (spot a)) → 2 ≤ length cs → faces_forward (spot a) cs (spot b) ≡ true → ⊥
  unfolding point
  backward_wrong K w h =
      let e = line_length_lem (spot a) (spot b) cs in
      never_both n spot a b (line_over (spot a) cs (spot b)) (line_over (spot b) cs (spot a)) (faces_e (spot a) cs (spot b) w h) refl
      (λ k f. last_at (spot a) (spot b) cs k (omega arith)) K (e ∙ sym (line_length_lem (spot b) (spot a) cs)) (same_inner (spot a) cs (spot b))
      (length cs - 1) (omega arith) (omega arith)

  -- with one corner at most, right backward is right forward
  pub short_forward : length cs < 2 → Lone n spot b a (line_over (spot b) cs (spot a)) → Lone n spot a b (line_over (spot a) cs (spot b))
  short_forward w K =
      lone_back (line_over (spot b) cs (spot a)) (line_over (spot a) cs (spot b)) (short_mirrored (spot b) cs (spot a) w) n spot b a K

  -- A cable that is right from either end is so in the direction that it faces.
  pub forward_faced :
      (lone n spot a b (line_over (spot a) cs (spot b)) || lone n spot b a (line_over (spot b) cs (spot a))) ≡ true
      → faces_forward (spot a) cs (spot b) ≡ true
      → lone n spot a b (line_over (spot a) cs (spot b)) ≡ true
  forward_faced h f =
      ⊎_elim (λ e. e) (λ e. turned (lone_e n spot b a (line_over (spot b) cs (spot a)) e) (dec_lt (length cs) 2))
      (or_e (lone n spot a b (line_over (spot a) cs (spot b))) (lone n spot b a (line_over (spot b) cs (spot a))) h)
    where
      turned :
          Lone n spot b a (line_over (spot b) cs (spot a)) → Dec (length cs < 2) → lone n spot a b (line_over (spot a) cs (spot b)) ≡ true
      turned K (yes l) = lone_i n spot a b (line_over (spot a) cs (spot b)) (short_forward l K)
      turned K (no l) = absurd (backward_wrong K (omega arith) f)

  pub backward_faced :
      (lone n spot a b (line_over (spot a) cs (spot b)) || lone n spot b a (line_over (spot b) cs (spot a))) ≡ true
      → faces_forward (spot a) cs (spot b) ≡ false
      → lone n spot b a (line_over (spot b) cs (spot a)) ≡ true
  backward_faced h f =
      ⊎_elim (λ e. absurd (true≢false (sym (forward_faces (lone_e n spot a b (line_over (spot a) cs (spot b)) e)) ∙ f))) (λ e. e)
      (or_e (lone n spot a b (line_over (spot a) cs (spot b))) (lone n spot b a (line_over (spot b) cs (spot a))) h)
