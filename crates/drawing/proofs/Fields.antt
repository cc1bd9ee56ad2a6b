-- Numbers and their fields: check 14 passes exactly where every number fits its field, and its place is the larger of the two head fields
-- where no coordinate exceeds them. Assumes nothing.
use Rattle.std.specs.Prelude.{Some, None}
use Prim.Native.Nat.{ℕ, ◌<◌, ◌≤◌, max}
use native.Mathlib.Omega.{arith}
use native.Mathlib.Decide.{dec_lt}
use mathlib.Core.Path.{◌≡◌, refl, sym, ap, subst, ◌∙◌}
use mathlib.Core.Bool.{Bool, true, false, true≢false, cond}
use mathlib.Core.Logic.{◌⊎◌, inl, inr}
use mathlib.Core.List.Memᴰ
use mathlib.Core.List.{List, [], ◌∷◌, ◌++◌, Memᴰ}
use lib.ListN.{get_or}
use borrow.Author.Tests.{ltb-true, ltb-false}
use Rattle.lists.specs.Select.{any, filter}
use Rattle.lists.proofs.Select.{get_d_mem, filter_e, filter_i}
use Rattle.lists.proofs.Any.{any_at_e, any_at_i}
use Rattle.lists.proofs.Places.{mem-place}
use Rattle.words.specs.Limits.{most_field}
use Rattle.geometry.specs.Spots.{Spot}
use Rattle.drawing.specs.Drawing.{Route, Drawing}
use Rattle.drawing.specs.Spacing.{corner_spots, coordinates, numbers_of, largest, too_large, check14}

-- The largest number of a list

largest_most : (l : List ℕ) (k : ℕ) → Memᴰ k l → k ≤ largest l
unfolding largest
largest_most [] k m = absurd (Memᴰ.not-nil m)
largest_most (x ∷ l) k m = go (largest_most l k) (Memᴰ.cases_cons m)
  where
    go : (Memᴰ k l → k ≤ largest l) → (k ≡ x) ⊎ Memᴰ k l → k ≤ max x (largest l)
    go below (inl e) = omega arith
    go below (inr n) = omega (arith, below n)

largest_within : (l : List ℕ) (b : ℕ) → ((k : ℕ) → Memᴰ k l → k ≤ b) → largest l ≤ b
unfolding largest
largest_within [] b h = omega arith
largest_within (x ∷ l) b h = omega (arith, h x (Memᴰ.head refl), largest_within l b (λ k m. h k (Memᴰ.tail m)))

-- Coordinates

pub coordinate_in : (l : List Spot) (p : Spot) → Memᴰ p l → Memᴰ p.x (coordinates l) × Memᴰ p.y (coordinates l)
unfolding coordinates
coordinate_in [] p m = absurd (Memᴰ.not-nil m)
coordinate_in (q ∷ l) p m = go (coordinate_in l p) (Memᴰ.cases_cons m)
  where
    go :
        (Memᴰ p l → Memᴰ p.x (coordinates l) × Memᴰ p.y (coordinates l)) → (p ≡ q) ⊎ Memᴰ p l
        → Memᴰ p.x (coordinates (q ∷ l)) × Memᴰ p.y (coordinates (q ∷ l))
    go below (inl e) = (Memᴰ.head (ap (λ (z : Spot). z.x) e), Memᴰ.tail (Memᴰ.head (ap (λ (z : Spot). z.y) e)))
    go below (inr n) = let r = below n in (Memᴰ.tail (Memᴰ.tail r.0), Memᴰ.tail (Memᴰ.tail r.1))

-- spots whose numbers are at most b have coordinates at most b
coordinate_within : (l : List Spot) (b : ℕ) → ((p : Spot) → Memᴰ p l → (p.x ≤ b) × (p.y ≤ b)) → (k : ℕ) → Memᴰ k (coordinates l) → k ≤ b
unfolding coordinates
coordinate_within [] b h k m = absurd (Memᴰ.not-nil m)
coordinate_within (p ∷ l) b h k m = go (coordinate_within l b (λ q n. h q (Memᴰ.tail n)) k) (Memᴰ.cases_cons m)
  where
    here : (p.x ≤ b) × (p.y ≤ b)
    here = h p (Memᴰ.head refl)

    rest : (Memᴰ k (coordinates l) → k ≤ b) → (k ≡ p.y) ⊎ Memᴰ k (coordinates l) → k ≤ b
    rest below (inl e) = omega (arith, here.1)
    rest below (inr n) = below n

    go : (Memᴰ k (coordinates l) → k ≤ b) → (k ≡ p.x) ⊎ Memᴰ k (p.y ∷ coordinates l) → k ≤ b
    go below (inl e) = omega (arith, here.0)
    go below (inr n) = rest below (Memᴰ.cases_cons n)

-- Corners

pub corner_in : (rs : List Route) (r : Route) (p : Spot) → Memᴰ r rs → Memᴰ p r.corners → Memᴰ p (corner_spots rs)
unfolding corner_spots
corner_in [] r p m n = absurd (Memᴰ.not-nil m)
corner_in (q ∷ rs) r p m n = go (corner_in rs r p) (Memᴰ.cases_cons m)
  where
    go :
        (Memᴰ r rs → Memᴰ p r.corners → Memᴰ p (corner_spots rs)) → (r ≡ q) ⊎ Memᴰ r rs
        → Memᴰ p (q.corners ++ corner_spots rs)
    go below (inl e) = Memᴰ.append_left (corner_spots rs) (subst (λ (z : Route). Memᴰ p z.corners) e n)
    go below (inr k) = Memᴰ.append_right q.corners (below k n)

corner_of : (rs : List Route) (p : Spot) → Memᴰ p (corner_spots rs) → (r : Route) × Memᴰ r rs × Memᴰ p r.corners
unfolding corner_spots
corner_of [] p m = absurd (Memᴰ.not-nil m)
corner_of (r ∷ rs) p m = go (corner_of rs p) (Memᴰ.append_cases r.corners m)
  where
    go :
        (Memᴰ p (corner_spots rs) → (q : Route) × Memᴰ q rs × Memᴰ p q.corners) → Memᴰ p r.corners ⊎ Memᴰ p (corner_spots rs)
        → (q : Route) × Memᴰ q (r ∷ rs) × Memᴰ p q.corners
    go below (inl n) = (r, Memᴰ.head refl, n)
    go below (inr n) = let t = below n in (t.0, Memᴰ.tail t.1, t.2)

module _ (d : Drawing) where
  -- no part and no corner has a coordinate above b
  pub record Within (b : ℕ) : Type 0 where
    pub parts : (p : Spot) → Memᴰ p d.parts → (p.x ≤ b) × (p.y ≤ b)
    pub corners : (r : Route) (p : Spot) → Memᴰ r d.routes → Memᴰ p r.corners → (p.x ≤ b) × (p.y ≤ b)

  some_large : (k : ℕ) → Memᴰ k (numbers_of d) → too_large k ≡ true → any too_large (numbers_of d) ≡ true
  some_large k m e = let t = mem-place (numbers_of d) 0 m in any_at_i too_large 0 (numbers_of d) t.0 t.1 (ap too_large t.2 ∙ e)

  numbers_within : (b : ℕ) → d.width ≤ b → d.height ≤ b → Within b → (k : ℕ) → Memᴰ k (numbers_of d) → k ≤ b
  unfolding numbers_of
  numbers_within b w h W k m = go (Memᴰ.cases_cons m)
    where
      spots : (p : Spot) → Memᴰ p (d.parts ++ corner_spots d.routes) → (p.x ≤ b) × (p.y ≤ b)
      spots p n = either (Memᴰ.append_cases d.parts n)
        where
          either : Memᴰ p d.parts ⊎ Memᴰ p (corner_spots d.routes) → (p.x ≤ b) × (p.y ≤ b)
          either (inl q) = W.parts p q
          either (inr q) = let t = corner_of d.routes p q in W.corners t.0 p t.1 t.2

      rest : (k ≡ d.height) ⊎ Memᴰ k (coordinates (d.parts ++ corner_spots d.routes)) → k ≤ b
      rest (inl e) = omega (arith, h)
      rest (inr n) = coordinate_within (d.parts ++ corner_spots d.routes) b spots k n

      go : (k ≡ d.width) ⊎ Memᴰ k (d.height ∷ coordinates (d.parts ++ corner_spots d.routes)) → k ≤ b
      go (inl e) = omega (arith, w)
      go (inr n) = rest (Memᴰ.cases_cons n)

  -- Where check 14 passes every number fits

  module _ (pass : check14 d ≡ None) where
    none_large : any too_large (numbers_of d) ≡ false
    unfolding check14
    none_large = go (any too_large (numbers_of d)) refl
      where
        go : (b : Bool) → any too_large (numbers_of d) ≡ b → b ≡ false
        go true e = let f = rw e at pass in let z : ◌≡◌ {A = ℕ} 0 1 = cc in absurd (omega arith)
        go false e = refl

    small : (k : ℕ) → Memᴰ k (numbers_of d) → k ≤ most_field
    small k m = go (too_large k) refl
      where
        go : (b : Bool) → too_large k ≡ b → k ≤ most_field
        go true e = absurd (true≢false (sym (some_large k m e) ∙ none_large))
        go false e = ltb-false most_field k e

    pub width_small : d.width ≤ most_field
    unfolding numbers_of
    width_small = small d.width (Memᴰ.head refl)

    pub height_small : d.height ≤ most_field
    unfolding numbers_of
    height_small = small d.height (Memᴰ.tail (Memᴰ.head refl))

    spot_small : (p : Spot) → Memᴰ p (d.parts ++ corner_spots d.routes) → (p.x ≤ most_field) × (p.y ≤ most_field)
    unfolding numbers_of
    spot_small p m =
        let c = coordinate_in (d.parts ++ corner_spots d.routes) p m in
        (small p.x (Memᴰ.tail (Memᴰ.tail c.0)), small p.y (Memᴰ.tail (Memᴰ.tail c.1)))

    pub fields_small : Within most_field
    fields_small = record {
      parts = λ p m. spot_small p (Memᴰ.append_left (corner_spots d.routes) m);
      corners = λ r p m n. spot_small p (Memᴰ.append_right d.parts (corner_in d.routes r p m n));
    }

  -- 'its place the largest such number', which is the larger of the two head fields
  abbrev larger : ℕ
  larger = max d.width d.height

  larger_in : Memᴰ larger (numbers_of d)
  unfolding numbers_of
  larger_in = go (dec_lt d.width d.height)
    where
      go : Dec (d.width < d.height) → Memᴰ larger (numbers_of d)
      go (yes h) = let e : larger ≡ d.height = omega arith in Memᴰ.tail (Memᴰ.head e)
      go (no h) = let e : larger ≡ d.width = omega arith in Memᴰ.head e

  pub head_decides : Within larger → check14 d ≡ cond (too_large larger) (Some larger) None
  unfolding check14
  head_decides W = go (too_large larger) refl
    where
      most : (k : ℕ) → Memᴰ k (numbers_of d) → k ≤ larger
      most = numbers_within larger (omega arith) (omega arith) W

      place : too_large larger ≡ true → largest (filter too_large (numbers_of d)) ≡ larger
      place e =
          omega (
            arith,
            largest_most (filter too_large (numbers_of d)) larger (filter_i too_large (numbers_of d) larger_in e),
            largest_within (filter too_large (numbers_of d)) larger (λ k m. most k (filter_e too_large (numbers_of d) m).0),
          )

      none : too_large larger ≡ false → (b : Bool) → any too_large (numbers_of d) ≡ b → b ≡ false
      none e true f =
          let t = any_at_e too_large 0 (numbers_of d) f in
          let k : ℕ = get_or (numbers_of d) t.0 0 in
          absurd (omega (arith, most k (get_d_mem (numbers_of d) t.0 0 t.1), ltb-true most_field k t.2, ltb-false most_field larger e))
      none e false f = refl

      go : (b : Bool) → too_large larger ≡ b → check14 d ≡ cond b (Some larger) None
      go true e = rw (some_large larger larger_in e) (ap Some (place e))
      go false e = rw (none e (any too_large (numbers_of d)) refl) refl
