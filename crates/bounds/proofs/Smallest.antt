-- The box of some points is the smallest that holds them, and there is only one such. Assumes nothing.
--     smallest         `box_of` holds every point, has one on each side, and lies in each box that holds them all
--     smallest_one     two smallest boxes of the same points are one
--     smallest_same    which points there are counts, and not how often or in which sequence
use mathlib.Core.Path.{◌≡◌, refl, sym, subst}
use mathlib.Core.List.Memᴰ
use mathlib.Core.List.{List, Memᴰ, [], ◌∷◌, ◌++◌, append_assoc, append-nil}
use mathlib.Core.Logic.{⊎_elim}
use Prim.Native.Nat.{ℕ, ◌<◌, min, max}
use native.Mathlib.Decide.{dec_lt}
use native.Mathlib.Omega.{arith}
use lib.ListN.{length}
use Rattle.geometry.specs.Spots.{Spot}
use Rattle.bounds.specs.declared.Bounds.{Bounds}
use Rattle.bounds.specs.Boxes.{alone, box_of, grown, grown_by, Within, Inside, Smallest}

-- one of the points has the number k in the field f
abbrev Touches : (Spot → ℕ) → List Spot → ℕ → Type 0
Touches f ps k = (s : Spot) × Memᴰ s ps × (f s ≡ k)

module _ (f : Spot → ℕ) (seen : List Spot) (v : Spot) where
  kept : (k n : ℕ) → k ≡ n → Touches f seen k → Touches f (seen ++ (v ∷ [])) n
  kept k n e t = (t.0, Memᴰ.append_left (v ∷ []) t.1, omega (arith, t.2))

  new : (n : ℕ) → f v ≡ n → Touches f (seen ++ (v ∷ [])) n
  new n e = (v, Memᴰ.append_right seen (Memᴰ.head refl), e)

  touches_min : (k : ℕ) → Touches f seen k → Touches f (seen ++ (v ∷ [])) (min k (f v))
  touches_min k t = go (dec_lt (f v) k)
    where
      go : Dec (f v < k) → Touches f (seen ++ (v ∷ [])) (min k (f v))
      go (yes h) = new (min k (f v)) (omega arith)
      go (no h) = kept k (min k (f v)) (omega (arith, h)) t

  touches_max : (k : ℕ) → Touches f seen k → Touches f (seen ++ (v ∷ [])) (max k (f v))
  touches_max k t = go (dec_lt k (f v))
    where
      go : Dec (k < f v) → Touches f (seen ++ (v ∷ [])) (max k (f v))
      go (yes h) = new (max k (f v)) (omega arith)
      go (no h) = kept k (max k (f v)) (omega (arith, h)) t

grown_holds_old : (b : Bounds) (x y : ℕ) (s : Spot) → Within b s → Within (grown b x y) s
unfolding grown
grown_holds_old b x y s h = record { left = omega arith; bottom = omega arith; right = omega arith; top = omega arith }

grown_holds_new : (b : Bounds) (s : Spot) → Within (grown b s.x s.y) s
unfolding grown
grown_holds_new b s = record { left = omega arith; bottom = omega arith; right = omega arith; top = omega arith }

grown_inside : (b c : Bounds) (s : Spot) → Inside b c → Within c s → Inside (grown b s.x s.y) c
unfolding grown
grown_inside b c s i h = record { left = omega arith; bottom = omega arith; right = omega arith; top = omega arith }

grown_smallest : (seen : List Spot) (b : Bounds) (v : Spot) → Smallest seen b → Smallest (seen ++ (v ∷ [])) (grown b v.x v.y)
unfolding grown
grown_smallest seen b v t = record {
  holds = λ s m.
      ⊎_elim (λ old. grown_holds_old b v.x v.y s (t.holds s old))
      (λ one. subst (Within (grown b v.x v.y)) (sym (Memᴰ.eq_of_singleton one)) (grown_holds_new b v))
      (Memᴰ.append_cases seen m);
  left = touches_min (λ s. s.x) seen v b.left t.left;
  bottom = touches_min (λ s. s.y) seen v b.bottom t.bottom;
  right = touches_max (λ s. s.x) seen v b.right t.right;
  top = touches_max (λ s. s.y) seen v b.top t.top;
  least = λ c h.
      grown_inside b c v (t.least c (λ s m. h s (Memᴰ.append_left (v ∷ []) m))) (h v (Memᴰ.append_right seen (Memᴰ.head refl)));
}

grown_by_smallest : (seen ps : List Spot) (b : Bounds) → Smallest seen b → Smallest (seen ++ ps) (grown_by b ps)
unfolding grown_by
grown_by_smallest seen [] b t = rw append-nil t
grown_by_smallest seen (v ∷ ps) b t =
    rw append_assoc at (grown_by_smallest (seen ++ (v ∷ [])) ps (grown b v.x v.y) (grown_smallest seen b v t))

alone_holds : (s : Spot) → Within (alone s) s
alone_holds s = record { left = omega arith; bottom = omega arith; right = omega arith; top = omega arith }

alone_inside : (s : Spot) (c : Bounds) → Within c s → Inside (alone s) c
alone_inside s c h = record { left = omega arith; bottom = omega arith; right = omega arith; top = omega arith }

alone_smallest : (s : Spot) → Smallest (s ∷ []) (alone s)
alone_smallest s = record {
  holds = λ u m. subst (Within (alone s)) (sym (Memᴰ.eq_of_singleton m)) (alone_holds s);
  left = (s, Memᴰ.head refl, refl);
  bottom = (s, Memᴰ.head refl, refl);
  right = (s, Memᴰ.head refl, refl);
  top = (s, Memᴰ.head refl, refl);
  least = λ c h. alone_inside s c (h s (Memᴰ.head refl));
}

pub smallest : (ps : List Spot) → 0 < length ps → Smallest ps (box_of ps)
unfolding box_of
smallest [] h = absurd (omega arith)
smallest (p ∷ ps) h = grown_by_smallest (p ∷ []) ps (alone p) (alone_smallest p)

inside_both : (b c : Bounds) → Inside b c → Inside c b → b ≡ c
inside_both b c i j =
    let l : b.left ≡ c.left = omega arith in
    let o : b.bottom ≡ c.bottom = omega arith in
    let r : b.right ≡ c.right = omega arith in
    let t : b.top ≡ c.top = omega arith in
    λ k. record { left = l k; bottom = o k; right = r k; top = t k }

pub smallest_one : (ps : List Spot) (b c : Bounds) → Smallest ps b → Smallest ps c → b ≡ c
smallest_one ps b c s t = inside_both b c (s.least c t.holds) (t.least b s.holds)

pub smallest_same :
    (ps qs : List Spot) (b : Bounds) → ((s : Spot) → Memᴰ s ps → Memᴰ s qs) → ((s : Spot) → Memᴰ s qs → Memᴰ s ps)
    → Smallest ps b → Smallest qs b
smallest_same ps qs b into from t = record {
  holds = λ s m. t.holds s (from s m);
  left = (t.left.0, into t.left.0 t.left.1, t.left.2);
  bottom = (t.bottom.0, into t.bottom.0 t.bottom.1, t.bottom.2);
  right = (t.right.0, into t.right.0 t.right.1, t.right.2);
  top = (t.top.0, into t.top.0 t.top.1, t.top.2);
  least = λ c h. t.least c (λ s m. h s (into s m));
}
