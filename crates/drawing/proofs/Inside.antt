-- Routes between two of a drawing's parts: those of a drawing whose cables meet as they should. Assumes nothing.
use Prim.Native.Nat.{ℕ, ◌<◌}
use mathlib.Core.Path.{subst}
use mathlib.Core.List.{Memᴰ}
use lib.ListN.{length}
use Rattle.lists.proofs.Places.{mem-place}
use Rattle.drawing.specs.Drawing.{Route, no_route, Drawing, route_at, Meets}

-- a route between two of n parts
pub record Inside (n : ℕ) (r : Route) : Type 0 where
  pub first_inside : r.first < n
  pub last_inside : r.last < n

abbrev pub EndsInside : Drawing → Type 0
EndsInside d = (r : Route) → Memᴰ r d.routes → Inside (length d.parts) r

module _ (d : Drawing) (M : Meets d) where
  pub inside_at : (i : ℕ) → i < length d.routes → Inside (length d.parts) (route_at d i)
  inside_at i h = let p = (M.alone i h).parts in record { first_inside = p.0; last_inside = p.1 }

  pub ends_inside : EndsInside d
  unfolding route_at
  ends_inside r m =
      let t = mem-place d.routes no_route m in
      subst (λ (q : Route). Inside (length d.parts) q) t.2 (inside_at t.0 t.1)
