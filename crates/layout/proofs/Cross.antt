-- On the lines of a layout, the test whether two of them cross agrees with a test on five numbers: lane, lanes and columns. Assumes
-- nothing.
use Prim.Native.Nat.{ℕ, ◌<◌, min, max}
use mathlib.Core.Path.{◌≡◌, sym}
use mathlib.Core.Bool.{true, ◌&&◌}
use lib.Dec.{ltb}
use borrow.Author.Tests.{ltb-true, lt-ltb}
use Rattle.lists.proofs.Bools.{and_e, and_i, same_test}
use Rattle.order.specs.Graph.{StGraph, size}
use Rattle.layout.specs.Points.{Course, points_of}
use Rattle.geometry.specs.Crossing.{crosses_over, lines_cross}
use Rattle.geometry.proofs.Crossing.{crosses_over_e, crosses_over_i}
use Rattle.layout.specs.Over.{over, courses_cross}
use Rattle.layout.proofs.Facts.{Facts}
use Rattle.layout.proofs.Meet.{Over, over_spot, over_crosses, course_at, polyline, proper, crosses_over_lem}

over_e : (c d : Course) → over c d ≡ true → Over c d
unfolding over
over_e c d h =
    let p = ltb d.low c.high in
    let q = ltb c.high d.high in
    let r = ltb (min c.column c.to.x) d.column in
    let s = ltb d.column (max c.column c.to.x) in
    let t = and_e (p && q && r) s h in
    let u = and_e (p && q) r t.0 in
    let v = and_e p q u.0 in
    record { low = ltb-true _ _ v.0; high = ltb-true _ _ v.1; left = ltb-true _ _ u.1; right = ltb-true _ _ t.1 }

over_i : (c d : Course) → Over c d → over c d ≡ true
unfolding over
over_i c d O =
    and_i _ _ (and_i _ _ (and_i _ _ (lt-ltb _ _ O.low) (lt-ltb _ _ O.high)) (lt-ltb _ _ O.left)) (lt-ltb _ _ O.right)

module _ (G : StGraph) (x lo hi col row : ℕ → ℕ) (F : Facts G x lo hi col row) where
  crosses_over_over :
      (i j : ℕ) → i < size G → j < size G → (i ≡ j → ⊥)
      → crosses_over (polyline G x lo hi col row i) (polyline G x lo hi col row j)
      ≡ over (course_at G x lo hi col row i) (course_at G x lo hi col row j)
  crosses_over_over i j g h f =
      let c = course_at G x lo hi col row i in
      let d = course_at G x lo hi col row j in
      same_test (crosses_over (points_of c) (points_of d)) (over c d)
      (λ e.
      let r = crosses_over_e (points_of c) (points_of d) e in
      over_i c d (crosses_over_lem G x lo hi col row F i j g h f r.0 r.1).0)
      (λ e.
      crosses_over_i (points_of c) (points_of d) (over_spot c d)
      (over_crosses c d (proper G x lo hi col row F i g) (proper G x lo hi col row F j h) (over_e c d e)))

  -- of every two different cables, those that share a part too
  pub lines_cross_courses :
      (i j : ℕ) → i < size G → j < size G → (i ≡ j → ⊥)
      → lines_cross (polyline G x lo hi col row i) (polyline G x lo hi col row j)
      ≡ courses_cross (course_at G x lo hi col row i) (course_at G x lo hi col row j)
  unfolding lines_cross courses_cross
  lines_cross_courses i j g h f = rw (crosses_over_over i j g h f, crosses_over_over j i h g (λ e. f (sym e)))
