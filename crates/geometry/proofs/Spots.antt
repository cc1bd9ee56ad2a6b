-- Spots are their two numbers, and the test of two spots tells whether they are equal. Assumes nothing.
use mathlib.Core.Path.{◌≡◌}
use mathlib.Core.Bool.{true, false, and-false}
use lib.Dec.{eqb}
use borrow.Author.Tests.{eqb-true, eq-eqb, ne_eqb}
use Rattle.lists.proofs.Bools.{and_e}
use Rattle.geometry.specs.Spots.{Spot, same_spot}

pub spot_path : {p q : Spot} → p.x ≡ q.x → p.y ≡ q.y → p ≡ q
spot_path e f = λ i. record { x = e i; y = f i }

pub same_spot_lem : (p q : Spot) → p.x ≡ q.x → p.y ≡ q.y → same_spot p q ≡ true
unfolding same_spot
same_spot_lem p q e f = rw (eq-eqb p.x q.x e, eq-eqb p.y q.y f)

pub same_spot_e : (p q : Spot) → same_spot p q ≡ true → p ≡ q
unfolding same_spot
same_spot_e p q h =
    let r = and_e (eqb p.x q.x) (eqb p.y q.y) h in
    spot_path (eqb-true p.x q.x r.0) (eqb-true p.y q.y r.1)

pub other_column : (p q : Spot) → (p.x ≡ q.x → ⊥) → same_spot p q ≡ false
unfolding same_spot
other_column p q h = rw (ne_eqb p.x q.x h)

pub other_row : (p q : Spot) → (p.y ≡ q.y → ⊥) → same_spot p q ≡ false
unfolding same_spot
other_row p q h = rw (ne_eqb p.y q.y h) (and-false (eqb p.x q.x))
