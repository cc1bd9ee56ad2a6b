-- The handshaking lemma: where cables join different parts, the degrees of the parts add up to twice the cables. Assumes nothing.
use Prim.Native.Nat.{ℕ, suc, ◌+◌, ◌<◌, ◌≤◌}
use native.Mathlib.Omega.{arith}
use mathlib.Core.Path.{◌≡◌, refl, sym, ◌∙◌}
use mathlib.Core.Bool.{◌||◌}
use mathlib.Core.List.{List, [], ◌∷◌}
use lib.ListN.{length, get_or}
use lib.Dec.{eqb}
use borrow.Author.Tests.{eqb-true, eq-eqb, ne_eqb}
use Rattle.lists.specs.Select.{tabulate, one_if, count, sum}
use Rattle.lists.proofs.Sums.{count_none, count_one, count_or, sum_add, sum_one_if, sum_le}
use Rattle.lists.proofs.Tally.{count_places}
use Rattle.station.specs.Station.{Cable, no_cable, joins, degree}

-- two different parts are the parts of a cable
two_parts : (n : ℕ) (c : Cable) → c.one < n → c.other < n → (c.one ≡ c.other → ⊥) → sum (tabulate n (λ p. one_if (joins p c))) ≡ 2
unfolding joins
two_parts n c h k d =
    omega (
      arith,
      sum_one_if (λ p. eqb c.one p || eqb c.other p) n,
      count_or (eqb c.one) (eqb c.other) n (λ p l e. ne_eqb c.other p (λ f. d (eqb-true c.one p e ∙ sym f))),
      count_one (eqb c.one) n c.one h (eq-eqb c.one c.one refl) (λ p l e. sym (eqb-true c.one p e)),
      count_one (eqb c.other) n c.other k (eq-eqb c.other c.other refl) (λ p l e. sym (eqb-true c.other p e)),
    )

pub handshake :
    (n : ℕ) (cs : List Cable) → ((i : ℕ) → (get_or cs i no_cable).one < n) → ((i : ℕ) → (get_or cs i no_cable).other < n)
    → ((i : ℕ) → i < length cs → (get_or cs i no_cable).one ≡ (get_or cs i no_cable).other → ⊥) → sum (tabulate n (degree cs)) ≡ length cs + length cs
unfolding degree count
handshake n [] h k d = omega (arith, sum_le (degree []) n 0 (λ p l. omega arith))
handshake n (c ∷ cs) h k d =
    omega (
      arith,
      sum_add (λ p. one_if (joins p c)) (degree cs) n,
      two_parts n c (h 0) (k 0) (d 0 (omega arith)),
      handshake n cs (λ i. h (suc i)) (λ i. k (suc i)) (λ i l. d (suc i) (omega arith)),
    )

-- beyond the parts that are joined
pub degree_none : (n : ℕ) (cs : List Cable) (p : ℕ) → n ≤ p → ((i : ℕ) → (get_or cs i no_cable).one < n) → ((i : ℕ) → (get_or cs i no_cable).other < n) → degree cs p ≡ 0
unfolding degree joins
degree_none n cs p l h k =
    count_places (joins p) cs no_cable
    ∙ count_none (λ i. joins p (get_or cs i no_cable)) (length cs)
    (λ i b. rw (ne_eqb (get_or cs i no_cable).one p (λ e. omega (arith, h i)), ne_eqb (get_or cs i no_cable).other p (λ e. omega (arith, k i))))
