-- The neighbours of a part, by line, are as many as its cables. Assumes nothing.
use Prim.Native.Nat.{ℕ, suc, ◌+◌, ◌<◌, ◌≤◌}
use native.Mathlib.Omega.{arith}
use mathlib.Core.Path.{◌≡◌, refl, sym, ◌∙◌}
use mathlib.Core.Bool.{Bool, true, false, ◌||◌}
use mathlib.Core.List.{List, [], ◌∷◌}
use lib.ListN.{length, get_or}
use lib.Dec.{eqb}
use borrow.Author.Tests.{eqb-true, ne_eqb}
use Rattle.words.specs.Limits.{most_degree}
use Rattle.lists.specs.Select.{cons_if, one_if, count}
use Rattle.lists.proofs.Filters.{length_cons_if}
use Rattle.station.specs.Station.{Cable, Station, joins, degree, no_cable}
use Rattle.station.specs.Code.{Wired}
use Rattle.order.specs.Reach.{neighbours}

-- a cable between different parts has p at one end at most
one_end : (a b : Bool) → (a ≡ true → b ≡ false) → one_if a + one_if b ≡ one_if (a || b)
one_end true b h = rw (h refl) refl
one_end false true h = refl
one_end false false h = refl

neighbours_degree : (cs : List Cable) (p : ℕ) → ((i : ℕ) → i < length cs → (get_or cs i no_cable).one ≡ (get_or cs i no_cable).other → ⊥) → length (neighbours cs p) ≡ degree cs p
unfolding neighbours degree count joins
neighbours_degree [] p l = refl
neighbours_degree (c ∷ cs) p l =
    omega (
      arith,
      length_cons_if (eqb c.one p) c.other (cons_if (eqb c.other p) c.one (neighbours cs p)),
      length_cons_if (eqb c.other p) c.one (neighbours cs p),
      one_end (eqb c.one p) (eqb c.other p) (λ e. ne_eqb c.other p (λ f. l 0 (omega arith) (eqb-true c.one p e ∙ sym f))),
      neighbours_degree cs p (λ i h. l (suc i) (omega arith)),
    )

-- a part of a station that passes checks 1 to 8 has at most four neighbours
pub neighbours_few : {st : Station} → Wired st → (p : ℕ) → length (neighbours st.cables p) ≤ most_degree
neighbours_few {st} W p = omega (arith, neighbours_degree st.cables p W.loopless, W.degrees p)
