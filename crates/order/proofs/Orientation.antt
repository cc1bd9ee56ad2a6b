-- The lower-ranked and the other part of each cable, by part and by rank. Assumes nothing.
use Prim.Native.Nat.{ℕ, ◌<◌, min, max}
use native.Mathlib.Omega.{arith}
use mathlib.Core.Path.{◌≡◌, refl, sym, ap, ◌∙◌}
use mathlib.Core.Logic.{◌⊎◌, inl, inr, ⊎_elim}
use mathlib.Core.Bool.{Bool, true, false, cond}
use mathlib.Core.List.{List}
use lib.ListN.{length, get_or}
use lib.Dec.{leb}
use borrow.Author.Tests.{leb-true, leb-false}
use Rattle.station.specs.Station.{Cable, Station, no_cable}
use Rattle.station.specs.Repeats.{SamePair, Simple}
use Rattle.order.specs.Order.{order, rank_in}
use Rattle.order.specs.Graph.{lower, upper, Once}
use Rattle.order.specs.Orientation.{lower_part, upper_part, graph_of}
use Rattle.order.proofs.Joins.{within}
use Rattle.order.proofs.Bipolar.{Orderable}
use Rattle.order.proofs.Ranks.{graph_size, lower_is, upper_is, part_of_rank}

module _ (l : List ℕ) (c : Cable) where
  pub lower_part_rank : rank_in l (lower_part l c) ≡ min (rank_in l c.one) (rank_in l c.other)
  unfolding lower_part
  lower_part_rank = go (leb (rank_in l c.one) (rank_in l c.other)) refl
    where
      go : (b : Bool) → leb (rank_in l c.one) (rank_in l c.other) ≡ b → rank_in l (cond b c.one c.other) ≡ min (rank_in l c.one) (rank_in l c.other)
      go true e = omega (arith, leb-true (rank_in l c.one) (rank_in l c.other) e)
      go false e = omega (arith, leb-false (rank_in l c.one) (rank_in l c.other) e)

  pub upper_part_rank : rank_in l (upper_part l c) ≡ max (rank_in l c.one) (rank_in l c.other)
  unfolding upper_part
  upper_part_rank = go (leb (rank_in l c.one) (rank_in l c.other)) refl
    where
      go : (b : Bool) → leb (rank_in l c.one) (rank_in l c.other) ≡ b → rank_in l (cond b c.other c.one) ≡ max (rank_in l c.one) (rank_in l c.other)
      go true e = omega (arith, leb-true (rank_in l c.one) (rank_in l c.other) e)
      go false e = omega (arith, leb-false (rank_in l c.one) (rank_in l c.other) e)

  -- 'A cable joins the two parts that its list word names.'
  pub parts_joined :
      ((lower_part l c ≡ c.one) × (upper_part l c ≡ c.other)) ⊎ ((lower_part l c ≡ c.other) × (upper_part l c ≡ c.one))
  unfolding lower_part upper_part
  parts_joined = go (leb (rank_in l c.one) (rank_in l c.other))
    where
      go :
          (b : Bool)
          → ((cond b c.one c.other ≡ c.one) × (cond b c.other c.one ≡ c.other))
          ⊎ ((cond b c.one c.other ≡ c.other) × (cond b c.other c.one ≡ c.one))
      go true = inl (refl, refl)
      go false = inr (refl, refl)

  pub parts_inside : (n : ℕ) → c.one < n → c.other < n → (lower_part l c < n) × (upper_part l c < n)
  parts_inside n h g = ⊎_elim (λ e. omega (arith, e.0, e.1)) (λ e. omega (arith, e.0, e.1)) parts_joined

-- cables with the same lower-ranked and the same other part join the same two
same_pair : (l : List ℕ) (c d : Cable) → lower_part l c ≡ lower_part l d → upper_part l c ≡ upper_part l d → SamePair c d
same_pair l c d e f = go (parts_joined l c) (parts_joined l d)
  where
    go :
        ((lower_part l c ≡ c.one) × (upper_part l c ≡ c.other)) ⊎ ((lower_part l c ≡ c.other) × (upper_part l c ≡ c.one))
        → ((lower_part l d ≡ d.one) × (upper_part l d ≡ d.other)) ⊎ ((lower_part l d ≡ d.other) × (upper_part l d ≡ d.one)) → SamePair c d
    go (inl a) (inl b) = inl (omega arith)
    go (inl a) (inr b) = inr (omega arith)
    go (inr a) (inl b) = inr (omega arith)
    go (inr a) (inr b) = inl (omega arith)

-- The parts that the ranks of a line stand for

module _ (st : Station) (H : Orderable st) (i : ℕ) (h : i < length st.cables) where
  inside : (lower_part (order st) (get_or st.cables i no_cable) < st.parts) × (upper_part (order st) (get_or st.cables i no_cable) < st.parts)
  inside = let w = within H.wired i h in parts_inside (order st) (get_or st.cables i no_cable) st.parts w.0 w.1

  pub lower_part_lem : get_or (order st) (lower (graph_of st) i) 0 ≡ lower_part (order st) (get_or st.cables i no_cable)
  lower_part_lem =
      ap (λ (k : ℕ). get_or (order st) k 0) (lower_is st i h ∙ sym (lower_part_rank (order st) (get_or st.cables i no_cable)))
      ∙ part_of_rank st H (lower_part (order st) (get_or st.cables i no_cable)) inside.0

  pub upper_part_lem : get_or (order st) (upper (graph_of st) i) 0 ≡ upper_part (order st) (get_or st.cables i no_cable)
  upper_part_lem =
      ap (λ (k : ℕ). get_or (order st) k 0) (upper_is st i h ∙ sym (upper_part_rank (order st) (get_or st.cables i no_cable)))
      ∙ part_of_rank st H (upper_part (order st) (get_or st.cables i no_cable)) inside.1

-- where no two cables join the same two parts, each two ranks are joined at most once
pub ranks_once : (st : Station) → Orderable st → Simple st → (u v : ℕ) → Once (graph_of st) u v
ranks_once st H S u v i j h g a b c d =
    let k : i < length st.cables = omega (arith, graph_size st) in
    let l : j < length st.cables = omega (arith, graph_size st) in
    S i j k l
    (same_pair (order st) (get_or st.cables i no_cable) (get_or st.cables j no_cable)
    (sym (lower_part_lem st H i k) ∙ ap (λ (r : ℕ). get_or (order st) r 0) (a ∙ sym c) ∙ lower_part_lem st H j l)
    (sym (upper_part_lem st H i k) ∙ ap (λ (r : ℕ). get_or (order st) r 0) (b ∙ sym d) ∙ upper_part_lem st H j l))
