-- What it means that a cable joins two parts: some line names them, one way round or the other. Assumes nothing.
use Prim.Native.Nat.{ℕ, zero, suc, ◌<◌}
use native.Mathlib.Omega.{arith}
use mathlib.Core.Path.{◌≡◌, sym}
use mathlib.Core.Logic.{◌⊎◌, inl, inr}
use mathlib.Core.Bool.{true}
use mathlib.Core.List.Memᴰ
use mathlib.Core.List.{List, [], ◌∷◌, Memᴰ}
use lib.ListN.{length, get_or}
use lib.Dec.{eqb}
use borrow.Author.Tests.{eqb-true, eq-eqb}
use Rattle.lists.specs.Select.{cons_if}
use Rattle.lists.proofs.Filters.{cons_if_e, cons_if_here, cons_if_there}
use Rattle.station.specs.Station.{Cable, Station, no_cable}
use Rattle.station.specs.Code.{Wired}
use Rattle.order.specs.Reach.{neighbours, Joined}

-- the cable of a line
abbrev pub cable_at : List Cable → ℕ → Cable
cable_at cs i = get_or cs i no_cable

-- cable c has its ends at u and v
abbrev pub Between : Cable → ℕ → ℕ → Type 0
Between c u v = ((c.one ≡ u) × (c.other ≡ v)) ⊎ ((c.one ≡ v) × (c.other ≡ u))

pub between_sym : {c : Cable} {u v : ℕ} → Between c u v → Between c v u
between_sym (inl b) = inr b
between_sym (inr b) = inl b

-- a line of the list joins the two
abbrev pub Lined : List Cable → ℕ → ℕ → Type 0
Lined cs u v = (i : ℕ) × (i < length cs) × Between (cable_at cs i) u v

pub joined_line : (cs : List Cable) (u v : ℕ) → Joined cs u v → Lined cs u v
unfolding neighbours
joined_line [] u v m = absurd (Memᴰ.not-nil m)
joined_line (c ∷ cs) u v m = first (λ n. joined_line cs u v n) (cons_if_e (eqb c.one u) m)
  where
    later : Lined cs u v → Lined (c ∷ cs) u v
    later l = (suc l.0, omega (arith, l.1), l.2)

    second : (Joined cs u v → Lined cs u v) → ((eqb c.other u ≡ true) × (v ≡ c.one)) ⊎ Joined cs u v → Lined (c ∷ cs) u v
    second below (inl h) = (0, omega arith, inr (sym h.1, eqb-true c.other u h.0))
    second below (inr n) = later (below n)

    first : (Joined cs u v → Lined cs u v) → ((eqb c.one u ≡ true) × (v ≡ c.other)) ⊎ Memᴰ v (cons_if (eqb c.other u) c.one (neighbours cs u)) → Lined (c ∷ cs) u v
    first below (inl h) = (0, omega arith, inl (eqb-true c.one u h.0, sym h.1))
    first below (inr n) = second below (cons_if_e (eqb c.other u) n)

pub line_joined : (cs : List Cable) (u v i : ℕ) → i < length cs → Between (cable_at cs i) u v → Joined cs u v
unfolding neighbours
line_joined [] u v i h b = absurd (omega arith)
line_joined (c ∷ cs) u v zero h (inl b) = cons_if_here (cons_if (eqb c.other u) c.one (neighbours cs u)) (eqb c.one u) (eq-eqb c.one u b.0) (sym b.1)
line_joined (c ∷ cs) u v zero h (inr b) =
    cons_if_there c.other (eqb c.one u) (cons_if_here (neighbours cs u) (eqb c.other u) (eq-eqb c.other u b.1) (sym b.0))
line_joined (c ∷ cs) u v (suc i) h b = cons_if_there c.other (eqb c.one u) (cons_if_there c.one (eqb c.other u) (line_joined cs u v i (omega arith) b))

pub joined_sym : (cs : List Cable) {u v : ℕ} → Joined cs u v → Joined cs v u
joined_sym cs {u} {v} j = let l : Lined cs u v = joined_line cs u v j in line_joined cs v u l.0 l.1 (between_sym l.2)

-- every cable has its two ends among the parts below n
abbrev pub Within : ℕ → List Cable → Type 0
Within n cs = (i : ℕ) → i < length cs → ((cable_at cs i).one < n) × ((cable_at cs i).other < n)

pub within : {st : Station} → Wired st → Within st.parts st.cables
within W i l = (W.one i, W.other i)

pub joined_within : {n : ℕ} (cs : List Cable) (u : ℕ) {v : ℕ} → Within n cs → Joined cs u v → v < n
joined_within {n} cs u {v} w j = let l : Lined cs u v = joined_line cs u v j in go (w l.0 l.1) l.2
  where
    go : {c : Cable} → (c.one < n) × (c.other < n) → Between c u v → v < n
    go h (inl b) = omega arith
    go h (inr b) = omega arith
