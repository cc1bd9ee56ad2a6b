-- A test of a part's neighbours, one after the other. Assumes nothing.
use Prim.Native.Nat.{ℕ, ◌+◌, ◌<◌, ◌≤◌}
use native.Mathlib.Omega.{arith}
use mathlib.Core.Path.{◌≡◌, sym, ap, ◌∙◌, subst}
use mathlib.Core.Bool.{Bool, beq, true, false}
use mathlib.Core.List.{List, Memᴰ}
use lib.ListN.{length, get_or, drop}
use Rattle.words.specs.Limits.{most_parts}
use Rattle.words.specs.declared.Part.{Part}
use Rattle.lists.specs.Select.{any}
use Rattle.lists.proofs.Select.{get_d_mem}
use Rattle.lists.proofs.Filters.{any_here, any_next, any_end}
use Rattle.reachability.specs.Tables.{numbers, number_at, neighbours_in, TableFits, has_neighbour}
use Rattle.reachability.specs.declared.adjacency.Neighbours.{Neighbours}
use Rattle.reachability.proofs.AdjacencyTable.{numbers_length, numbers_at}

-- a neighbour as an index
pub neighbour_below : {table : List Neighbours} → TableFits table → (p : ℕ) (parts : List Part) → numbers parts ≡ neighbours_in table p → (j : ℕ) → j < length parts → number_at parts j < most_parts
neighbour_below {table} F p parts e j h =
    F.inside p _ (subst (λ (l : List ℕ). Memᴰ (number_at parts j) l) e
    (subst (λ (x : ℕ). Memᴰ x (numbers parts)) (numbers_at parts j) (get_d_mem (numbers parts) j 0 (omega (arith, numbers_length parts)))))

-- what the neighbours of w from place j on say is what all of them say
abbrev pub Testing : List Neighbours → List Bool → Bool → ℕ → List Part → ℕ → Type 0
Testing table flags flag w parts j = any (λ q. beq (get_or flags q false) flag) (drop j (numbers parts)) ≡ has_neighbour table flags w flag

module _ (table : List Neighbours) (flags : List Bool) (flag : Bool) (w : ℕ) (parts : List Part) where
  pub testing_start : numbers parts ≡ neighbours_in table w → Testing table flags flag w parts 0
  unfolding has_neighbour
  testing_start e = ap (any (λ q. beq (get_or flags q false) flag)) e

  module _ (j : ℕ) (T : Testing table flags flag w parts j) where
    abbrev test : ℕ → Bool
    test q = beq (get_or flags q false) flag

    pub testing_here : j < length parts → test (number_at parts j) ≡ true → true ≡ has_neighbour table flags w flag
    testing_here g e = sym (any_here test (numbers parts) j 0 (omega (arith, numbers_length parts)) (ap test (numbers_at parts j) ∙ e)) ∙ T

    pub testing_next : j < length parts → test (number_at parts j) ≡ false → Testing table flags flag w parts (j + 1)
    testing_next g e = sym (any_next test (numbers parts) j 0 (omega (arith, numbers_length parts)) (ap test (numbers_at parts j) ∙ e)) ∙ T

    pub testing_end : length parts ≤ j → false ≡ has_neighbour table flags w flag
    testing_end g = sym (any_end test (numbers parts) j 0 (omega (arith, numbers_length parts))) ∙ T
