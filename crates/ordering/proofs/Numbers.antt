-- Parts in an array and their numbers. Assumes nothing.
use Prim.Native.Nat.{ℕ, ◌<◌}
use native.Mathlib.Omega.{arith}
use mathlib.Core.Path.{◌≡◌, sym}
use mathlib.Core.List.{List}
use lib.ListN.{length, get_or, set, length-map, get_or-map}
use Rattle.words.specs.Limits.{most_parts}
use Rattle.words.specs.declared.Part.{Part}
use Rattle.lists.proofs.Kept.{map_set}
use Rattle.ordering.specs.Numbers.{part_numbers}

pub numbers_set : (part : List Part) (k : ℕ) (w : Part) → part_numbers (set part k w) ≡ set (part_numbers part) k w.0
unfolding part_numbers
numbers_set part k w = map_set (λ (p : Part). p.0) part k w

pub numbers_length : (part : List Part) → length (part_numbers part) ≡ length part
unfolding part_numbers
numbers_length part = length-map part (λ (p : Part). p.0)

pub part_number : (part : List Part) (k : ℕ) → (get_or part k (record { 0 = 0 })).0 ≡ get_or (part_numbers part) k 0
unfolding part_numbers
part_number part k = sym (get_or-map (λ (p : Part). p.0) part k (record { 0 = 0 }))

pub number_below : (part : List Part) → ((k : ℕ) → get_or (part_numbers part) k 0 < most_parts) → (k : ℕ) → (get_or part k (record { 0 = 0 })).0 < most_parts
number_below part below k = omega (arith, part_number part k, below k)
