-- A table in which nothing has been written, and the lowest line that is found in a table. Assumes nothing.
use Prim.Native.Nat.{ℕ, ◌<◌}
use native.Mathlib.Omega.{arith}
use native.Mathlib.Decide.{dec_lt}
use mathlib.Core.Path.{◌≡◌, ◌∙◌}
use mathlib.Core.List.{List}
use lib.ListN.{length, get_or, replicate, length-set, length-replicate, get_or-replicate, get_or-eq_default}
use lib.Seq.{get_or-set_same, get_or-set_other}
use Rattle.sweep.specs.Boards.{lowest_place}
use Rattle.sweep.specs.Sweep.{blank}

-- the lowest line that is found wrong
abbrev pub lowest : List ℕ → ℕ
lowest b = get_or b lowest_place 0

pub blank_length : (places lines : ℕ) → length (blank places lines) ≡ places
unfolding blank
blank_length places lines = length-set (replicate places 0) lowest_place lines ∙ length-replicate {A = ℕ} places 0

pub blank_cell : (places lines p : ℕ) → (p ≡ lowest_place → ⊥) → get_or (blank places lines) p 0 ≡ 0
unfolding blank
blank_cell places lines p n = get_or-set_other (replicate places 0) lowest_place p lines 0 n ∙ go (dec_lt p places)
  where
    go : Dec (p < places) → ◌≡◌ {A = ℕ} (get_or (replicate places 0) p 0) 0
    go (yes h) = get_or-replicate places p 0 0 h
    go (no h) = get_or-eq_default (replicate places 0) 0 (omega (arith, length-replicate {A = ℕ} places 0))

pub blank_lowest : (places lines : ℕ) → lowest_place < places → lowest (blank places lines) ≡ lines
unfolding blank
blank_lowest places lines h =
    get_or-set_same (replicate places 0) lowest_place lines 0 (omega (arith, length-replicate {A = ℕ} places 0))
