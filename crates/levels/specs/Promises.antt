-- Request 2026-08: what is to be shown of the two floats of a part. Assumes nothing.
use Rattle.std.specs.Prelude.{ℕ, ◌≡◌, Bool, true, false, List, [], ◌∷◌, T, ℤ, pos, negsuc, nat_abs, ◌≤ℤ◌, get_or, Float}
use Rattle.std.specs.Float.{binary32}
use Rattle.std.specs.Float.Ieee.{le, to_bits, of_bits}
use Rattle.std.specs.Float.Ieee.Exact.{HasValue}
use Rattle.station.specs.Station.{Station}
use Rattle.levels.specs.Level.{level_of, sort_in, behind}
use Rattle.levels.specs.SignalPaths.{SignalPath, level_along}

-- true where a count is negative
abbrev pub negative : ℤ → Bool
negative (pos n) = false
negative (negsuc n) = true

-- the level in dB is the count over 64 itself, and no float next to it
abbrev pub Exact : ℤ → Type 0
Exact z = HasValue (level_of z) (negative z) (nat_abs z) 64

-- summed in f32, part by part, behind a level x
unfoldable pub float_from : List ℕ → Float → List ℕ → Float
float_from row x [] = x
float_from row x (p ∷ parts) = float_from row (behind x (sort_in (get_or row p 0))) parts

-- the same from 0.0
unfoldable pub float_along : List ℕ → List ℕ → Float
float_along row parts = float_from row (of_bits binary32 0) parts

-- Of a route to p, beside the two floats of p.
pub record PathWithin (row : List ℕ) (least greatest : Float) (lowest highest parts : List ℕ) : Type 0 where
  -- 'the least and the greatest level .. over all routes', as counts and as floats
  pub above : level_along row lowest ≤ℤ level_along row parts
  pub under : level_along row parts ≤ℤ level_along row highest
  pub float_above : T (le least (level_of (level_along row parts)))
  pub float_under : T (le (level_of (level_along row parts)) greatest)
  -- 'All sums are exact'
  pub exact : Exact (level_along row parts)
  pub sum : float_along row parts ≡ level_of (level_along row parts)

-- Of the two floats of part p.
pub record LevelsAt (st : Station) (row : List ℕ) (p : ℕ) (least greatest : Float) : Type 0 where
  -- 'both values are reached by some route'
  pub lowest : List ℕ
  pub highest : List ℕ
  pub lowest_path : SignalPath st p lowest
  pub highest_path : SignalPath st p highest
  pub least_is : least ≡ level_of (level_along row lowest)
  pub greatest_is : greatest ≡ level_of (level_along row highest)
  pub all : (parts : List ℕ) → SignalPath st p parts → PathWithin row least greatest lowest highest parts
  -- 'zero is positive zero': no float has the bits of -0
  pub least_zero : to_bits binary32 least ≡ 0x8000_0000 → ⊥
  pub greatest_zero : to_bits binary32 greatest ≡ 0x8000_0000 → ⊥
