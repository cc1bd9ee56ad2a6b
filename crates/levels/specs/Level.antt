-- Request 2026-08: 'level in dB, as 32-bit floats', of the whole number of 1/64 dB that it counts, and what a part does to it in f32. Assumes
-- nothing.
use Rattle.std.specs.Prelude.{ℕ, suc, true, false, cond, ℤ, pos, negsuc, eqb, Float}
use Rattle.std.specs.Float.Ieee as Ieee
use Rattle.std.specs.Float.{binary32}
use Rattle.std.specs.Float.Ieee.{round}
use Rattle.words.specs.Words.{sort_of, steps_of, pad_sort, amplifier_sort}
use Rattle.levels.specs.declared.Sort.{Sort}
use Rattle.levels.specs.declared.Sort.TheVariants.{Joint, Pad, Amplifier}

-- the f32 that is nearest to count / 64; 'zero is positive zero'
unfoldable pub level_of : ℤ → Float
level_of (pos n) = round binary32 false n 64
level_of (negsuc n) = round binary32 true (suc n) 64

-- the sort of a word of kind 9: 'a joint without a number, 1 a pad with its loss, 2 an amplifier with its gain'
unfoldable pub sort_in : ℕ → Sort
sort_in w =
    cond (eqb (sort_of w) pad_sort) (Pad (level_of (pos (steps_of w)))) (cond (eqb (sort_of w) amplifier_sort) (Amplifier (level_of (pos (steps_of w)))) Joint)

-- a level behind a part: 'a gain adds and a loss subtracts'
abbrev pub behind : Float → Sort → Float
behind x Joint = x
behind x (Pad loss) = Ieee.sub binary32 x loss
behind x (Amplifier gain) = Ieee.add binary32 x gain
