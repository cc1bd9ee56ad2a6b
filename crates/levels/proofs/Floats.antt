-- What is computed in floats is what the definitions say of counts: at a part, along a route, and of two extremes. Assumes nothing.
use mathlib.Core.Path.{◌≡◌, refl, sym, ap, ap₂, ◌∙◌}
use mathlib.Core.Bool.{Bool, true, false, cond}
use Prim.Native.Nat.{ℕ, ◌≤◌}
use native.Mathlib.Omega.{arith}
use lib.Dec.{T, eqb}
use lib.IntN.{ℤ, pos, negsuc, neg_ℤ, ◌+ℤ◌, +ℤ_idr}
use lib.Signed.{lt_z}
use lib.Ieee as Ieee
use lib.Ieee.{Float, fin, binary32, fits, of_bits, to_bits}
use lib.Ieee.Fits.{round-fits}
use lib.Ieee.Bits.{of_bits-to_bits}
use Rattle.words.specs.Words.{sort_of, steps_of, pad_sort, amplifier_sort}
use Rattle.levels.specs.declared.Levels.{Levels}
use Rattle.levels.specs.declared.Sort.TheVariants.{Joint, Pad, Amplifier}
use Rattle.levels.specs.Level.{level_of, sort_in, behind}
use Rattle.levels.specs.Sorts.{most_steps, gain_of}
use Rattle.levels.specs.SignalPaths.{lesser, greater, Extremes, merged}
use Rattle.levels.specs.Readings.{both_behind, raised, levels_of, together}
use Rattle.levels.proofs.Exact.{InRange, level_add, level_sub, level_lt, level_not_minus_zero}
use Rattle.levels.proofs.Extremes.{Both}

-- ---- behind a part
pub behind_exact : (w : ℕ) (z : ℤ) → InRange z → steps_of w ≤ most_steps → behind (level_of z) (sort_in w) ≡ level_of (z +ℤ gain_of w)
unfolding sort_in gain_of
behind_exact w z h s = go (eqb (sort_of w) pad_sort) (eqb (sort_of w) amplifier_sort)
  where
    own : InRange (pos (steps_of w))
    own = record { below = omega arith }

    go :
        (b c : Bool)
        → behind (level_of z) (cond b (Pad (level_of (pos (steps_of w)))) (cond c (Amplifier (level_of (pos (steps_of w)))) Joint))
        ≡ level_of (z +ℤ cond b (neg_ℤ (pos (steps_of w))) (cond c (pos (steps_of w)) (pos 0)))
    go true c = level_sub z (pos (steps_of w)) h own
    go false true = level_add z (pos (steps_of w)) h own
    go false false = ap level_of (sym (+ℤ_idr z))

abbrev pub pair : Float → Float → Levels
pair x y = record { least = x; greatest = y }

pub both_behind_exact : (w : ℕ) (e : Extremes) → Both InRange e → steps_of w ≤ most_steps → both_behind (levels_of e) (sort_in w) ≡ levels_of (raised e (gain_of w))
both_behind_exact w e h s = ap₂ pair (behind_exact w e.least h.least s) (behind_exact w e.greatest h.greatest s)

-- ---- the extremes of two
pick : (t : Bool) (a b : ℤ) → cond t (level_of a) (level_of b) ≡ level_of (cond t a b)
pick true a b = refl
pick false a b = refl

lesser_exact : (a b : ℤ) → InRange a → InRange b → cond (Ieee.lt (level_of b) (level_of a)) (level_of b) (level_of a) ≡ level_of (lesser a b)
unfolding lesser
lesser_exact a b h k = ap (λ (t : Bool). cond t (level_of b) (level_of a)) (level_lt b a k h) ∙ pick (lt_z b a) b a

greater_exact : (a b : ℤ) → InRange a → InRange b → cond (Ieee.lt (level_of a) (level_of b)) (level_of b) (level_of a) ≡ level_of (greater a b)
unfolding greater
greater_exact a b h k = ap (λ (t : Bool). cond t (level_of b) (level_of a)) (level_lt a b h k) ∙ pick (lt_z a b) b a

pub together_exact : (c d : Extremes) → Both InRange c → Both InRange d → together (levels_of c) (levels_of d) ≡ levels_of (merged c d)
unfolding merged
together_exact c d h k = ap₂ pair (lesser_exact c.least d.least h.least k.least) (greater_exact c.greatest d.greatest h.greatest k.greatest)

-- ---- 'zero is positive zero'
level_fits : (z : ℤ) → T (fits binary32 (level_of z))
unfolding level_of
level_fits (pos n) = round-fits binary32 false n 64
level_fits (negsuc n) = round-fits binary32 true _ 64

minus_zero : of_bits binary32 0x8000_0000 ≡ fin true 0 (pos 0)
unfolding of_bits
minus_zero = refl

pub level_bits : (z : ℤ) → InRange z → to_bits binary32 (level_of z) ≡ 0x8000_0000 → ⊥
level_bits z h e =
    level_not_minus_zero z (pos 0) h (sym (of_bits-to_bits binary32 (level_of z) (level_fits z)) ∙ ap (of_bits binary32) e ∙ minus_zero)
