-- The law of a course's length; each sum is at most the whole, which fits. Assumes nothing.
use Prim.Native.Nat.{ℕ, ◌+◌, ◌-◌, ◌<◌, ◌≤◌}
use native.Mathlib.Omega.{arith}
use mathlib.Core.Path.{◌≡◌, sym, ap₂, ◌∙◌}
use Rattle.std.specs.Int.{abs_diff}
use Rattle.words.specs.Limits.{most_field}
use Rattle.drawing.specs.Lengths as drawn
use Rattle.drawing.specs.Lengths.{line_length}
use Rattle.layout.specs.Points.{points_of}
use Rattle.placement.specs.Laid.{course_in}
use Rattle.layout.proofs.LineLengths.{rising_length}
use Rattle.measuring.proofs.lengths.line_length.Goals as goal
use Rattle.measuring.proofs.lengths.line_length.Goals.{After-abs_diff-4}

steps_are : (a b : ℕ) → abs_diff a b ≡ drawn.steps a b
unfolding drawn.steps
steps_are a b = omega arith

total :
    (c : After-abs_diff-4)
    → c.abs_diff.result + c.abs_diff-2.result + (c.abs_diff-3.result + (c.args.c.high - c.args.c.low) + c.abs_diff-4.result)
    ≡ line_length (points_of (course_in c.args.c))
total c =
    ap₂ (λ (x y : ℕ). x + y)
    (ap₂ (λ (x y : ℕ). x + y) (c.abs_diff.ensures ∙ steps_are _ _) (c.abs_diff-2.ensures ∙ steps_are _ _))
    (ap₂ (λ (x y : ℕ). x + (c.args.c.high - c.args.c.low) + y) (c.abs_diff-3.ensures ∙ steps_are _ _) (c.abs_diff-4.ensures ∙ steps_are _ _))
    ∙ sym (rising_length (course_in c.args.c) c.requires.rises)

small : (r l : ℕ) → r ≡ l → l ≤ most_field → r < 65536
small r l e h = omega arith

pub overflow_add-level : goal.overflow_add-level
unfolding drawn.steps
overflow_add-level c = omega (arith, rising_length (course_in c.args.c) c.requires.rises, c.requires.length)

pub overflow_add-upright : goal.overflow_add-upright
unfolding drawn.steps
overflow_add-upright c = omega (arith, rising_length (course_in c.args.c) c.requires.rises, c.requires.length)

pub overflow_add-upright-2 : goal.overflow_add-upright-2
unfolding drawn.steps
overflow_add-upright-2 c = omega (arith, rising_length (course_in c.args.c) c.requires.rises, c.requires.length)

pub overflow_add-result : goal.overflow_add-result
overflow_add-result c = record { fits = small _ _ (total (goal.at.overflow_add-result c).After-abs_diff-4) c.requires.length }

pub returns : goal.returns
returns c = total (goal.at.returns c).After-abs_diff-4
