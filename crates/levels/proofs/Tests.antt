-- The sort of a word, and the tests of checks 17 and 18, from the facts that the code's branches leave. Assumes nothing.
use Prim.Native.Nat.{ℕ, ◌≤◌, ◌<◌}
use mathlib.Core.Path.{◌≡◌, ap}
use mathlib.Core.Bool.{true, false, not}
use native.Mathlib.Omega.{arith}
use borrow.Author.Tests.{eq-eqb, ne_eqb, lt-ltb, le-ltb}
use lib.Dec.{eqb}
use lib.IntN.{pos}
use lib.Ieee.{Float}
use Rattle.words.specs.Words.{kind_of, part_sort, sort_of, sort_spare_of, steps_of, joint_sort, pad_sort, amplifier_sort}
use Rattle.levels.specs.declared.Sort.TheVariants.{Joint, Pad, Amplifier}
use Rattle.levels.specs.Level.{level_of, sort_in}
use Rattle.levels.specs.Sorts.{most_steps, misformed, misnumbered}

module _ (w : ℕ) where
  -- ---- sorts
  module _ {x : Float} (e : x ≡ level_of (pos (steps_of w))) where
    pub pad_in : sort_of w ≡ pad_sort → Pad x ≡ sort_in w
    unfolding sort_in
    pad_in h = rw (eq-eqb (sort_of w) pad_sort h) (ap Pad e)

    pub amplifier_in : sort_of w ≡ amplifier_sort → Amplifier x ≡ sort_in w
    unfolding sort_in
    amplifier_in h = rw (ne_eqb (sort_of w) pad_sort (λ z. omega arith), eq-eqb (sort_of w) amplifier_sort h) (ap Amplifier e)

  pub joint_in : (sort_of w ≡ pad_sort → ⊥) → (sort_of w ≡ amplifier_sort → ⊥) → Joint ≡ sort_in w
  unfolding sort_in
  joint_in h k = rw (ne_eqb (sort_of w) pad_sort h, ne_eqb (sort_of w) amplifier_sort k)

  -- ---- 17
  pub misformed_kind : (kind_of w ≡ part_sort → ⊥) → true ≡ misformed w
  unfolding misformed
  misformed_kind h = rw (ne_eqb (kind_of w) part_sort h)

  pub misformed_sort : kind_of w ≡ part_sort → amplifier_sort < sort_of w → true ≡ misformed w
  unfolding misformed
  misformed_sort h k = rw (eq-eqb (kind_of w) part_sort h, lt-ltb amplifier_sort (sort_of w) k)

  pub misformed_spare : kind_of w ≡ part_sort → sort_of w ≤ amplifier_sort → not (eqb (sort_spare_of w) 0) ≡ misformed w
  unfolding misformed
  misformed_spare h k = rw (eq-eqb (kind_of w) part_sort h, le-ltb amplifier_sort (sort_of w) k)

  -- ---- 18
  pub numbered_above : most_steps < steps_of w → true ≡ misnumbered w
  unfolding misnumbered
  numbered_above h = rw (lt-ltb most_steps (steps_of w) h)

  pub numbered_joint : steps_of w ≤ most_steps → sort_of w ≡ joint_sort → not (eqb (steps_of w) 0) ≡ misnumbered w
  unfolding misnumbered
  numbered_joint h k = rw (le-ltb most_steps (steps_of w) h, eq-eqb (sort_of w) joint_sort k)

  pub numbered_right : steps_of w ≤ most_steps → (sort_of w ≡ joint_sort → ⊥) → false ≡ misnumbered w
  unfolding misnumbered
  numbered_right h k = rw (le-ltb most_steps (steps_of w) h, ne_eqb (sort_of w) joint_sort k)
