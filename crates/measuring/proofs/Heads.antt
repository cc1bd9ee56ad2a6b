-- Check 14 by the larger of the two head fields. Assumes nothing.
use Rattle.std.specs.Prelude.{Some, None}
use Prim.Native.Nat.{ℕ, ◌<◌, ◌≤◌, max}
use mathlib.Core.Path.{◌≡◌, refl}
use borrow.Author.Tests.{lt-ltb, le-ltb}
use Rattle.words.specs.Limits.{most_field}
use Rattle.drawing.specs.Drawing.{Drawing}
use Rattle.measuring.specs.Heads.{head_check}

pub head_above : (d : Drawing) {k : ℕ} → k ≡ max d.width d.height → most_field < k → head_check d ≡ Some k
unfolding head_check
head_above d {k} e h = rw (← e, lt-ltb most_field k h) refl

pub head_within : (d : Drawing) {k : ℕ} → k ≡ max d.width d.height → k ≤ most_field → head_check d ≡ None
unfolding head_check
head_within d {k} e h = rw (← e, le-ltb most_field k h) refl
