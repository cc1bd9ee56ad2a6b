-- The look at a cable's end runs, case by case. Assumes nothing.
use Prim.Native.Nat.{ℕ, suc, ◌-◌, ◌<◌, ◌≤◌}
use native.Mathlib.Omega.{arith}
use mathlib.Core.Path.{◌≡◌, refl, sym, ◌∙◌}
use mathlib.Core.Bool.{Bool, true, false, and-false, and-true}
use mathlib.Core.List.{List, map}
use lib.ListN.{length, get_or, length-map, get_or-map}
use borrow.Author.Tests.{lt-ltb, le-ltb}
use Rattle.geometry.specs.Spots.{Spot}
use Rattle.geometry.specs.Lines.{point}
use Rattle.drawing.specs.Reading.{word_spot}
use Rattle.validation.specs.Alone.{runs_share, alternates}
use Rattle.validation.specs.Facing.{line_over, ends_share, faces_forward}
use Rattle.validation.proofs.Directions.{line_length_lem, corner_at, last_at}

-- The direction

module _ (p : Spot) (ws : List ℕ) (q : Spot) where
  pub few_corners : length ws < 2 → true ≡ faces_forward p (map word_spot ws) q
  unfolding faces_forward
  few_corners h = rw (length-map ws word_spot, lt-ltb (length ws) 2 h)

  -- the end runs of a line over two corners or more
  module _
      (more : 2 ≤ length ws) (a b : Spot) (e : a ≡ word_spot (get_or ws 0 0)) (f : b ≡ word_spot (get_or ws (length ws - 1) 0))
      (share : Bool) (g : share ≡ runs_share p a b q)
    where
      ends_seen : ends_share (line_over p (map word_spot ws) q) ≡ share
      unfolding ends_share point word_spot
      ends_seen =
          let cs = map word_spot ws in
          let m : length cs ≡ length ws = length-map ws word_spot in
          let n = line_length_lem p q cs in
          let k : length (line_over p cs q) - 2 ≡ suc (length ws - 1) = omega arith in
          let l : length (line_over p cs q) - 1 ≡ suc (length cs) = omega arith in
          let c : point (line_over p cs q) 1 ≡ a = corner_at p q cs 0 (omega arith) ∙ get_or-map word_spot ws 0 0 ∙ sym e in
          let d : point (line_over p cs q) (suc (length ws - 1)) ≡ b =
          corner_at p q cs (length ws - 1) (omega arith) ∙ get_or-map word_spot ws (length ws - 1) 0 ∙ sym f in
          let o = last_at p q cs (suc (length cs)) refl in
          rw (k, l, c, d, o, ← g)

      pub ends_meet : share ≡ true → false ≡ faces_forward p (map word_spot ws) q
      unfolding faces_forward
      ends_meet h =
          rw (length-map ws word_spot, le-ltb (length ws) 2 more, ends_seen, h)
          (sym (and-false (alternates (line_over p (map word_spot ws) q))))

      pub ends_apart : share ≡ false → (r : Bool) → r ≡ alternates (line_over p (map word_spot ws) q) → r ≡ faces_forward p (map word_spot ws) q
      unfolding faces_forward
      ends_apart h r i = rw (length-map ws word_spot, le-ltb (length ws) 2 more, ends_seen, h, ← i) (sym (and-true r))
