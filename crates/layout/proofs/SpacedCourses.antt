-- A course as it is spaced: its points and corners are the grid's under the two maps. Assumes nothing.
use mathlib.Core.Path.{◌≡◌, refl, sym, ap, ap₂, ◌∙◌}
use mathlib.Core.Bool.{Bool, true, false, not}
use mathlib.Core.List.{List, [], ◌∷◌, map}
use Prim.Native.Nat.{ℕ, ◌-◌}
use lib.ListN.{length, take, drop, length-map}
use Rattle.lists.specs.Select.{cons_if}
use Rattle.lists.proofs.Maps.{map_take}
use Rattle.drawing.specs.declared.spacing.Spacing.{Spacing}
use Rattle.geometry.specs.Spots.{Spot, same_spot}
use Rattle.drawing.specs.Spacing.{spaced_spot}
use Rattle.drawing.proofs.Spaced.{Increases}
use Rattle.drawing.proofs.SpacedCrossings.{same_kept}
use Rattle.layout.specs.Points.{Course, turns, drop_repeats, points_of, inner, corners_of}
use Rattle.layout.specs.Courses.{spaced_course}

module _ (s : Spacing) where
  cons_spaced : (b : Bool) (p : Spot) (l : List Spot) → cons_if b (spaced_spot s p) (map (spaced_spot s) l) ≡ map (spaced_spot s) (cons_if b p l)
  cons_spaced true p l = refl
  cons_spaced false p l = refl

  turns_spaced : (c : Course) → turns (spaced_course s c) ≡ map (spaced_spot s) (turns c)
  unfolding turns spaced_course spaced_spot
  turns_spaced c = refl

  module _ (I : Increases s) where
    repeats_spaced : (l : List Spot) → drop_repeats (map (spaced_spot s) l) ≡ map (spaced_spot s) (drop_repeats l)
    unfolding drop_repeats
    repeats_spaced [] = refl
    repeats_spaced (p ∷ []) = refl
    repeats_spaced (p ∷ q ∷ r) =
        ap₂ (λ (b : Bool) (l : List Spot). cons_if (not b) (spaced_spot s p) l) (same_kept s I p q) (repeats_spaced (q ∷ r))
        ∙ cons_spaced (not (same_spot p q)) p (drop_repeats (q ∷ r))

    pub points_of_spaced : (c : Course) → points_of (spaced_course s c) ≡ map (spaced_spot s) (points_of c)
    unfolding points_of
    points_of_spaced c = ap drop_repeats (turns_spaced c) ∙ repeats_spaced (turns c)

    drop_spaced : (l : List Spot) → drop 1 (map (spaced_spot s) l) ≡ map (spaced_spot s) (drop 1 l)
    drop_spaced [] = refl
    drop_spaced (p ∷ l) = refl

    inner_spaced : (l : List Spot) → inner (map (spaced_spot s) l) ≡ map (spaced_spot s) (inner l)
    unfolding inner
    inner_spaced l =
        ap₂ (λ (n : ℕ) (k : List Spot). take (n - 2) k) (length-map l (spaced_spot s)) (drop_spaced l) ∙ sym (map_take (spaced_spot s) (length l - 2) (drop 1 l))

    pub corners_of_spaced : (c : Course) → corners_of (spaced_course s c) ≡ map (spaced_spot s) (corners_of c)
    unfolding corners_of
    corners_of_spaced c = ap inner (points_of_spaced c) ∙ inner_spaced (points_of c)
