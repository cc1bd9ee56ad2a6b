-- What is read off words fits their fields, whatever the words. Assumes nothing.
use Prim.Native.Nat.{ℕ, zero, suc, ◌+◌, ◌<◌}
use native.Mathlib.Omega.{arith}
use mathlib.Core.Path.{◌≡◌, refl, sym, subst}
use mathlib.Core.List.{List, [], ◌∷◌, map}
use lib.ListN.{length, get_or, take, drop, length-map, length-take}
use Rattle.lists.proofs.Select.{get_d_map}
use Rattle.words.specs.Words.{second_of}
use Rattle.geometry.specs.Spots.{Spot, origin}
use Rattle.drawing.specs.Drawing.{no_route}
use Rattle.drawing.specs.Reading.{Endpoints, no_endpoints, word_spot, routes_in, drawing_in}
use Rattle.drawing.proofs.ReadBack.{SpotFits, AllFit, RouteFits, DrawingFits}
use Rattle.validation.proofs.Following.{each_route}

spot_fits : (w : ℕ) → SpotFits (word_spot w)
unfolding word_spot
spot_fits w = record { x_fits = omega arith; y_fits = omega arith }

spots_fit : (words : List ℕ) → AllFit (map word_spot words)
spots_fit words k h =
    subst (λ (s : Spot). SpotFits s) (sym (get_d_map word_spot words k 0 origin (omega (arith, length-map words word_spot))))
    (spot_fits (get_or words k 0))

routes_fit :
    (es : List Endpoints) (words : List ℕ) (i : ℕ) → i < length es → RouteFits (get_or es i no_endpoints) (get_or (routes_in es words) i no_route)
unfolding routes_in
routes_fit [] words i h = absurd (omega arith)
routes_fit (e ∷ es) words zero h =
    let k : ℕ = second_of (get_or words 0 0) in
    record {
      first_is = refl;
      last_is = refl;
      few = omega (arith, length-map (take k (drop 1 words)) word_spot, length-take k (drop 1 words));
      corners_fit = spots_fit (take k (drop 1 words));
    }
routes_fit (e ∷ es) words (suc i) h = routes_fit es (drop (second_of (get_or words 0 0) + 1) words) i (omega arith)

-- a drawing that is read with all its parts
pub read_fits :
    (n : ℕ) (ends : List Endpoints) (sheet : List ℕ) → length (drawing_in n ends sheet).parts ≡ n
    → DrawingFits n ends (drawing_in n ends sheet)
unfolding drawing_in
read_fits n ends sheet all = record {
  width_fits = omega arith;
  height_fits = omega arith;
  parts_count = all;
  parts_fit = spots_fit (take n (drop 1 sheet));
  routes_count = each_route ends (drop (1 + n) sheet);
  routes_fit = routes_fit ends (drop (1 + n) sheet);
}
