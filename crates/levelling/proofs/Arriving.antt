-- The bundles of routes that arrive at a part, put together in floats as in counts. Assumes nothing.
use Prim.Native.Nat.{ℕ}
use mathlib.Core.Path.{◌≡◌, refl, ap, ◌∙◌}
use mathlib.Core.List.{List, [], ◌∷◌, map, Memᴰ}
use lib.IntN.{pos}
use Rattle.std.specs.List.{fold, reduce}
use Rattle.std.specs.Option.{unwrap_or}
use Rattle.levels.specs.declared.Levels.{Levels}
use Rattle.levels.specs.SignalPaths.{Extremes, only, merged, merged_from, extremes_of}
use Rattle.levels.specs.Readings.{levels_of, together}
use Rattle.levels.proofs.Exact.{InRange}
use Rattle.levels.proofs.Extremes.{Both, merged_both}
use Rattle.levels.proofs.Floats.{together_exact}

module _ (f : ℕ → Levels) (c : ℕ → Extremes) where
  from_exact : (t : Extremes) (js : List ℕ) → Both InRange t → ((j : ℕ) → Memᴰ j js → Both InRange (c j)) → ((j : ℕ) → Memᴰ j js → f j ≡ levels_of (c j))
      → fold together (levels_of t) (map f js) ≡ levels_of (merged_from t (map c js))
  unfolding merged_from
  from_exact t [] r h e = refl
  from_exact t (j ∷ js) r h e =
      ap (λ (x : Levels). fold together x (map f js))
      (ap (together (levels_of t)) (e j (Memᴰ.head refl)) ∙ together_exact t (c j) r (h j (Memᴰ.head refl)))
      ∙ from_exact (merged t (c j)) js (merged_both InRange t (c j) r (h j (Memᴰ.head refl))) (λ i m. h i (Memᴰ.tail m)) (λ i m. e i (Memᴰ.tail m))

  pub arriving_exact : (js : List ℕ) → ((j : ℕ) → Memᴰ j js → Both InRange (c j)) → ((j : ℕ) → Memᴰ j js → f j ≡ levels_of (c j))
      → unwrap_or (reduce together (map f js)) (levels_of (only (pos 0))) ≡ levels_of (extremes_of (map c js))
  unfolding extremes_of
  arriving_exact [] h e = refl
  arriving_exact (j ∷ js) h e =
      ap (λ (x : Levels). fold together x (map f js)) (e j (Memᴰ.head refl))
      ∙ from_exact (c j) js (h j (Memᴰ.head refl)) (λ i m. h i (Memᴰ.tail m)) (λ i m. e i (Memᴰ.tail m))
