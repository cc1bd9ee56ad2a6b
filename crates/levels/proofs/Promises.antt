-- The two floats of a part are as promised. Assumes nothing.
use mathlib.Core.Path.{◌≡◌, refl, sym, ap, ◌∙◌, subst}
use mathlib.Core.List.{List, [], ◌∷◌, ◌++◌}
use Prim.Native.Nat.{ℕ, ◌<◌}
use native.Mathlib.Omega.{arith}
use lib.Dec.{T}
use lib.IntN.{ℤ}
use lib.Signed.{◌≤ℤ◌}
use lib.ListN.{get_or}
use lib.Ieee.{Float}
use Rattle.station.specs.Station.{Station}
use Rattle.order.proofs.Bipolar.{Orderable}
use Rattle.levels.specs.Level.{level_of, sort_in, behind}
use Rattle.levels.specs.SignalPaths.{SignalPath, begin, climb, level_from, level_along, levels_at}
use Rattle.levels.specs.Readings.{RowFits}
use Rattle.levels.specs.Promises.{float_from, float_along, LevelsAt}
use Rattle.levels.proofs.Exact.{InRange, level_value, level_le, level_zero}
use Rattle.levels.proofs.SignalPaths.{along_behind, signal_inside}
use Rattle.levels.proofs.LeastGreatest.{levels_extremes}
use Rattle.levels.proofs.Bounds.{signal_range, levels_range}
use Rattle.levels.proofs.Floats.{behind_exact, level_bits}

-- ---- sums in f32, part by part
float_from_behind : (row : List ℕ) (x : Float) (parts : List ℕ) (p : ℕ) → float_from row x (parts ++ (p ∷ [])) ≡ behind (float_from row x parts) (sort_in (get_or row p 0))
unfolding float_from
float_from_behind row x [] p = refl
float_from_behind row x (q ∷ parts) p = float_from_behind row (behind x (sort_in (get_or row q 0))) parts p

float_behind : (row parts : List ℕ) (p : ℕ) → float_along row (parts ++ (p ∷ [])) ≡ behind (float_along row parts) (sort_in (get_or row p 0))
unfolding float_along
float_behind row parts p = float_from_behind row _ parts p

none_exact : (row : List ℕ) → float_along row [] ≡ level_of (level_along row [])
unfolding float_along float_from level_along level_from
none_exact row = level_zero

none_range : (row : List ℕ) → InRange (level_along row [])
unfolding level_along level_from
none_range row = record { below = omega arith }

module _ (st : Station) (H : Orderable st) (row : List ℕ) (F : RowFits st.parts row) where
  -- one part more
  one_more : (before : List ℕ) (p : ℕ) {parts : List ℕ} → p < st.parts → parts ≡ before ++ (p ∷ []) → InRange (level_along row before)
      → float_along row before ≡ level_of (level_along row before) → float_along row parts ≡ level_of (level_along row parts)
  one_more before p h e r s =
      ap (float_along row) e ∙ float_behind row before p ∙ ap (λ (x : Float). behind x (sort_in (get_or row p 0))) s
      ∙ behind_exact (get_or row p 0) (level_along row before) r (F.steps p h)
      ∙ ap level_of (sym (ap (level_along row) e ∙ along_behind row before p))

  -- 'All sums are exact'
  pub sum_exact : {p : ℕ} {parts : List ℕ} → SignalPath st p parts → float_along row parts ≡ level_of (level_along row parts)
  sum_exact {p} (begin e q) = one_more [] p (signal_inside st H (begin e q)) q (none_range row) (none_exact row)
  sum_exact {p} (climb q before r c e) = one_more before p (signal_inside st H (climb q before r c e)) e (signal_range st H row F r) (sum_exact r)

  pub levels_promised : (p : ℕ) → p < st.parts → LevelsAt st row p (level_of (levels_at st row p).least) (level_of (levels_at st row p).greatest)
  levels_promised p h =
      let R = levels_extremes st H row p h in
      let low = R.reached.least in
      let high = R.reached.greatest in
      let range = levels_range st H row F p h in
      record {
        lowest = low.0;
        highest = high.0;
        lowest_path = low.1;
        highest_path = high.1;
        least_is = ap level_of (sym low.2);
        greatest_is = ap level_of (sym high.2);
        all = λ parts r.
            let b = R.between parts r in
            let at = signal_range st H row F r in
            record {
              above = subst (λ (z : ℤ). z ≤ℤ level_along row parts) (sym low.2) b.above;
              under = subst (λ (z : ℤ). level_along row parts ≤ℤ z) (sym high.2) b.under;
              float_above = subst T (sym (level_le (levels_at st row p).least (level_along row parts) range.least at)) b.above.le;
              float_under = subst T (sym (level_le (level_along row parts) (levels_at st row p).greatest at range.greatest)) b.under.le;
              exact = level_value (level_along row parts) at;
              sum = sum_exact r;
            };
        least_zero = level_bits (levels_at st row p).least range.least;
        greatest_zero = level_bits (levels_at st row p).greatest range.greatest;
      }
