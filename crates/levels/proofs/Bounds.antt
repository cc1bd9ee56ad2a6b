-- How far levels go: each part adds at most 100 dB, and a route has no more parts than its rank and one. Assumes nothing.
use mathlib.Core.Path.{◌≡◌, refl, sym, ap, ◌∙◌, subst}
use mathlib.Core.Bool.{Bool, true, false, cond}
use mathlib.Core.List.{List, [], ◌∷◌}
use Prim.Native.Nat.{ℕ, zero, suc, ◌+◌, ◌-◌, ◌*◌, ◌≤◌, ◌<◌}
use native.Mathlib.Nat.{le_refl, le_trans}
use native.Mathlib.Omega.{arith}
use lib.Dec.{T, eqb, ltb, ltb→lt}
use lib.IntN.{ℤ, pos, negsuc, neg_ℤ, nat_abs, ◌+ℤ◌}
use lib.ListN.{get_or}
use Rattle.words.specs.Words.{sort_of, steps_of, pad_sort, amplifier_sort}
use Rattle.station.specs.Station.{Station}
use Rattle.order.specs.Order.{order, rank_in}
use Rattle.order.proofs.Bipolar.{Orderable}
use Rattle.order.proofs.Ranks.{rank_below}
use Rattle.levels.specs.Sorts.{most_steps, gain_of}
use Rattle.levels.specs.SignalPaths.{SignalPath, begin, climb, level_from, level_along, levels_at}
use Rattle.levels.specs.Readings.{RowFits}
use Rattle.levels.proofs.Exact.{InRange}
use Rattle.levels.proofs.Extremes.{Both}
use Rattle.levels.proofs.SignalPaths.{along_behind, signal_inside}
use Rattle.levels.proofs.LeastGreatest.{LevelTo, levels_extremes}

sub_abs : (a b : ℕ) (t : Bool) → (T t → a < suc b) → nat_abs (cond t (negsuc (suc b - suc a)) (pos (a - suc b))) ≤ a + suc b
sub_abs a b true h = let k : a < suc b = h tt in omega arith
sub_abs a b false h = omega arith

abs_add : (a b : ℤ) → nat_abs (a +ℤ b) ≤ nat_abs a + nat_abs b
abs_add (pos a) (pos b) = le_refl (a + b)
abs_add (pos a) (negsuc b) = sub_abs a b (ltb a (suc b)) (ltb→lt a (suc b))
abs_add (negsuc a) (pos b) = le_trans (sub_abs b a (ltb b (suc a)) (ltb→lt b (suc a))) turn
  where
    turn : b + suc a ≤ suc a + b
    turn = omega arith
abs_add (negsuc a) (negsuc b) = omega arith

neg_abs : (n : ℕ) → nat_abs (neg_ℤ (pos n)) ≡ n
neg_abs zero = refl
neg_abs (suc n) = refl

pub gain_abs : (w : ℕ) → nat_abs (gain_of w) ≤ steps_of w
unfolding gain_of
gain_abs w = go (eqb (sort_of w) pad_sort) (eqb (sort_of w) amplifier_sort)
  where
    go : (b c : Bool) → nat_abs (cond b (neg_ℤ (pos (steps_of w))) (cond c (pos (steps_of w)) (pos 0))) ≤ steps_of w
    go true c = omega (arith, neg_abs (steps_of w))
    go false true = omega arith
    go false false = omega arith

along_one : (row : List ℕ) (p : ℕ) → nat_abs (level_along row (p ∷ [])) ≤ nat_abs (gain_of (get_or row p 0))
unfolding level_along level_from
along_one row p = omega (arith, abs_add (pos 0) (gain_of (get_or row p 0)))

module _ (st : Station) (H : Orderable st) (row : List ℕ) (F : RowFits st.parts row) where
  signal_abs : {p : ℕ} {parts : List ℕ} → SignalPath st p parts → nat_abs (level_along row parts) ≤ rank_in (order st) p * most_steps + most_steps
  signal_abs {p} {parts} (begin e q) =
      let own : steps_of (get_or row p 0) ≤ most_steps = F.steps p (omega (arith, H.wired.source)) in
      subst (λ (l : List ℕ). nat_abs (level_along row l) ≤ rank_in (order st) p * most_steps + most_steps) (sym q)
      (omega (arith, along_one row p, gain_abs (get_or row p 0), own))
  signal_abs {p} {parts} (climb q before r c e) =
      let own : steps_of (get_or row p 0) ≤ most_steps = F.steps p (signal_inside st H (climb q before r c e)) in
      let below = signal_abs r in
      let sum : nat_abs (level_along row parts) ≤ nat_abs (level_along row before) + nat_abs (gain_of (get_or row p 0)) =
      subst (λ (z : ℤ). nat_abs z ≤ nat_abs (level_along row before) + nat_abs (gain_of (get_or row p 0))) (sym (ap (level_along row) e ∙ along_behind row before p))
      (abs_add (level_along row before) (gain_of (get_or row p 0))) in
      omega (arith, sum, below, gain_abs (get_or row p 0), own, c.higher)

  -- the level of every route is in the range of exact floats
  pub signal_range : {p : ℕ} {parts : List ℕ} → SignalPath st p parts → InRange (level_along row parts)
  signal_range {p} r = record { below = omega (arith, signal_abs r, rank_below st H p (signal_inside st H r), H.wired.most) }

  pub levels_range : (p : ℕ) → p < st.parts → Both InRange (levels_at st row p)
  levels_range p h =
      let R = (levels_extremes st H row p h).reached in
      record { least = at R.least; greatest = at R.greatest }
    where
      at : {z : ℤ} → LevelTo st row p z → InRange z
      at t = subst (λ (y : ℤ). InRange y) t.2 (signal_range t.1)
