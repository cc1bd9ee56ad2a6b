-- What makes an answer right: a refusal by a check of the list or of the second row, an output too short, levels that are written; and
-- which refusals there are. Assumes nothing.
use Rattle.checks.specs.declared.Fault.{Fault}
use Rattle.std.specs.Prelude.{Ok, Err}
use Prim.Native.Nat.{ℕ, zero, suc, ◌+◌, ◌*◌, ◌<◌, ◌≤◌}
use native.Mathlib.Omega.{arith}
use mathlib.Core.Path.{◌≡◌, refl, sym, ap, ◌∙◌, subst}
use mathlib.Core.Logic.{◌⊎◌, inl, inr}
use mathlib.Core.Bool.{Bool, true, false, cond}
use mathlib.Core.List.Memᴰ
use mathlib.Core.List.{List, [], ◌∷◌, ◌++◌, map, Memᴰ}
use lib.IntN.{pos}
use lib.ListN.{length, get_or, drop, get_or-append}
use lib.Ieee.{Float, nan}
use lib.Dec.{ltb}
use borrow.Author.Tests.{ltb-true}
use Rattle.words.specs.Limits.{most_parts}
use Rattle.lists.specs.Select.{up_from, tabulate}
use Rattle.lists.proofs.Select.{up_from_e, length_tabulate, get_d_tabulate}
use Rattle.checks.specs.declared.Fault.TheVariants as faults
use Rattle.checks.specs.Checks.{Check, first_refusal, Clear, Verdict, number_of, refused}
use Rattle.checks.proofs.FirstRefusal.{refused_number}
use Rattle.checks.specs.Outcome.{Outcome, written, sent_back, fitted, if_passed, row_after}
use Rattle.checks.proofs.Outcome.{verdict_refused, verdict_passed, fitted_short, fitted_whole, sent_fault, sent_place}
use Rattle.station.specs.Station.{Station, station_of}
use Rattle.station.proofs.Numbers.{Numbered, without_7}
use Rattle.order.proofs.Passed.{list_orderable, list_wired}
use Rattle.levels.specs.Level.{level_of}
use Rattle.levels.specs.SignalPaths.{Extremes, only, levels_at}
use Rattle.levels.specs.Promises.{LevelsAt}
use Rattle.levels.specs.Outcome.{in_floats, level_floats, level_checks, levels_outcome, answer_to, FindsLevels}
use Rattle.levels.proofs.Computing.{levels_computing}
use Rattle.levels.proofs.RowChecks.{passed_all, passed_fits}
use Rattle.levels.proofs.Promises.{levels_promised}

-- ---- the row of floats
in_floats_length : (es : List Extremes) → length (in_floats es) ≡ 2 * length es
unfolding in_floats
in_floats_length [] = refl
in_floats_length (e ∷ es) = omega (arith, in_floats_length es)

in_floats_at : (es : List Extremes) (d : Extremes) (p : ℕ) → p < length es
    → (get_or (in_floats es) (2 * p) nan ≡ level_of (get_or es p d).least) × (get_or (in_floats es) (2 * p + 1) nan ≡ level_of (get_or es p d).greatest)
unfolding in_floats
in_floats_at [] d p h = absurd (omega arith)
in_floats_at (e ∷ es) d zero h = (refl, refl)
in_floats_at (e ∷ es) d (suc p) h =
    let t = in_floats_at es d p (omega arith) in
    let a : 2 * suc p ≡ suc (suc (2 * p)) = omega arith in
    let b : 2 * suc p + 1 ≡ suc (suc (2 * p + 1)) = omega arith in (
      ap (λ (i : ℕ). get_or (level_of e.least ∷ level_of e.greatest ∷ in_floats es) i nan) a ∙ t.0,
      ap (λ (i : ℕ). get_or (level_of e.least ∷ level_of e.greatest ∷ in_floats es) i nan) b ∙ t.1,
    )

module _ (st : Station) (row : List ℕ) where
  -- '2n floats'
  pub floats_length : length (level_floats st row) ≡ 2 * st.parts
  unfolding level_floats
  floats_length = omega (arith, in_floats_length (tabulate st.parts (levels_at st row)), length_tabulate st.parts (levels_at st row))

  -- 'by part number, the least before the greatest'
  pub floats_at : (p : ℕ) → p < st.parts
      → (get_or (level_floats st row) (2 * p) nan ≡ level_of (levels_at st row p).least) × (get_or (level_floats st row) (2 * p + 1) nan ≡ level_of (levels_at st row p).greatest)
  unfolding level_floats
  floats_at p h =
      let t = in_floats_at (tabulate st.parts (levels_at st row)) (only (pos 0)) p (omega (arith, length_tabulate st.parts (levels_at st row))) in
      let e = get_d_tabulate st.parts (levels_at st row) p (only (pos 0)) h in
      (t.0 ∙ ap (λ (x : Extremes). level_of x.least) e, t.1 ∙ ap (λ (x : Extremes). level_of x.greatest) e)

-- ---- answers
module _ (list row : List ℕ) (before : List Float) where
  abbrev st : Station
  st = station_of list

  turned_away : (c : Fault) (p : ℕ) → levels_outcome list row (length before) ≡ sent_back c p → FindsLevels list row before before (refused c p)
  turned_away c p e = record {
    answers = sym (ap answer_to e);
    output = sym (ap (λ (o : Outcome Float ℕ). row_after o before) e);
    levels = λ floats f. let z : ◌≡◌ {A = ℕ} 0 1 = cc in absurd (omega arith);
  }

  pub levels_refused : (c : Fault) (p : ℕ) → first_refusal (level_checks row) list ≡ refused c p → FindsLevels list row before before (refused c p)
  unfolding levels_outcome
  levels_refused c p e = turned_away c p (verdict_refused (fitted (level_floats st row) (length (level_floats st row)) (length before)) e)

  module _ (pass : Clear (level_checks row) list) where
    pub levels_short : length before < 2 * st.parts → FindsLevels list row before before (refused faults.OutputTooShort (2 * st.parts))
    unfolding levels_outcome
    levels_short h =
        turned_away faults.OutputTooShort (2 * st.parts)
        (verdict_passed (fitted (level_floats st row) (length (level_floats st row)) (length before)) pass
        ∙ fitted_short (level_floats st row) (length (level_floats st row)) (length before) (omega (arith, floats_length st row))
        ∙ ap (sent_back faults.OutputTooShort) (floats_length st row))

    pub levels_written : (out : List Float) → 2 * st.parts ≤ length before → out ≡ level_floats st row
        → FindsLevels list row before (out ++ drop (2 * st.parts) before) (Ok (2 * st.parts))
    unfolding levels_outcome
    levels_written out h e =
        rw (e, sym (floats_length st row)) (record {
          answers = sym (ap answer_to whole);
          output = sym (ap (λ (o : Outcome Float ℕ). row_after o before) whole);
          levels = λ floats f p g. at p g;
        })
      where
        whole : levels_outcome list row (length before) ≡ written (level_floats st row) (length (level_floats st row))
        whole =
            verdict_passed (fitted (level_floats st row) (length (level_floats st row)) (length before)) pass
            ∙ fitted_whole (level_floats st row) (length (level_floats st row)) (length before) (omega (arith, floats_length st row))

        behind : List Float
        behind = drop (length (level_floats st row)) before

        at : (p : ℕ) → p < st.parts → LevelsAt st row p (get_or (level_floats st row ++ behind) (2 * p) nan) (get_or (level_floats st row ++ behind) (2 * p + 1) nan)
        at p g =
            let t = floats_at st row p g in
            subst (λ (x : Float). LevelsAt st row p x (get_or (level_floats st row ++ behind) (2 * p + 1) nan)) (sym (get_or-append (level_floats st row) behind nan (2 * p) (omega (arith, floats_length st row)) ∙ t.0))
            (subst (λ (y : Float). LevelsAt st row p (level_of (levels_at st row p).least) y) (sym (get_or-append (level_floats st row) behind nan (2 * p + 1) (omega (arith, floats_length st row)) ∙ t.1))
            (levels_promised st (list_orderable list (passed_all list row pass)) row (passed_fits list row pass) p g))

-- ---- refusals

-- the numbers of the checks of a list and of a second row: 1 to 6, 8 to 10, 17 and 18
abbrev pub RowNumbered : ℕ → Type 0
RowNumbered check = Numbered 10 check ⊎ ((17 ≤ check) × (check ≤ 18))

numbers : (row : List ℕ) → map (λ (c : Check). number_of c.fault) (level_checks row) ≡ (up_from 1 6 ++ up_from 8 3) ++ (up_from 17 1 ++ up_from 17 2)
unfolding levels_computing
numbers row = refl

refusal_number : (list row : List ℕ) {check : Fault} {place : ℕ} → first_refusal (level_checks row) list ≡ refused check place → RowNumbered (number_of check)
refusal_number list row {check} e = go (Memᴰ.append_cases (up_from 1 6 ++ up_from 8 3) {t = up_from 17 1 ++ up_from 17 2} (subst (Memᴰ (number_of check)) (numbers row) (refused_number list (level_checks row) e)))
  where
    of : (k : ℕ) → k ≤ 2 → Memᴰ (number_of check) (up_from 17 k) → RowNumbered (number_of check)
    of k h m = let b = up_from_e 17 k m in inr (b.0, omega (arith, b.1))

    last : Memᴰ (number_of check) (up_from 17 1) ⊎ Memᴰ (number_of check) (up_from 17 2) → RowNumbered (number_of check)
    last (inl m) = of 1 (omega arith) m
    last (inr m) = of 2 (omega arith) m

    go : Memᴰ (number_of check) (up_from 1 6 ++ up_from 8 3) ⊎ Memᴰ (number_of check) (up_from 17 1 ++ up_from 17 2) → RowNumbered (number_of check)
    go (inl m) = inl (without_7 3 m)
    go (inr m) = last (Memᴰ.append_cases (up_from 17 1) {t = up_from 17 2} m)

-- 11, where all checks pass: 'then 11, with place 2n, where the row lent for the 2n floats is shorter'
pub record TooFew (list row : List ℕ) (room : ℕ) (check : Fault) (place : ℕ) : Type 0 where
  pub eleven : check ≡ faults.OutputTooShort
  pub passes : Clear (level_checks row) list
  pub below : room < place
  pub due : place ≡ 2 * (station_of list).parts

pub levels_refusals : (list row : List ℕ) (room : ℕ) {check : Fault} {place : ℕ} → levels_outcome list row room ≡ sent_back check place → RowNumbered (number_of check) ⊎ TooFew list row room check place
unfolding levels_outcome if_passed fitted
levels_refusals list row room {check} {place} e = go (first_refusal (level_checks row) list) refl e
  where
    all : List Float
    all = level_floats (station_of list) row

    short : Clear (level_checks row) list → (b : Bool) → ltb room (length all) ≡ b
        → ◌≡◌ {A = Outcome Float ℕ} (cond b (sent_back faults.OutputTooShort (length all)) (written all (length all))) (sent_back check place) → RowNumbered (number_of check) ⊎ TooFew list row room check place
    short pass true t f =
        let h : length all ≡ place = sent_place f in
        let g : faults.OutputTooShort ≡ check = sent_fault f in
        inr (record { eleven = sym g; passes = pass; below = omega (arith, ltb-true room (length all) t); due = sym h ∙ floats_length (station_of list) row })
    short pass false t f = let z : ◌≡◌ {A = ℕ} 0 1 = cc in absurd (omega arith)

    go : (v : Verdict) → first_refusal (level_checks row) list ≡ v → if_passed v (fitted all (length all) room) ≡ sent_back check place → RowNumbered (number_of check) ⊎ TooFew list row room check place
    go (Ok u) f g = short f (ltb room (length all)) refl g
    go (Err r) f g = let h : r.fault ≡ check = sent_fault g in inl (rw h at (refusal_number list row f))

-- an output of 2 * 512 floats is long enough
pub most_suffices : (list row : List ℕ) (room place : ℕ) → 2 * most_parts ≤ room → levels_outcome list row room ≡ sent_back faults.OutputTooShort place → ⊥
most_suffices list row room place h e = go (levels_refusals list row room e)
  where
    go : RowNumbered 11 ⊎ TooFew list row room faults.OutputTooShort place → ⊥
    go (inl (inl n)) = omega (arith, n.most)
    go (inl (inr n)) = omega (arith, n.0)
    go (inr t) = omega (arith, t.below, t.due, (list_wired list (passed_all list row t.passes)).most)
