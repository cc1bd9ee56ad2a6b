-- A call by its answer, and what a call tells its caller. Assumes nothing.
use Rattle.checks.specs.declared.Fault.{Fault}
use Rattle.std.specs.Prelude.{Some, None, Option, Ok, Err}
use Prim.Native.Nat.{ℕ, ◌≤◌}
use mathlib.Core.Path.{◌≡◌, refl, sym, ◌∙◌, ap, ap₂, subst, subst₂}
use mathlib.Core.List.{List}
use native.Mathlib.Omega.{arith}
use lib.ListN.{length}
use Rattle.prices.specs.Discounts.{most_discount, check12}
use Rattle.prices.proofs.Discounts.{within, not_given}
use Rattle.station.specs.Station.{station_of}
use Rattle.checks.specs.Checks.{Clear, number_of}
use Rattle.order.specs.Checks.{all_checks}
use Rattle.order.proofs.Passed.{list_orderable}
use Rattle.drawing.specs.declared.spacing.Spacing.{Spacing}
use Rattle.drawing.specs.Spacing.{spaced, on_grid, check13, check14}
use Rattle.drawing.proofs.Spaced.{Spreads, spreads_pass, grid_passes}
use Rattle.hookup.specs.declared.Options.{Options}
use Rattle.hookup.specs.Options.{plain, quoted, spaced_with, spaced_by}
use Rattle.hookup.specs.Drawing.{drawing}
use Rattle.hookup.specs.Outcome.{Outcome, outcome}
use Rattle.checks.specs.Outcome.{sent_back, written}
use Rattle.hookup.proofs.Drawn.{most_words_for, grid_fits}
use Rattle.hookup.specs.Answer.{Answer, counts, refusal, reply_of, reply, Drew}
use mathlib.Core.Logic.{◌⊎◌, inl, inr}
use Rattle.exports.specs.Told.{Told}
use Rattle.exports.specs.Call.{most_words, most_quoted_words, Lent, lent, ToldSheet, Called}
use Rattle.exports.proofs.Bounds.{Refusal, refusal_bounded, sheet_words_lem}

-- Outcomes by their replies

sent_back_lem : (o : Outcome) {c p : ℕ} → refusal c p ≡ reply o → (fault : Fault) × (o ≡ sent_back fault p) × (number_of fault ≡ c)
sent_back_lem (written words x) e = let z : ◌≡◌ {A = ℕ} 0 1 = cc in absurd (omega arith)
sent_back_lem (sent_back fault place) {c} {p} e =
    let g : number_of fault ≡ c = cc in
    let h : place ≡ p = cc in
    (fault, ap (sent_back fault) h, g)

drawn_words :
    (options : Options) (list : List ℕ) (room : ℕ) (o : Outcome) {w k : ℕ} → outcome options list room ≡ o → counts w k ≡ reply o
    → (w ≤ room) × (w ≤ most_words_for options.discount)
drawn_words options list room (written words x) {w} {k} f e =
    let h : w ≡ length words = cc in
    let s = sheet_words_lem options list room f in
    (omega (arith, s.0), omega (arith, s.1))
drawn_words options list room (sent_back check place) f e = let z : ◌≡◌ {A = ℕ} 0 1 = cc in absurd (omega arith)

refused : {options : Options} {list : List ℕ} {room c p : ℕ} → refusal c p ≡ reply (outcome options list room) → Refusal options list room c p
refused {options} {list} {room} {p = p} e =
    let s = sent_back_lem (outcome options list room) e in
    subst (λ (k : ℕ). Refusal options list room k p) s.2 (refusal_bounded options list room s.1)

module _ {options : Options} {list before after : List ℕ} where
  -- Calls by their answers

  pub called : {given : Options} {answer : Answer} {numbers left : Lent} {result : ℕ} → given ≡ options → Drew given list before after answer
      → ToldSheet answer numbers left result → Called options list before after numbers left result
  called {answer = answer} e D T = record { answer = answer; drew = subst (λ (o : Options). Drew o list before after answer) e D; told = T }

  pub called_spaced : {given first : Options} {made spacing : Spacing} {answer : Answer} {numbers left : Lent} {result : ℕ} → given ≡ spaced_with made first → made ≡ spacing → first ≡ options
      → Drew given list before after answer → ToldSheet answer numbers left result → Called (spaced_with spacing options) list before after numbers left result
  called_spaced {answer = answer} e f g D T =
      record { answer = answer; drew = subst (λ (o : Options). Drew o list before after answer) (e ∙ ap₂ spaced_with f g) D; told = T }

  -- What a call tells

  -- a sheet, or what a refusal's number tells
  told_lem : {numbers left : Lent} (result : ℕ) → Called options list before after numbers left result → (result ≡ 0) ⊎ Refusal options list (length before) result left.place
  unfolding Told
  told_lem {numbers} {left} result C = go C.answer C.drew.replies C.told
    where
      go : (a : Answer) → reply_of a ≡ reply (outcome options list (length before)) → ToldSheet a numbers left result
          → (result ≡ 0) ⊎ Refusal options list (length before) result left.place
      go (Ok s) e T = inl T.0
      go (Err r) e T = inr (subst₂ (λ (k p : ℕ). Refusal options list (length before) k p) (sym T.0) (sym T.1) (refused e))

  pub result_most : {numbers left : Lent} (result : ℕ) → Called options list before after numbers left result → result ≤ 14
  result_most {left = left} result C = go (told_lem result C)
    where
      go : (result ≡ 0) ⊎ Refusal options list (length before) result left.place → result ≤ 14
      go (inl e) = omega (arith, e)
      go (inr R) = R.most

  never_11 :
      {numbers left : Lent} (result : ℕ) → most_words_for options.discount ≤ length before → Called options list before after numbers left result → result ≡ 11 → ⊥
  never_11 {left = left} result h C e = go (told_lem result C)
    where
      go : (result ≡ 0) ⊎ Refusal options list (length before) result left.place → ⊥
      go (inl f) = omega (arith, e, f)
      go (inr R) = omega (arith, R.eleven e, h)

  words_within : {numbers left : Lent} → Called options list before after numbers left 0 → (left.words ≤ length before) × (left.words ≤ most_words_for options.discount)
  unfolding Told
  words_within {numbers} {left} C = go C.answer C.drew.replies C.told
    where
      go : (a : Answer) → reply_of a ≡ reply (outcome options list (length before)) → ToldSheet a numbers left 0
          → (left.words ≤ length before) × (left.words ≤ most_words_for options.discount)
      go (Ok s) e T =
          let w = drawn_words options list (length before) (outcome options list (length before)) refl e in
          (omega (arith, w.0, T.2.0), omega (arith, w.1, T.2.0))
      go (Err r) e T = absurd (omega (arith, T.0, (refused e).least))

  -- 12, 13 and 14 tell that the check of the discount, of the spacing, of the drawing as it is spaced applies
  result_12 : {numbers left : Lent} (result : ℕ) → Called options list before after numbers left result → result ≡ 12 → check12 options.discount ≡ Some left.place
  result_12 {left = left} result C e = go (told_lem result C)
    where
      go : (result ≡ 0) ⊎ Refusal options list (length before) result left.place → check12 options.discount ≡ Some left.place
      go (inl f) = absurd (omega (arith, e, f))
      go (inr R) = R.twelve e

  result_13 : {numbers left : Lent} (result : ℕ) → Called options list before after numbers left result → result ≡ 13 → check13 options.spacing ≡ Some left.place
  result_13 {left = left} result C e = go (told_lem result C)
    where
      go : (result ≡ 0) ⊎ Refusal options list (length before) result left.place → check13 options.spacing ≡ Some left.place
      go (inl f) = absurd (omega (arith, e, f))
      go (inr R) = R.thirteen e

  result_14 :
      {numbers left : Lent} (result : ℕ) → Called options list before after numbers left result → result ≡ 14
      → Clear all_checks list × (check14 (spaced options.spacing (drawing (station_of list))) ≡ Some left.place)
  result_14 {left = left} result C e = go (told_lem result C)
    where
      go : (result ≡ 0) ⊎ Refusal options list (length before) result left.place
          → Clear all_checks list × (check14 (spaced options.spacing (drawing (station_of list))) ≡ Some left.place)
      go (inl f) = absurd (omega (arith, e, f))
      go (inr R) = R.fourteen e

  -- so that none of them comes where its check finds nothing
  never_12 : {numbers left : Lent} (result : ℕ) → check12 options.discount ≡ None → Called options list before after numbers left result → result ≡ 12 → ⊥
  never_12 result none C e = let g = sym none ∙ result_12 result C e in let z : ◌≡◌ {A = ℕ} 0 1 = cc in absurd (omega arith)

  never_13 : {numbers left : Lent} (result : ℕ) → check13 options.spacing ≡ None → Called options list before after numbers left result → result ≡ 13 → ⊥
  never_13 result none C e = let g = sym none ∙ result_13 result C e in let z : ◌≡◌ {A = ℕ} 0 1 = cc in absurd (omega arith)

-- on the grid every number fits
grid_never_14 :
    {discount : Option ℕ} {list before after : List ℕ} {numbers left : Lent} (result : ℕ)
    → Called (record { discount = discount; spacing = on_grid }) list before after numbers left result → result ≡ 14 → ⊥
grid_never_14 {discount} {list} result C e =
    let r = result_14 result C e in
    let g = sym (grid_fits (station_of list) (list_orderable list r.0)) ∙ r.1 in
    let z : ◌≡◌ {A = ℕ} 0 1 = cc in
    absurd (omega arith)

-- What each call never tells: 11 where the output has the words that suffice, 12 where no discount is given, or one of 10,000 at most, 13
-- where the pitches are 1 to 64 and the margin is 255 at most, and 13 and 14 where no spacing is given.
module _ {list before after : List ℕ} {numbers left : Lent} where
  pub plain_never_11 : (result : ℕ) → most_words ≤ length before → Called plain list before after numbers left result → result ≡ 11 → ⊥
  plain_never_11 result h C = never_11 result h C

  pub plain_most : (result : ℕ) → Called plain list before after numbers left result → result ≤ 11
  plain_most result C = most_11 result (result_most result C) (never_12 result not_given C) (never_13 result grid_passes C) (grid_never_14 result C)
    where
      most_11 : (k : ℕ) → k ≤ 14 → (k ≡ 12 → ⊥) → (k ≡ 13 → ⊥) → (k ≡ 14 → ⊥) → k ≤ 11
      most_11 k h a b c = omega arith

  pub plain_words : Called plain list before after numbers left 0 → (left.words ≤ length before) × (left.words ≤ most_words)
  plain_words C = words_within C

  module _ (discount : ℕ) where
    pub quoted_never_11 : (result : ℕ) → most_quoted_words ≤ length before → Called (quoted discount) list before after numbers left result → result ≡ 11 → ⊥
    quoted_never_11 result h C = never_11 result h C

    pub quoted_never_12 : (result : ℕ) → discount ≤ most_discount → Called (quoted discount) list before after numbers left result → result ≡ 12 → ⊥
    quoted_never_12 result h C = never_12 result (within discount h) C

    pub quoted_most : (result : ℕ) → Called (quoted discount) list before after numbers left result → result ≤ 12
    quoted_most result C = most_12 result (result_most result C) (never_13 result grid_passes C) (grid_never_14 result C)
      where
        most_12 : (k : ℕ) → k ≤ 14 → (k ≡ 13 → ⊥) → (k ≡ 14 → ⊥) → k ≤ 12
        most_12 k h a b = omega arith

    pub quoted_words_lem : Called (quoted discount) list before after numbers left 0 → (left.words ≤ length before) × (left.words ≤ most_quoted_words)
    quoted_words_lem C = words_within C

  module _ (spacing : Spacing) where
    pub spaced_never_11 : (result : ℕ) → most_words ≤ length before → Called (spaced_with spacing plain) list before after numbers left result → result ≡ 11 → ⊥
    spaced_never_11 result h C = never_11 result h C

    pub spaced_never_12 : (result : ℕ) → Called (spaced_with spacing plain) list before after numbers left result → result ≡ 12 → ⊥
    spaced_never_12 result C = never_12 result not_given C

    pub spaced_never_13 : (result : ℕ) → Spreads spacing → Called (spaced_with spacing plain) list before after numbers left result → result ≡ 13 → ⊥
    spaced_never_13 result P C = never_13 result (spreads_pass spacing P) C

    pub spaced_words : Called (spaced_with spacing plain) list before after numbers left 0 → (left.words ≤ length before) × (left.words ≤ most_words)
    spaced_words C = words_within C

    pub quoted_spaced_never_11 :
        (discount result : ℕ) → most_quoted_words ≤ length before → Called (spaced_with spacing (quoted discount)) list before after numbers left result → result ≡ 11 → ⊥
    quoted_spaced_never_11 discount result h C = never_11 result h C

    pub quoted_spaced_words :
        (discount : ℕ) → Called (spaced_with spacing (quoted discount)) list before after numbers left 0 → (left.words ≤ length before) × (left.words ≤ most_quoted_words)
    quoted_spaced_words discount C = words_within C

    pub quoted_spaced_never_13 :
        (discount result : ℕ) → Spreads spacing → Called (spaced_with spacing (quoted discount)) list before after numbers left result → result ≡ 13 → ⊥
    quoted_spaced_never_13 discount result P C = never_13 result (spreads_pass spacing P) C

  -- 'With pitches 1 and margin 0 .. the sheet is the one known so far'
  pub unspaced_call : (result : ℕ) → Called (spaced_by 1 1 0 plain) list before after numbers left result → Called plain list before after numbers left result
  unspaced_call result C = C

lent_same : (m n : Lent) → m.words ≡ n.words → m.crossings ≡ n.crossings → m.place ≡ n.place → m ≡ n
lent_same m n e f g = ap₂ (λ (w k : ℕ). lent w k m.place) e f ∙ ap (lent n.words n.crossings) g

-- What a call is given determines its result, the output and the numbers.
pub determined :
    {options : Options} {list before after last : List ℕ} {numbers m n : Lent} (r s : ℕ) → Called options list before after numbers m r
    → Called options list before last numbers n s → (r ≡ s) × (after ≡ last) × (m ≡ n)
unfolding Told
determined {options} {list} {before} {after} {last} {numbers} {m} {n} r s C D = go C.answer D.answer C.told D.told (C.drew.replies ∙ sym D.drew.replies)
  where
    output : after ≡ last
    output = C.drew.output ∙ sym D.drew.output

    go : (a b : Answer) → ToldSheet a numbers m r → ToldSheet b numbers n s → reply_of a ≡ reply_of b → (r ≡ s) × (after ≡ last) × (m ≡ n)
    go (Ok a) (Ok b) t u e =
        let w : a.words ≡ b.words = cc in
        let k : a.crossings ≡ b.crossings = cc in
        (t.0 ∙ sym u.0, output, lent_same m n (t.2.0 ∙ w ∙ sym u.2.0) (t.2.1 ∙ k ∙ sym u.2.1) (t.1 ∙ sym u.1))
    go (Ok a) (Err b) t u e = let z : ◌≡◌ {A = ℕ} 0 1 = cc in absurd (omega arith)
    go (Err a) (Ok b) t u e = let z : ◌≡◌ {A = ℕ} 0 1 = cc in absurd (omega arith)
    go (Err a) (Err b) t u e =
        let f : number_of a.fault ≡ number_of b.fault = cc in
        let p : a.place ≡ b.place = cc in
        (t.0 ∙ f ∙ sym u.0, output, lent_same m n (t.2.0 ∙ sym u.2.0) (t.2.1 ∙ sym u.2.1) (t.1 ∙ p ∙ sym u.1))
