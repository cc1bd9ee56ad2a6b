-- What the checks of an operation say, from those of the list and of the list with the new cable. Assumes nothing.
use Rattle.checks.specs.declared.Fault.{Fault}
use Rattle.std.specs.Prelude.{Option, Some, None}
use Prim.Native.Nat.{ℕ, ◌+◌, ◌<◌, ◌≤◌}
use native.Mathlib.Omega.{arith}
use native.Mathlib.Decide.{dec_lt}
use mathlib.Core.Path.{◌≡◌, refl, sym, ap, ◌∙◌}
use mathlib.Core.Bool.{Bool, true, false, ◌||◌, or-true}
use mathlib.Core.List.{List, [], ◌∷◌, Memᴰ}
use borrow.Author.Tests.{ltb-false, lt-ltb, le-ltb, le-leb, lt-leb, eq-eqb, ne_eqb}
use lib.ListN.{length, get_or}
use lib.Dec.{ltb, leb}
use Rattle.lists.specs.Select.{filter}
use Rattle.lists.proofs.Bools.{or_fails}
use Rattle.words.specs.Words.{parts_of}
use Rattle.words.specs.Limits.{most_field}
use Rattle.checks.specs.declared.Fault.TheVariants as faults
use Rattle.checks.specs.Checks.{or_else, first_refusal, Clear, at_when, made_on, passed, refused, number_of}
use Rattle.station.specs.Checks.{check5, check6, check8, outside, list_checks}
use Rattle.station.specs.Code.{up_to}
use Rattle.checks.proofs.FirstRefusal.{rest_decides, first_found, refused_before, refused_number, clear_rest, clear_more, clear_each, at_when_nothing, made_on_lem, same_fault}
use Rattle.editor.specs.Rows.{present, list_in, longer}
use Rattle.editor.specs.Checks.{row_checks, beyond_field, cable_checks, check16, new_checks}
use Rattle.editor.proofs.Tests.{first_is, second_is}
use Rattle.editor.proofs.Longer.{due, between, form_clear, five_last, six_last}

pub row_verdict : (row : List ℕ) → first_refusal row_checks row ≡ first_refusal list_checks (list_in row)
unfolding row_checks
row_verdict row = made_on_lem list_in list_checks row

module _ (list : List ℕ) (C : Clear list_checks list) (one other : ℕ) where
  -- a part number too large for its field
  too_large_lem : (ltb most_field one || ltb most_field other) ≡ true → first_refusal (cable_checks one other) list ≡ refused faults.PartOutside (length list)
  unfolding cable_checks first_refusal or_else beyond_field at_when present
  too_large_lem e = rw (e, due list C)

  -- both have room: the longer list decides
  list_decides : one ≤ most_field → other ≤ most_field → first_refusal (cable_checks one other) list ≡ first_refusal list_checks (longer one other list)
  unfolding cable_checks first_refusal or_else beyond_field at_when
  list_decides a b = rw (le-ltb most_field one a, le-ltb most_field other b) (made_on_lem (longer one other) list_checks list)

  -- of the longer list only these can apply
  late : one ≤ most_field → other ≤ most_field → {check : Fault} {place : ℕ} → first_refusal list_checks (longer one other list) ≡ refused check place → Memᴰ (number_of check) (5 ∷ 6 ∷ 8 ∷ [])
  unfolding list_checks filter
  late a b e =
      refused_number (longer one other list) (record { fault = faults.PartOutside; finds = check5 } ∷ record { fault = faults.SelfLoop; finds = check6 } ∷ record { fault = faults.CrowdedPart; finds = check8 } ∷ [])
      (sym (rest_decides (longer one other list) (up_to 4) _ (form_clear list C one other a b)) ∙ e)

  -- where the longer list has a part number n or more
  five_found : (a : one ≤ most_field) (b : other ≤ most_field) → (leb (parts_of (get_or list 0 0)) one || leb (parts_of (get_or list 0 0)) other) ≡ true
      → first_refusal list_checks (longer one other list) ≡ refused faults.PartOutside (length list)
  unfolding list_checks filter outside at_when
  five_found a b e =
      first_found (longer one other list) (up_to 4) (record { fault = faults.PartOutside; finds = check5 }) _ (length list) (form_clear list C one other a b)
      (five_last list C one other a b ∙ rw (first_is one other a b, second_is one other a b, e))

  -- 5: a part number n or more, too large for its field or not
  pub refused_5 : (leb (parts_of (get_or list 0 0)) one || leb (parts_of (get_or list 0 0)) other) ≡ true → first_refusal (cable_checks one other) list ≡ refused faults.PartOutside (length list)
  refused_5 e = go (ltb most_field one || ltb most_field other) refl
    where
      go : (b : Bool) → (ltb most_field one || ltb most_field other) ≡ b → first_refusal (cable_checks one other) list ≡ refused faults.PartOutside (length list)
      go true z = too_large_lem z
      go false z =
          let s = or_fails (ltb most_field one) (ltb most_field other) z in
          let a = ltb-false most_field one s.0 in
          let b = ltb-false most_field other s.1 in
          list_decides a b ∙ five_found a b e

  module _ (h : one < parts_of (get_or list 0 0)) (k : other < parts_of (get_or list 0 0)) where
    small_one : one ≤ most_field
    small_one = omega (arith, (between list C).1)

    small_other : other ≤ most_field
    small_other = omega (arith, (between list C).1)

    clear_5 : Clear (up_to 5) (longer one other list)
    unfolding list_checks filter outside at_when
    clear_5 =
        clear_more (longer one other list) (up_to 4) (record { fault = faults.PartOutside; finds = check5 }) (form_clear list C one other small_one small_other)
        (five_last list C one other small_one small_other
        ∙ rw (first_is one other small_one small_other, second_is one other small_one small_other, lt-leb (parts_of (get_or list 0 0)) one h, lt-leb (parts_of (get_or list 0 0)) other k))

    pub refused_6 : one ≡ other → first_refusal (cable_checks one other) list ≡ refused faults.SelfLoop (length list)
    unfolding list_checks filter at_when
    refused_6 e =
        list_decides small_one small_other
        ∙ first_found (longer one other list) (up_to 5) (record { fault = faults.SelfLoop; finds = check6 }) _ (length list) clear_5 (six_last list C one other small_one small_other ∙ rw (eq-eqb one other e))

    module _ (differ : one ≡ other → ⊥) where
      clear_6 : Clear (up_to 6) (longer one other list)
      unfolding list_checks filter at_when
      clear_6 =
          clear_more (longer one other list) (up_to 5) (record { fault = faults.SelfLoop; finds = check6 }) clear_5 (six_last list C one other small_one small_other ∙ rw (ne_eqb one other differ))

      pub refused_8 : (p : ℕ) → check8 (longer one other list) ≡ Some p → first_refusal (cable_checks one other) list ≡ refused faults.CrowdedPart p
      unfolding list_checks filter
      refused_8 p e = list_decides small_one small_other ∙ first_found (longer one other list) (up_to 6) (record { fault = faults.CrowdedPart; finds = check8 }) [] p clear_6 e

      pub all_passed : check8 (longer one other list) ≡ None → first_refusal (cable_checks one other) list ≡ passed
      unfolding list_checks filter
      all_passed e = list_decides small_one small_other ∙ clear_more (longer one other list) (up_to 6) (record { fault = faults.CrowdedPart; finds = check8 }) clear_6 e

      -- so that what check 8 finds decides
      pub crowded_decides : {found : Option ℕ} → found ≡ check8 (longer one other list) → or_else faults.CrowdedPart found passed ≡ first_refusal (cable_checks one other) list
      unfolding or_else
      crowded_decides {found} e = go found refl
        where
          go : (f : Option ℕ) → found ≡ f → or_else faults.CrowdedPart found passed ≡ first_refusal (cable_checks one other) list
          go (Some p) q = rw q (sym (refused_8 p (sym e ∙ q)))
          go None q = rw q (sym (all_passed (sym e ∙ q)))

-- where they find nothing: both numbers fit their fields, and the longer list passes
pub cable_fits : (one other : ℕ) (list : List ℕ) → Clear (cable_checks one other) list → (one ≤ most_field) × (other ≤ most_field) × Clear list_checks (longer one other list)
unfolding cable_checks beyond_field
cable_fits one other list D =
    let small = or_fails (ltb most_field one) (ltb most_field other) (at_when_nothing _ _ (clear_each list (cable_checks one other) D (Memᴰ.head refl))) in (
      ltb-false most_field one small.0,
      ltb-false most_field other small.1,
      sym (made_on_lem (longer one other) list_checks list) ∙ clear_rest list (record { fault = faults.PartOutside; finds = beyond_field one other } ∷ []) (made_on (longer one other) list_checks) D,
    )

-- ---- the new cable's checks on a row whose list passes
module _ (one other : ℕ) (row : List ℕ) where
  pub cable_refused : (check : Fault) (place : ℕ) → first_refusal (cable_checks one other) (list_in row) ≡ refused check place → first_refusal (new_checks one other) row ≡ refused check place
  unfolding new_checks
  cable_refused check place e =
      refused_before row (made_on list_in (cable_checks one other)) (record { fault = faults.RowFull; finds = check16 } ∷ []) check place (made_on_lem list_in (cable_checks one other) row ∙ e)

  module _ (C : Clear (cable_checks one other) (list_in row)) where
    pub no_room : length row ≤ present row + 2 → first_refusal (new_checks one other) row ≡ refused faults.RowFull (length row)
    unfolding new_checks check16 at_when
    no_room h =
        first_found row (made_on list_in (cable_checks one other)) (record { fault = faults.RowFull; finds = check16 }) [] (length row) (made_on_lem list_in (cable_checks one other) row ∙ C)
        (rw (le-leb (length row) (present row + 2) h))

    pub new_passed : present row + 2 < length row → first_refusal (new_checks one other) row ≡ passed
    unfolding new_checks check16 at_when
    new_passed h =
        clear_more row (made_on list_in (cable_checks one other)) (record { fault = faults.RowFull; finds = check16 }) (made_on_lem list_in (cable_checks one other) row ∙ C)
        (rw (lt-leb (length row) (present row + 2) h))

-- ---- 'the refusal among 5 to 8 that the longer list would get'; 7 'no longer occurs' (2026-12)
pub among_5_6_8 : (list : List ℕ) → Clear list_checks list → (one other : ℕ) {check : Fault} {place : ℕ} → first_refusal (cable_checks one other) list ≡ refused check place → Memᴰ (number_of check) (5 ∷ 6 ∷ 8 ∷ [])
among_5_6_8 list C one other {check} {place} e = go (dec_lt most_field one) (dec_lt most_field other)
  where
    five : first_refusal (cable_checks one other) list ≡ refused faults.PartOutside (length list) → Memᴰ (number_of check) (5 ∷ 6 ∷ 8 ∷ [])
    five f = Memᴰ.head (ap number_of (same_fault (sym e ∙ f)))

    go : Dec (most_field < one) → Dec (most_field < other) → Memᴰ (number_of check) (5 ∷ 6 ∷ 8 ∷ [])
    go (yes h) d = five (too_large_lem list C one other (rw (lt-ltb most_field one h)))
    go (no h) (yes k) = five (too_large_lem list C one other (rw (lt-ltb most_field other k) (or-true (ltb most_field one))))
    go (no h) (no k) = late list C one other (omega arith) (omega arith) (sym (list_decides list C one other (omega arith) (omega arith)) ∙ e)
