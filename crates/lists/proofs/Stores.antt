-- Lists stored into a row: one behind the other they are one list stored; from the front, what stands in the row. Assumes nothing.
use Prim.Native.Nat.{ℕ, suc, ◌+◌, ◌≤◌, ◌<◌}
use mathlib.Core.Path.{◌≡◌, refl, sym, ◌∙◌, ap}
use mathlib.Core.List.{List, [], ◌∷◌, ◌++◌}
use native.Mathlib.Omega.{arith}
use native.Mathlib.Numerals.{add-one}
use lib.ListN.{length, get_or, set, take, drop, length-append}
use lib.Seq.{sets, length-sets, sets-eq, take-suc}
use Rattle.lists.specs.Stores.{Stored}

module _ {A : Type 0} where
  pub sets_append : (l : List A) (i : ℕ) (xs ys : List A) → sets l i (xs ++ ys) ≡ sets (sets l i xs) (i + length xs) ys
  sets_append l i [] ys = ap (λ (k : ℕ). sets l k ys) (omega arith)
  sets_append l i (x ∷ xs) ys = sets_append (set l i x) (suc i) xs ys ∙ ap (λ (k : ℕ). sets (sets (set l i x) (suc i) xs) k ys) (omega arith)

  pub sets_front : (l vs : List A) → length vs ≤ length l → sets l 0 vs ≡ vs ++ drop (length vs) l
  sets_front l vs h =
      let e : 0 + length vs ≡ length vs = omega arith in
      sets-eq vs l 0 (omega arith) ∙ ap (λ (k : ℕ). vs ++ drop k l) e

  pub stored_none : (l : List A) {at next : ℕ} → next ≡ at → Stored l at [] l next
  stored_none l e = record { place = omega arith; row = refl }

  pub stored_one : (l : List A) (at : ℕ) (x : A) → Stored l at (x ∷ []) (set l at x) (at + 1)
  stored_one l at x = record { place = omega arith; row = refl }

  pub stored_append : {l m n xs ys : List A} {at i j : ℕ} → Stored l at xs m i → Stored m i ys n j → Stored l at (xs ++ ys) n j
  stored_append {l} {m} {n} {xs} {ys} {at} {i} {j} S T = record {
    place = omega (arith, S.place, T.place, length-append xs ys);
    row = T.row ∙ ap (λ (r : List A). sets r i ys) S.row ∙ ap (λ (k : ℕ). sets (sets l at xs) k ys) S.place ∙ sym (sets_append l at xs ys);
  }

  pub stored_as : {l m xs ys : List A} {at i : ℕ} → xs ≡ ys → Stored l at xs m i → Stored l at ys m i
  stored_as {l} {m} {xs} {ys} {at} {i} e S = record { place = omega (arith, S.place, ap length e); row = S.row ∙ ap (sets l at) e }

  pub stored_kept : {l m xs : List A} {at i : ℕ} → Stored l at xs m i → length m ≡ length l
  stored_kept {l} {m} {xs} {at} {i} S = ap length S.row ∙ length-sets l at xs

  -- the first i elements, and one more
  pub take_next : (l : List A) (i : ℕ) (d : A) → i < length l → take i l ++ get_or l i d ∷ [] ≡ take (i + 1) l
  take_next l i d h = sym (rw (add-one, take-suc l i d))

  pub stored_next : (xs : List A) (i : ℕ) (d : A) {first now : List A} {at : ℕ} → i < length xs → Stored first at (take i xs) now (at + i)
      → Stored first at (take (i + 1) xs) (set now (at + i) (get_or xs i d)) (at + (i + 1))
  stored_next xs i d {first} {now} {at} h S =
      let e : at + i + 1 ≡ at + (i + 1) = omega arith in
      stored_as (take_next xs i d h) (rw e at (stored_append S (stored_one now (at + i) (get_or xs i d))))

  -- stored from the front, the list opens the row
  pub stored_front : {l m xs : List A} {i : ℕ} → Stored l 0 xs m i → length xs ≤ length l → m ≡ xs ++ drop (length xs) l
  stored_front {l} {m} {xs} {i} S h = S.row ∙ sets_front l xs h
