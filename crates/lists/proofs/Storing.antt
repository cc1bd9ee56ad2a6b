-- A list that is being stored into a row, piece by piece: what is left of it and where that goes. Assumes nothing.
use Prim.Native.Nat.{ℕ, zero, suc, ◌+◌, ◌<◌, ◌≤◌}
use mathlib.Core.Path.{◌≡◌, refl, sym, ◌∙◌, ap}
use mathlib.Core.List.{List, [], ◌∷◌, ◌++◌}
use native.Mathlib.Omega.{arith}
use mathlib.Core.Logic.{◌⊎◌, inl, inr}
use lib.ListN.{length, get_or, set, length-append, length-set}
use lib.Seq.{sets, length-sets, get_or-set_same, get_or-set_other}
use Rattle.lists.specs.Stores.{Stored}
use Rattle.lists.proofs.Stores.{sets_append, stored_as}

-- once `rest` is stored in `row` from `at` on, all is stored in `first` from `start` on
pub record Storing {A : Type 0} (first : List A) (start : ℕ) (all row : List A) (at : ℕ) (rest : List A) : Type 0 where
  pub place : at + length rest ≡ start + length all
  pub stores : sets row at rest ≡ sets first start all

module _ {A : Type 0} where
  pub storing_start : (first : List A) (start : ℕ) (all : List A) → Storing first start all first start all
  storing_start first start all = record { place = refl; stores = refl }

  pub storing_next :
      {first all row row' piece rest : List A} {start at at' : ℕ} (left : List A) → rest ≡ piece ++ left → Stored row at piece row' at'
      → Storing first start all row at rest → Storing first start all row' at' left
  storing_next {first} {all} {row} {row'} {piece} {rest} {start} {at} {at'} left e S I = record {
    place = omega (arith, I.place, S.place, ap length e, length-append piece left);
    stores =
        ap (λ (z : List A). sets z at' left) S.row
        ∙ ap (λ (k : ℕ). sets (sets row at piece) k left) S.place
        ∙ sym (sets_append row at piece left)
        ∙ ap (λ (z : List A). sets row at z) (sym e)
        ∙ I.stores;
  }

  pub storing_end : {first all row rest : List A} {start at : ℕ} → rest ≡ [] → Storing first start all row at rest → Stored first start all row at
  storing_end {first} {all} {row} {rest} {start} {at} e I = record {
    place = omega (arith, I.place, ap length e);
    row = ap (λ (z : List A). sets row at z) (sym e) ∙ I.stores;
  }

  pub storing_kept : {first all row rest : List A} {start at : ℕ} → Storing first start all row at rest → length row ≡ length first
  storing_kept {first} {all} {row} {rest} {start} {at} I = sym (length-sets row at rest) ∙ ap length I.stores ∙ length-sets first start all

  -- what is left has room where all has
  pub storing_room :
      {first all row rest : List A} {start at : ℕ} → start + length all ≤ length first → Storing first start all row at rest → at + length rest ≤ length row
  storing_room h I = omega (arith, I.place, storing_kept I)

  -- one element more: there is a place for it, and where it is the last, all is stored
  pub storing_place :
      {first all row rest : List A} {start at : ℕ} {x : A} {left : List A} → start + length all ≤ length first → rest ≡ x ∷ left
      → Storing first start all row at rest → at < length row
  storing_place h e I = omega (arith, storing_room h I, ap length e)

  pub storing_last :
      {first all row row' rest : List A} {start at at' : ℕ} {x y : A} → rest ≡ x ∷ [] → y ≡ x → Stored row at (y ∷ []) row' at'
      → Storing first start all row at rest → Stored first start all row' at'
  storing_last e f S I = storing_end refl (storing_next [] e (stored_as (ap (λ (z : A). z ∷ []) f) S) I)

-- What stands in a row once a list is stored

module _ {A : Type 0} where
  pub get_d_sets_other : (l : List A) (i : ℕ) (vs : List A) (j : ℕ) (d : A) → (j < i) ⊎ (i + length vs ≤ j) → get_or (sets l i vs) j d ≡ get_or l j d
  get_d_sets_other l i [] j d h = refl
  get_d_sets_other l i (v ∷ vs) j d (inl h) =
      get_d_sets_other (set l i v) (suc i) vs j d (inl (omega arith)) ∙ get_or-set_other l i j v d (λ e. omega arith)
  get_d_sets_other l i (v ∷ vs) j d (inr h) =
      get_d_sets_other (set l i v) (suc i) vs j d (inr (omega arith)) ∙ get_or-set_other l i j v d (λ e. omega arith)

  pub get_d_sets_here : (l : List A) (i : ℕ) (vs : List A) (k : ℕ) (d : A) → k < length vs → i + length vs ≤ length l → get_or (sets l i vs) (i + k) d ≡ get_or vs k d
  get_d_sets_here l i [] k d h g = absurd (omega arith)
  get_d_sets_here l i (v ∷ vs) zero d h g =
      let e : i + 0 ≡ i = omega arith in
      ap (λ (j : ℕ). get_or (sets (set l i v) (suc i) vs) j d) e
      ∙ get_d_sets_other (set l i v) (suc i) vs i d (inl (omega arith))
      ∙ get_or-set_same l i v d (omega arith)
  get_d_sets_here l i (v ∷ vs) (suc k) d h g =
      let e : i + suc k ≡ suc i + k = omega arith in
      ap (λ (j : ℕ). get_or (sets (set l i v) (suc i) vs) j d) e
      ∙ get_d_sets_here (set l i v) (suc i) vs k d (omega arith) (omega (arith, length-set l i v))
