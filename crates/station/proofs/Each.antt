-- What each of checks 1 to 8 says of a list's words where it finds nothing. Assumes nothing.
use Rattle.std.specs.Prelude.{Option, None}
use Prim.Native.Nat.{ℕ, ◌+◌, ◌-◌, ◌≤◌, ◌<◌}
use mathlib.Core.Path.{◌≡◌, refl, sym, ◌∙◌}
use mathlib.Core.Logic.{◌⊎◌, inl, inr}
use mathlib.Core.Bool.{Bool, true, false, cond, not, ◌&&◌, ◌||◌}
use mathlib.Core.List.{List, [], ◌∷◌, Memᴰ}
use native.Mathlib.Omega.{arith}
use native.Mathlib.Decide.{ℕ_discrete}
use borrow.Author.Tests.{ltb-false, leb-false, eqb-true, eqb-false, eq-eqb, ne_eqb, not-false}
use lib.ListN.{length, get_or}
use lib.Dec.{eqb, ltb, leb}
use Rattle.lists.proofs.Bools.{or_right, or_fails, and_fails}
use Rattle.lists.proofs.Seek.{seek_nothing}
use Rattle.words.specs.Words.{kind_of, spare_of, first_of, second_of, parts_of, cables_of, ends, cable}
use Rattle.words.specs.Limits.{least_parts, most_parts, most_degree}
use Rattle.station.specs.Station.{station_of, degree}
use Rattle.checks.specs.Checks.{Check, Clear, number_of}
use Rattle.station.specs.Checks.{check1, kind_at, misplaced, check2, check3, check4, outside, check5, check6, check8, list_checks}
use Rattle.station.specs.Code.{up_to}
use Rattle.checks.proofs.FirstRefusal.{at_when_nothing}
use Rattle.station.proofs.UpTo.{up_to_each}

kind_spare : (k d z : ℕ) → (not (eqb k d) || ((eqb k ends || eqb k cable) && not (eqb z 0))) ≡ false → (k ≡ d) × ((d ≡ ends) ⊎ (d ≡ cable) → z ≡ 0)
kind_spare k d z e = (same, clean)
  where
    h : (not (eqb k d) ≡ false) × (((eqb k ends || eqb k cable) && not (eqb z 0)) ≡ false)
    h = or_fails (not (eqb k d)) ((eqb k ends || eqb k cable) && not (eqb z 0)) e

    same : k ≡ d
    same = eqb-true k d (not-false (eqb k d) h.0)

    marked : (d ≡ ends) ⊎ (d ≡ cable) → (eqb k ends || eqb k cable) ≡ true
    marked (inl q) = rw (eq-eqb k ends (same ∙ q))
    marked (inr q) = or_right (eqb k ends) (eqb k cable) (eq-eqb k cable (same ∙ q))

    clean : (d ≡ ends) ⊎ (d ≡ cable) → z ≡ 0
    clean q = eqb-true z 0 (not-false (eqb z 0) (and_fails (eqb k ends || eqb k cable) (not (eqb z 0)) h.1 (marked q)))

kind_at_later : (i : ℕ) → 1 ≤ i → (kind_at i ≡ ends) ⊎ (kind_at i ≡ cable)
unfolding kind_at
kind_at_later i h = go (ℕ_discrete i 1)
  where
    go : Dec (i ≡ 1) → (kind_at i ≡ ends) ⊎ (kind_at i ≡ cable)
    go (yes e) = inl (rw (ne_eqb i 0 (λ q. omega arith), eq-eqb i 1 e))
    go (no n) = inr (rw (ne_eqb i 0 (λ q. omega arith), ne_eqb i 1 n))

-- what the first check of a number finds
numbered : ℕ → List Check → List ℕ → Option ℕ
numbered n [] list = None
numbered n (c ∷ cs) list = cond (eqb n (number_of c.fault)) (c.finds list) (numbered n cs list)

numbered_nothing :
    (n : ℕ) (cs : List Check) (list : List ℕ) → ((c : Check) → Memᴰ c cs → number_of c.fault ≡ n → c.finds list ≡ None) → numbered n cs list ≡ None
unfolding numbered
numbered_nothing n [] list h = refl
numbered_nothing n (c ∷ cs) list h = go (eqb n (number_of c.fault)) refl (numbered_nothing n cs list (λ d m. h d (Memᴰ.tail m)))
  where
    go : (b : Bool) → eqb n (number_of c.fault) ≡ b → numbered n cs list ≡ None → cond b (c.finds list) (numbered n cs list) ≡ None
    go true e rest = h c (Memᴰ.head refl) (sym (eqb-true n (number_of c.fault) e))
    go false e rest = rest

module _ (list : List ℕ) (k : ℕ) (C : Clear (up_to k) list) where
  nothing : (n : ℕ) → n ≤ k → numbered n list_checks list ≡ None
  nothing n h = numbered_nothing n list_checks list (λ c m e. up_to_each list k C m (omega arith))

  pub two_words : 1 ≤ k → 2 ≤ length list
  unfolding numbered list_checks check1
  two_words h = ltb-false (length list) 2 (at_when_nothing (ltb (length list) 2) (length list) (nothing 1 h))

  pub placed : 2 ≤ k → (i : ℕ) → i < length list → (kind_of (get_or list i 0) ≡ kind_at i) × (1 ≤ i → spare_of (get_or list i 0) ≡ 0)
  unfolding numbered list_checks check2 misplaced
  placed h i l =
      let f = kind_spare (kind_of (get_or list i 0)) (kind_at i) (spare_of (get_or list i 0))
      (seek_nothing (λ j. misplaced j (get_or list j 0)) 0 (length list) (nothing 2 h) i (omega arith) (omega arith)) in
      (f.0, λ a. f.1 (kind_at_later i a))

  pub words_due : 3 ≤ k → length list ≡ cables_of (get_or list 0 0) + 2
  unfolding numbered list_checks check3
  words_due h =
      let due = cables_of (get_or list 0 0) + 2 in
      eqb-true (length list) due (not-false (eqb (length list) due) (at_when_nothing (not (eqb (length list) due)) due (nothing 3 h)))

  pub parts_between : 4 ≤ k → (least_parts ≤ parts_of (get_or list 0 0)) × (parts_of (get_or list 0 0) ≤ most_parts)
  unfolding numbered list_checks check4
  parts_between h =
      let n = parts_of (get_or list 0 0) in
      let p = or_fails (ltb n least_parts) (ltb most_parts n) (at_when_nothing (ltb n least_parts || ltb most_parts n) n (nothing 4 h)) in
      (ltb-false n least_parts p.0, ltb-false most_parts n p.1)

  pub inside : 5 ≤ k → (i : ℕ) → 1 ≤ i → i < length list
      → (first_of (get_or list i 0) < parts_of (get_or list 0 0)) × (second_of (get_or list i 0) < parts_of (get_or list 0 0))
  unfolding numbered list_checks check5 outside
  inside h i a l =
      let n = parts_of (get_or list 0 0) in
      let w = get_or list i 0 in
      let p = or_fails (leb n (first_of w)) (leb n (second_of w))
      (seek_nothing (λ j. outside n (get_or list j 0)) 1 (length list - 1) (nothing 5 h) i a (omega arith)) in
      (leb-false n (first_of w) p.0, leb-false n (second_of w) p.1)

  pub different : 6 ≤ k → (i : ℕ) → 1 ≤ i → i < length list → first_of (get_or list i 0) ≡ second_of (get_or list i 0) → ⊥
  unfolding numbered list_checks check6
  different h i a l =
      eqb-false (first_of (get_or list i 0)) (second_of (get_or list i 0))
      (seek_nothing (λ j. eqb (first_of (get_or list j 0)) (second_of (get_or list j 0))) 1 (length list - 1) (nothing 6 h) i a (omega arith))

  pub degree_most : 8 ≤ k → (p : ℕ) → p < (station_of list).parts → degree (station_of list).cables p ≤ most_degree
  unfolding numbered list_checks check8
  degree_most h p l =
      ltb-false most_degree (degree (station_of list).cables p)
      (seek_nothing (λ x. ltb most_degree (degree (station_of list).cables x)) 0 (station_of list).parts (nothing 8 h) p (omega arith) (omega arith))
