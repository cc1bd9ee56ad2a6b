-- The canonical form of a list passes checks 1 to 8, where the list does. Assumes nothing.
use Rattle.std.specs.Prelude.{None}
use Prim.Native.Nat.{ℕ, zero, suc, ◌+◌, ◌-◌, ◌≤◌, ◌<◌, min, max}
use native.Mathlib.Omega.{arith}
use native.Mathlib.Decide.{dec_lt}
use mathlib.Core.Path.{◌≡◌, refl, sym, ap, ◌∙◌, subst}
use mathlib.Core.Bool.{false, not, ◌||◌}
use mathlib.Core.List.{List}
use lib.ListN.{length, get_or, drop, length-drop}
use lib.Seq.{get_or-drop}
use lib.Dec.{eqb, ltb}
use borrow.Author.Tests.{eq-eqb, ne_eqb, le-ltb, lt-leb}
use Rattle.lists.proofs.Bools.{or_either}
use Rattle.lists.proofs.Select.{get_d_mem}
use Rattle.lists.proofs.Places.{mem-place}
use Rattle.lists.proofs.Seek.{seek_none}
use Rattle.lists.proofs.Maps.{count_map}
use Rattle.words.specs.Words.{kind_of, spare_of, first_of, second_of, parts_of, list_head, ends, cable}
use Rattle.words.specs.Limits.{most_degree}
use Rattle.station.specs.Station.{cable_of, station_of, joins, degree}
use Rattle.checks.specs.Checks.{or_else, first_refusal, Clear, at_when}
use Rattle.station.specs.Checks.{check1, kind_at, misplaced, check2, check3, check4, outside, check5, check6, check8, list_checks}
use Rattle.station.specs.Code.{up_to}
use Rattle.station.proofs.UpTo.{clear_up_to}
use Rattle.station.proofs.Each.{two_words, placed, words_due, parts_between, inside, different, degree_most}
use Rattle.station.proofs.Tests.{misplaced_head, misplaced_spare, length_right, parts_right, outside_second}
use Rattle.canonical.specs.Canonical.{turned, canonical_cables, canonical}
use Rattle.canonical.proofs.Turned.{turned_fields, turned_first, turned_second}
use Rattle.canonical.proofs.Cables.{cables_e, count_cables}
use Rattle.canonical.proofs.Canonical.{canonical_head, length_canonical}

-- what holds of the head, of the ends, and of each cable's word turned, holds of each word of the canonical form
module _ (list : List ℕ) (P : ℕ → ℕ → Type 0) where
  each_word : P 0 (get_or list 0 0) → P 1 (get_or list 1 0) → ((i j : ℕ) → 2 ≤ i → 2 ≤ j → j < length list → P i (turned (get_or list j 0)))
      → (i : ℕ) → i < length (canonical list) → P i (get_or (canonical list) i 0)
  unfolding canonical
  each_word h e f zero l = h
  each_word h e f (suc zero) l = e
  each_word h e f (suc (suc k)) l =
      let t = cables_e (drop 2 list) (get_d_mem (canonical_cables (drop 2 list)) k 0 (omega arith)) in
      let s = mem-place (drop 2 list) 0 t.1 in
      let q : turned (get_or list (2 + s.0) 0) ≡ get_or (canonical_cables (drop 2 list)) k 0 = ap turned (sym (get_or-drop 2 list s.0 0) ∙ s.2) ∙ sym t.2 in
      subst (P (suc (suc k))) q (f (suc (suc k)) (2 + s.0) (omega arith) (omega arith) (omega (arith, s.1, length-drop 2 list)))

module _ (list : List ℕ) (C : Clear (up_to 6) list) where
  two : 2 ≤ length list
  two = two_words list 6 C (omega arith)

  same_length : length (canonical list) ≡ length list
  same_length = length_canonical list two

  canonical_1 : check1 (canonical list) ≡ None
  unfolding check1 at_when
  canonical_1 = rw (le-ltb (length (canonical list)) 2 (omega (arith, same_length, two)))

  -- a word of the right kind, without a spare bit
  head_placed : misplaced 0 (get_or list 0 0) ≡ false
  unfolding kind_at
  head_placed =
      let p = placed list 6 C (omega arith) 0 (omega (arith, two)) in
      sym (misplaced_head 0 (get_or list 0 0) p.0 p.0)

  well_placed : (i w : ℕ) → kind_of w ≡ kind_at i → (kind_of w ≡ list_head → ⊥) → spare_of w ≡ 0 → misplaced i w ≡ false
  well_placed i w h n e = sym (misplaced_spare i w h n) ∙ ap not (eq-eqb (spare_of w) 0 e)

  ends_placed : misplaced 1 (get_or list 1 0) ≡ false
  unfolding kind_at
  ends_placed =
      let p = placed list 6 C (omega arith) 1 (omega (arith, two)) in
      let k : kind_of (get_or list 1 0) ≡ ends = p.0 in
      well_placed 1 (get_or list 1 0) p.0 (λ z. omega arith) (p.1 (omega arith))

  kind_cable : (i : ℕ) → 2 ≤ i → kind_at i ≡ cable
  unfolding kind_at
  kind_cable i h = rw (ne_eqb i 0 (λ e. omega arith), ne_eqb i 1 (λ e. omega arith))

  cable_placed : (i w : ℕ) → 2 ≤ i → misplaced i (turned w) ≡ false
  cable_placed i w h =
      let k : kind_of (turned w) ≡ cable = (turned_fields w).kind_is in
      well_placed i (turned w) (k ∙ sym (kind_cable i h)) (λ z. omega arith) (turned_fields w).no_spare

  canonical_2 : check2 (canonical list) ≡ None
  unfolding check2
  canonical_2 =
      seek_none (λ i. misplaced i (get_or (canonical list) i 0)) 0 (length (canonical list))
      (λ i a l. each_word list (λ j w. misplaced j w ≡ false) head_placed ends_placed (λ j k h g m. cable_placed j (get_or list k 0) h) i (omega arith))

  canonical_3 : check3 (canonical list) ≡ None
  canonical_3 = sym (length_right (canonical list) (same_length ∙ rw (canonical_head list) (words_due list 6 C (omega arith))))

  canonical_4 : check4 (canonical list) ≡ None
  canonical_4 =
      let p = parts_between list 6 C (omega arith) in
      sym (parts_right (canonical list) (rw (canonical_head list) p.0) (rw (canonical_head list) p.1))

  -- part numbers below n
  within : (n w : ℕ) → first_of w < n → second_of w < n → outside n w ≡ false
  within n w h g = sym (outside_second n w h) ∙ lt-leb n (second_of w) g

  turned_within : (n w : ℕ) → first_of w < n → second_of w < n → outside n (turned w) ≡ false
  turned_within n w h g =
      within n (turned w) (go₁ (first_of (turned w)) (first_of w) (second_of w) h g (turned_first w)) (go₂ (second_of (turned w)) (first_of w) (second_of w) h g (turned_second w))
    where
      go₁ : (x a b : ℕ) → a < n → b < n → x ≡ min a b → x < n
      go₁ x a b ha hb e = omega arith

      go₂ : (x a b : ℕ) → a < n → b < n → x ≡ max a b → x < n
      go₂ x a b ha hb e = omega arith

  canonical_5 : check5 (canonical list) ≡ None
  unfolding check5
  canonical_5 =
      let n = parts_of (get_or list 0 0) in
      let f : (j : ℕ) → 1 ≤ j → j < length list → (first_of (get_or list j 0) < n) × (second_of (get_or list j 0) < n) = inside list 6 C (omega arith) in
      let p = f 1 (omega arith) (omega (arith, two)) in
      let e : (i : ℕ) → i < length (canonical list) → 1 ≤ i → outside n (get_or (canonical list) i 0) ≡ false =
      each_word list (λ j w. 1 ≤ j → outside n w ≡ false) (λ z. absurd (omega arith)) (λ z. within n (get_or list 1 0) p.0 p.1)
      (λ j k h g m z. turned_within n (get_or list k 0) (f k (omega arith) m).0 (f k (omega arith) m).1) in
      rw (canonical_head list) (seek_none (λ i. outside n (get_or (canonical list) i 0)) 1 (length (canonical list) - 1) (λ i a l. e i (omega (arith, same_length, two)) a))

  turned_different : (w : ℕ) → (first_of w ≡ second_of w → ⊥) → eqb (first_of (turned w)) (second_of (turned w)) ≡ false
  turned_different w n = ne_eqb (first_of (turned w)) (second_of (turned w)) (λ e. n (go (first_of w) (second_of w) (sym (turned_first w) ∙ e ∙ turned_second w)))
    where
      go : (a b : ℕ) → min a b ≡ max a b → a ≡ b
      go a b e = omega arith

  canonical_6 : check6 (canonical list) ≡ None
  unfolding check6
  canonical_6 =
      let f : (j : ℕ) → 1 ≤ j → j < length list → first_of (get_or list j 0) ≡ second_of (get_or list j 0) → ⊥ = different list 6 C (omega arith) in
      let e : (i : ℕ) → i < length (canonical list) → 1 ≤ i → eqb (first_of (get_or (canonical list) i 0)) (second_of (get_or (canonical list) i 0)) ≡ false =
      each_word list (λ j w. 1 ≤ j → eqb (first_of w) (second_of w) ≡ false) (λ z. absurd (omega arith))
      (λ z. ne_eqb (first_of (get_or list 1 0)) (second_of (get_or list 1 0)) (f 1 (omega arith) (omega (arith, two))))
      (λ j k h g m z. turned_different (get_or list k 0) (f k (omega arith) m)) in
      seek_none (λ i. eqb (first_of (get_or (canonical list) i 0)) (second_of (get_or (canonical list) i 0))) 1 (length (canonical list) - 1) (λ i a l. e i (omega (arith, same_length, two)) a)

-- turning keeps the part joined
turned_joins : (p w : ℕ) → joins p (cable_of (turned w)) ≡ joins p (cable_of w)
unfolding joins cable_of
turned_joins p w = rw (turned_first w, turned_second w) (go (first_of w) (second_of w) (dec_lt (first_of w) (second_of w)))
  where
    go : (a b : ℕ) → Dec (a < b) → (eqb (min a b) p || eqb (max a b) p) ≡ (eqb a p || eqb b p)
    go a b (yes h) =
        let e : min a b ≡ a = omega arith in
        let f : max a b ≡ b = omega arith in
        rw (e, f)
    go a b (no h) =
        let e : min a b ≡ b = omega arith in
        let f : max a b ≡ a = omega arith in
        rw (e, f) (or_either (eqb b p) (eqb a p))

canonical_degree : (list : List ℕ) (p : ℕ) → degree (station_of (canonical list)).cables p ≡ degree (station_of list).cables p
unfolding degree station_of canonical
canonical_degree list p =
    count_map (joins p) cable_of (canonical_cables (drop 2 list)) ∙ count_cables (λ w. joins p (cable_of w)) (drop 2 list) (turned_joins p) ∙ sym (count_map (joins p) cable_of (drop 2 list))

same_parts_lem : (list : List ℕ) → (station_of (canonical list)).parts ≡ (station_of list).parts
unfolding station_of canonical
same_parts_lem list = refl

-- four cables at most at each part
canonical_8 : (list : List ℕ) → Clear (up_to 8) list → check8 (canonical list) ≡ None
unfolding check8
canonical_8 list C =
    rw (same_parts_lem list)
    (seek_none (λ p. ltb most_degree (degree (station_of (canonical list)).cables p)) 0 (station_of list).parts
    (λ p a l. le-ltb most_degree (degree (station_of (canonical list)).cables p) (omega (arith, canonical_degree list p, degree_most list 8 C (omega arith) p (omega arith)))))

-- 'It takes lists that pass checks 1 to 8': what it gives is such a list
pub canonical_passes : (list : List ℕ) → Clear list_checks list → Clear list_checks (canonical list)
unfolding list_checks first_refusal or_else
canonical_passes list C =
    let D : Clear (up_to 6) list = clear_up_to list 6 C in
    rw (
      canonical_1 list D,
      canonical_2 list D,
      canonical_3 list D,
      canonical_4 list D,
      canonical_5 list D,
      canonical_6 list D,
      canonical_8 list (clear_up_to list 8 C),
    )
