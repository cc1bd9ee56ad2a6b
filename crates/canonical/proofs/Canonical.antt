-- A list's canonical form: as long as the list, the same when it is made again, and the same for two lists exactly if they are lists of one
-- station. Assumes nothing.
use Prim.Native.Nat.{ℕ, ◌+◌, ◌≤◌, ◌<◌}
use native.Mathlib.Omega.{arith}
use mathlib.Core.Path.{◌≡◌, refl, sym, ap, ap₂, ◌∙◌}
use mathlib.Core.Logic.{◌↔◌}
use mathlib.Core.List.{List, ◌∷◌}
use lib.ListN.{length, get_or, drop, length-drop}
use Rattle.words.specs.Words.{kind_of, spare_of, first_of, second_of, parts_of, cables_of, list_head, ends, list_head_word, ends_word}
use Rattle.station.specs.Station.{Station, station_of}
use Rattle.checks.specs.Checks.{Clear}
use Rattle.station.specs.Checks.{kind_at, list_checks}
use Rattle.station.specs.Code.{up_to}
use Rattle.station.proofs.UpTo.{clear_up_to}
use Rattle.station.proofs.Each.{two_words, placed, words_due}
use Rattle.canonical.specs.Canonical.{canonical_cables, canonical}
use Rattle.canonical.specs.Multiplicity.{SameStation}
use Rattle.canonical.proofs.Turned.{NotBefore}
use Rattle.canonical.proofs.Cables.{length_cables, cables_smaller, cables_rising, cables_twice, cables_multiplicity, cables_same}

module _ (list : List ℕ) where
  pub canonical_head : get_or (canonical list) 0 0 ≡ get_or list 0 0
  unfolding canonical
  canonical_head = refl

  pub canonical_ends : get_or (canonical list) 1 0 ≡ get_or list 1 0
  unfolding canonical
  canonical_ends = refl

  pub canonical_cables_lem : drop 2 (canonical list) ≡ canonical_cables (drop 2 list)
  unfolding canonical
  canonical_cables_lem = refl

  pub length_canonical : 2 ≤ length list → length (canonical list) ≡ length list
  unfolding canonical
  length_canonical h = omega (arith, length_cables (drop 2 list), length-drop 2 list)

  -- 'each cable's smaller part first'
  pub canonical_smaller : (i : ℕ) → i < length (drop 2 list) → first_of (get_or (drop 2 (canonical list)) i 0) ≤ second_of (get_or (drop 2 (canonical list)) i 0)
  unfolding canonical
  canonical_smaller i l = cables_smaller (drop 2 list) i l

  -- 'cables rising by first part, then second'
  pub canonical_rising : (i j : ℕ) → i ≤ j → j < length (drop 2 list) → NotBefore (get_or (drop 2 (canonical list)) i 0) (get_or (drop 2 (canonical list)) j 0)
  unfolding canonical
  canonical_rising i j h l = cables_rising (drop 2 list) i j h l

  -- 'Settling twice changes nothing'
  pub canonical_canonical : canonical (canonical list) ≡ canonical list
  unfolding canonical
  canonical_canonical = ap (λ (cs : List ℕ). get_or list 0 0 ∷ get_or list 1 0 ∷ cs) (cables_twice (drop 2 list))

  -- it describes the same station
  pub canonical_station : SameStation (station_of (canonical list)) (station_of list)
  unfolding canonical station_of
  canonical_station = record { parts = refl; source = refl; analyser = refl; cables = cables_multiplicity (drop 2 list) }

same_back : {st su : Station} → SameStation st su → SameStation su st
same_back S = record { parts = sym S.parts; source = sym S.source; analyser = sym S.analyser; cables = λ a b. sym (S.cables a b) }

same_on : {st su sv : Station} → SameStation st su → SameStation su sv → SameStation st sv
same_on S T = record {
  parts = S.parts ∙ T.parts;
  source = S.source ∙ T.source;
  analyser = S.analyser ∙ T.analyser;
  cables = λ a b. S.cables a b ∙ T.cables a b;
}

-- lists with one canonical form describe the same station, whatever words they have
pub canonical_same : (l k : List ℕ) → canonical l ≡ canonical k → SameStation (station_of l) (station_of k)
canonical_same l k e = same_on (same_back (canonical_station l)) (rw e (canonical_station k))

-- the head and the ends of a list that passes checks 1 to 3 are made of its fields
module _ (list : List ℕ) (C : Clear (up_to 3) list) where
  head_word : get_or list 0 0 ≡ list_head_word (parts_of (get_or list 0 0)) (length (drop 2 list))
  unfolding kind_at
  head_word = made (get_or list 0 0) (length (drop 2 list)) (placed list 3 C (omega arith) 0 (omega (arith, two_words list 3 C (omega arith)))).0
      (omega (arith, words_due list 3 C (omega arith), length-drop 2 list))
    where
      made : (w m : ℕ) → kind_of w ≡ list_head → m ≡ cables_of w → w ≡ list_head_word (parts_of w) m
      made w m h e = omega arith

  ends_word_lem : get_or list 1 0 ≡ ends_word (first_of (get_or list 1 0)) (second_of (get_or list 1 0))
  unfolding kind_at
  ends_word_lem =
      let p = placed list 3 C (omega arith) 1 (omega (arith, two_words list 3 C (omega arith))) in
      made (get_or list 1 0) p.0 (p.1 (omega arith))
    where
      made : (w : ℕ) → kind_of w ≡ ends → spare_of w ≡ 0 → w ≡ ends_word (first_of w) (second_of w)
      made w h e = omega arith

-- lists of the same station have one canonical form: checks 1 to 3 are enough
same_canonical : (l k : List ℕ) → Clear (up_to 3) l → Clear (up_to 3) k → SameStation (station_of l) (station_of k) → canonical l ≡ canonical k
unfolding canonical station_of
same_canonical l k C D S =
    let c : canonical_cables (drop 2 l) ≡ canonical_cables (drop 2 k) = cables_same (drop 2 l) (drop 2 k) S.cables in
    let m : length (drop 2 l) ≡ length (drop 2 k) = sym (length_cables (drop 2 l)) ∙ ap length c ∙ length_cables (drop 2 k) in
    let h : get_or l 0 0 ≡ get_or k 0 0 = head_word l C ∙ ap₂ (λ (n m : ℕ). list_head_word n m) S.parts m ∙ sym (head_word k D) in
    let e : get_or l 1 0 ≡ get_or k 1 0 = ends_word_lem l C ∙ ap₂ (λ (s t : ℕ). ends_word s t) S.source S.analyser ∙ sym (ends_word_lem k D) in
    rw (h, e, c)

-- 'two lists settle alike exactly if they have equal n, s and t and the same cables with the same repeats'
pub canonical_iff :
    (l k : List ℕ) → Clear list_checks l → Clear list_checks k → (canonical l ≡ canonical k) ↔ SameStation (station_of l) (station_of k)
canonical_iff l k C D = (canonical_same l k, same_canonical l k (clear_up_to l 3 C) (clear_up_to k 3 D))

-- 'm + 2' words
pub length_due : (list : List ℕ) → Clear list_checks list → length (canonical list) ≡ cables_of (get_or list 0 0) + 2
length_due list C =
    let D = clear_up_to list 3 C in
    length_canonical list (two_words list 3 D (omega arith)) ∙ words_due list 3 D (omega arith)
