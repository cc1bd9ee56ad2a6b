-- A list that passes checks 1 to 8 of document 01: what is so of its words, and of the station that it describes. Assumes nothing.
use Prim.Native.Nat.{ℕ, ◌+◌, ◌*◌, ◌<◌, ◌≤◌}
use native.Mathlib.Omega.{arith}
use native.Mathlib.Decide.{dec_lt}
use mathlib.Core.Path.{◌≡◌, refl, sym, ◌∙◌}
use mathlib.Core.List.{List, [], ◌∷◌}
use lib.ListN.{length, get_or, get_or-eq_default}
use Rattle.lists.proofs.Sums.{sum_le}
use Rattle.words.specs.Words.{kind_of, spare_of, first_of, second_of, parts_of, cables_of}
use Rattle.words.specs.Limits.{least_parts, most_parts, most_degree, most_cables}
use Rattle.station.specs.Station.{no_cable, Station, station_of, degree}
use Rattle.checks.specs.Checks.{Clear}
use Rattle.station.specs.Checks.{kind_at, list_checks}
use Rattle.station.specs.Code.{up_to, Wired}
use Rattle.station.proofs.UpTo.{clear_up_to}
use Rattle.station.proofs.Each.{placed, words_due, parts_between, inside, different, degree_most}
use Rattle.station.proofs.Cables.{parts_are, source_is, analyser_is, line_word, one_at, other_at}
use Rattle.station.proofs.Handshake.{handshake, degree_none}

-- the words of a list
pub record WellFormed (list : List ℕ) : Type 0 where
  pub words : length list ≡ cables_of (get_or list 0 0) + 2
  pub kinds : (i : ℕ) → i < length list → kind_of (get_or list i 0) ≡ kind_at i
  pub spare : (i : ℕ) → 1 ≤ i → i < length list → spare_of (get_or list i 0) ≡ 0
  pub least : least_parts ≤ parts_of (get_or list 0 0)
  pub most : parts_of (get_or list 0 0) ≤ most_parts
  pub first : (i : ℕ) → 1 ≤ i → i < length list → first_of (get_or list i 0) < parts_of (get_or list 0 0)
  pub second : (i : ℕ) → 1 ≤ i → i < length list → second_of (get_or list i 0) < parts_of (get_or list 0 0)
  pub differ : (i : ℕ) → 1 ≤ i → i < length list → first_of (get_or list i 0) ≡ second_of (get_or list i 0) → ⊥
  pub degrees : (p : ℕ) → p < (station_of list).parts → degree (station_of list).cables p ≤ most_degree

pub well_formed : (list : List ℕ) → Clear list_checks list → WellFormed list
well_formed list clear =
    let C : Clear (up_to 8) list = clear_up_to list 8 clear in
    record {
      words = words_due list 8 C (omega arith);
      kinds = λ i l. (placed list 8 C (omega arith) i l).0;
      spare = λ i a l. (placed list 8 C (omega arith) i l).1 a;
      least = (parts_between list 8 C (omega arith)).0;
      most = (parts_between list 8 C (omega arith)).1;
      first = λ i a l. (inside list 8 C (omega arith) i a l).0;
      second = λ i a l. (inside list 8 C (omega arith) i a l).1;
      differ = different list 8 C (omega arith);
      degrees = degree_most list 8 C (omega arith);
    }

module _ (list : List ℕ) (F : WellFormed list) where
  -- a cable beyond the last line has part 0 at both ends
  one_below : (i : ℕ) → Dec (i < length (station_of list).cables) → (get_or (station_of list).cables i no_cable).one < (station_of list).parts
  one_below i (yes h) = omega (arith, one_at list i, parts_are list, F.first (2 + i) (omega arith) (line_word list i h))
  one_below i (no h) = rw (get_or-eq_default (station_of list).cables no_cable {n = i} (omega arith)) (omega (arith, parts_are list, F.least))

  other_below : (i : ℕ) → Dec (i < length (station_of list).cables) → (get_or (station_of list).cables i no_cable).other < (station_of list).parts
  other_below i (yes h) = omega (arith, other_at list i, parts_are list, F.second (2 + i) (omega arith) (line_word list i h))
  other_below i (no h) = rw (get_or-eq_default (station_of list).cables no_cable {n = i} (omega arith)) (omega (arith, parts_are list, F.least))

  one : (i : ℕ) → (get_or (station_of list).cables i no_cable).one < (station_of list).parts
  one i = one_below i (dec_lt i (length (station_of list).cables))

  other : (i : ℕ) → (get_or (station_of list).cables i no_cable).other < (station_of list).parts
  other i = other_below i (dec_lt i (length (station_of list).cables))

  few : (p : ℕ) → Dec (p < (station_of list).parts) → degree (station_of list).cables p ≤ most_degree
  few p (yes h) = F.degrees p h
  few p (no h) = omega (arith, degree_none (station_of list).parts (station_of list).cables p (omega arith) one other)

  pub well_wired : Wired (station_of list)
  well_wired = record {
    least = omega (arith, parts_are list, F.least);
    most = omega (arith, parts_are list, F.most);
    source = omega (arith, parts_are list, source_is list, F.first 1 (omega arith) (omega (arith, F.words)));
    analyser = omega (arith, parts_are list, analyser_is list, F.second 1 (omega arith) (omega (arith, F.words)));
    apart = λ e. F.differ 1 (omega arith) (omega (arith, F.words)) (sym (source_is list) ∙ e ∙ analyser_is list);
    one = one;
    other = other;
    loopless = λ i l e. F.differ (2 + i) (omega arith) (line_word list i l) (sym (one_at list i) ∙ e ∙ other_at list i);
    degrees = λ p. few p (dec_lt p (station_of list).parts);
  }

pub wired : (list : List ℕ) → Clear list_checks list → Wired (station_of list)
wired list clear = well_wired list (well_formed list clear)

-- such a station's list has its head and its ends
pub wired_words : (list : List ℕ) → Wired (station_of list) → 2 ≤ length list
unfolding station_of
wired_words [] W = absurd (omega (arith, W.least))
wired_words (w ∷ []) W = absurd (W.apart refl)
wired_words (v ∷ w ∷ ws) W = omega arith

module _ (st : Station) (W : Wired st) where
  -- each cable is one of the cables of two parts
  pub cables_few : length st.cables + length st.cables ≤ most_degree * st.parts
  cables_few =
      omega (
        arith,
        handshake st.parts st.cables W.one W.other W.loopless,
        sum_le (degree st.cables) st.parts most_degree (λ p l. W.degrees p),
      )

  pub cables_most : length st.cables ≤ most_cables
  cables_most = omega (arith, cables_few, W.most)
