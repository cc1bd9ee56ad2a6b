-- What stands behind the last cable's corners changes no answer: hits, a cable's words and its box. Assumes nothing.
use Prim.Native.Nat.{ℕ, suc, ◌+◌, ◌<◌}
use native.Mathlib.Omega.{arith}
use mathlib.Core.Path.{◌≡◌, sym, ap, ap₂, ◌∙◌}
use mathlib.Core.List.{List, ◌++◌, map}
use mathlib.Core.Bool.{true}
use lib.ListN.{length, get_or, length-map, get_or-append}
use Rattle.checks.specs.Checks.{first_refusal}
use Rattle.station.specs.Station.{Station, station_of}
use Rattle.words.specs.Words.{second_of}
use Rattle.validation.specs.Layout.{Follows, cable_place}
use Rattle.validation.specs.Directions.{directed, shown}
use Rattle.validation.proofs.Following.{place_next, place_rises}
use Rattle.validation.proofs.Unread.{drawing_unread, rest_unread, same_place}
use Rattle.location.specs.Hits.{hit_at, hit_words}
use Rattle.location.specs.Selection.{cable_box}
use Rattle.location.specs.Outcome.{mark_checks, cable_checks, locate_outcome, words_at, selected, bounded}
use Rattle.location.proofs.Answers.{CableStep, not_accepted_lem, no_line, chosen, cable_step, selected_refuses_22, selected_refuses_23, selected_words}

module _ (st : Station) (sheet rest : List ℕ) (F : Follows st.parts (length st.cables) sheet) where
  shown_unread : shown st (sheet ++ rest) ≡ shown st sheet
  unfolding shown
  shown_unread =
      let ends = map (directed true) st.cables in
      let e : length ends ≡ length st.cables = length-map st.cables (directed true) in
      drawing_unread st.parts ends sheet rest (rw e F)

  words_unread : (marks : List ℕ) → hit_words st (sheet ++ rest) marks ≡ hit_words st sheet marks
  unfolding hit_words hit_at
  words_unread marks = rw shown_unread

  box_unread : (line : ℕ) → cable_box st (sheet ++ rest) line ≡ cable_box st sheet line
  unfolding cable_box
  box_unread line = rw shown_unread

module _ (list sheet rest : List ℕ) (F : Follows (station_of list).parts (length (station_of list).cables) sheet) where
  pub locate_unread : (marks : List ℕ) (room : ℕ) → locate_outcome list (sheet ++ rest) marks room ≡ locate_outcome list sheet marks room
  unfolding locate_outcome mark_checks first_refusal
  locate_unread marks room = rw (words_unread (station_of list) sheet rest F marks, rest_unread list sheet rest F)

  pub bounded_unread : (line : ℕ) → bounded list (sheet ++ rest) line ≡ bounded list sheet line
  unfolding bounded cable_checks first_refusal
  bounded_unread line = rw (box_unread (station_of list) sheet rest F line, rest_unread list sheet rest F)

  abbrev n : ℕ
  n = (station_of list).parts

  abbrev m : ℕ
  m = length (station_of list).cables

  word_same : (k : ℕ) → k < cable_place n sheet m → get_or (sheet ++ rest) k 0 ≡ get_or sheet k 0
  word_same k h = get_or-append sheet rest 0 k (omega (arith, F.complete))

  start_same : (line : ℕ) → line < m → cable_place n (sheet ++ rest) line ≡ cable_place n sheet line
  start_same line l = same_place n m sheet (sheet ++ rest) word_same line (omega arith)

  count_same :
      (line : ℕ) → line < m
      → 1 + second_of (get_or (sheet ++ rest) (cable_place n (sheet ++ rest) line) 0) ≡ 1 + second_of (get_or sheet (cable_place n sheet line) 0)
  count_same line l =
      ap (λ (w : ℕ). 1 + second_of w)
      (ap (λ (k : ℕ). get_or (sheet ++ rest) k 0) (start_same line l)
      ∙ word_same (cable_place n sheet line) (omega (arith, place_next n sheet line, place_rises n sheet (suc line) m l)))

  pub selected_unread : (line : ℕ) → selected list (sheet ++ rest) line ≡ selected list sheet line
  selected_unread line = go (cable_step list sheet line)
    where
      go : CableStep list sheet line → selected list (sheet ++ rest) line ≡ selected list sheet line
      go (not_accepted_lem c p e) =
          selected_refuses_22 list (sheet ++ rest) line c p (rest_unread list sheet rest F ∙ e) ∙ sym (selected_refuses_22 list sheet line c p e)
      go (no_line e l) =
          selected_refuses_23 list (sheet ++ rest) line (rest_unread list sheet rest F ∙ e) l ∙ sym (selected_refuses_23 list sheet line e l)
      go (chosen e l) =
          selected_words list (sheet ++ rest) line (rest_unread list sheet rest F ∙ e) l ∙ ap₂ words_at (start_same line l) (count_same line l)
          ∙ sym (selected_words list sheet line e l)
