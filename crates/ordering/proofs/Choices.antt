-- Laws of the tests of the next part, by flags: those that need no walk, and all of them. Assumes nothing.
use Rattle.std.specs.Prelude.{Option, Some, None}
use Prim.Native.Nat.{ℕ, ◌<◌}
use mathlib.Core.Path.{◌≡◌, refl, sym, ap, ◌∙◌}
use mathlib.Core.Bool.{Bool, beq, true, false, not, ◌&&◌, false≢true}
use mathlib.Core.List.{List}
use lib.ListN.{get_or}
use lib.Dec.{eqb}
use borrow.Author.Tests.{eqb-false, not-true, not-false}
use Rattle.lists.specs.Search.{is_found}
use Rattle.lists.specs.Select.{member, any, without}
use Rattle.lists.proofs.Filters.{any_same}
use Rattle.station.specs.Station.{station_of}
use Rattle.order.specs.Reach.{neighbours, connected}
use Rattle.order.specs.Order.{candidate}
use Rattle.reachability.specs.declared.adjacency.Neighbours.{Neighbours}
use Rattle.reachability.specs.Tables.{has_neighbour, Adjacent, set_of, CutOff}
use Rattle.words.specs.declared.Part.{Part}
use Rattle.ordering.specs.Numbers.{part_numbers}
use Rattle.ordering.proofs.Numbers.{part_number}
use Rattle.ordering.specs.Choices.{Witnesses, known_separator, may_be_next, eligible}
use Rattle.order.proofs.Reach.{connected_iff}
use Rattle.reachability.proofs.Flags.{member_flagged}
use Rattle.reachability.proofs.AdjacencyTable.{joined_inside}
use Rattle.ordering.proofs.Witnesses.{witness_holds}

-- A known separator

module _ (list : List ℕ) (flags : List Bool) (witness : List Part) (w : ℕ) {a : ℕ} (ea : a ≡ (station_of list).analyser) where
  pub known_both : get_or flags a false ≡ true → get_or flags (get_or witness w (record { 0 = 0 })).0 false ≡ known_separator list flags (part_numbers witness) w
  unfolding known_separator
  known_both e = rw (← ea, e) (ap (λ (q : ℕ). get_or flags q false) (part_number witness w))

  pub known_not : get_or flags a false ≡ false → get_or flags a false ≡ known_separator list flags (part_numbers witness) w
  unfolding known_separator
  known_not e = rw (← ea, e) refl

-- The tests together

is_false : (b : Bool) → beq b false ≡ not b
is_false true = refl
is_false false = refl

some_false : (a b c d e : Bool) → (a && b && not c && d) ≡ false → (a ≡ true → b ≡ true → c ≡ true → e ≡ false) → false ≡ (a && (b && d && e))
some_false false b c d e f h = refl
some_false true false c d e f h = refl
some_false true true true false e f h = refl
some_false true true true true e f h = sym (h refl refl refl)
some_false true true false false e f h = refl
some_false true true false true e f h = absurd (false≢true (sym f))

all_true : (a b c d e : Bool) → (a && b && not c && d) ≡ true → e ≡ (a && (b && d && e))
all_true false b c d e f = absurd (false≢true f)
all_true true false c d e f = absurd (false≢true f)
all_true true true true d e f = absurd (false≢true f)
all_true true true false false e f = absurd (false≢true f)
all_true true true false true e f = refl

module _ {list : List ℕ} {table : List Neighbours} {flags : List Bool} {witness : List ℕ} {w : ℕ} (A : Adjacent list table) (W : Witnesses list flags witness) (h : w < (station_of list).parts)
    {r : Bool} (er : r ≡ may_be_next list table flags witness w) where
  -- what remains without w
  abbrev rest : List ℕ
  rest = without w (set_of list flags)

  neighbours_border : has_neighbour table flags w false ≡ any (λ q. not (member q (set_of list flags))) (neighbours (station_of list).cables w)
  unfolding has_neighbour
  neighbours_border =
      ap (any (λ q. beq (get_or flags q false) false)) (A.by_line w)
      ∙ any_same _ _ (neighbours (station_of list).cables w)
      (λ q m. is_false (get_or flags q false) ∙ ap not (sym (member_flagged (station_of list).parts flags q (joined_inside A.wired w m))))

  known_cuts : get_or flags w false ≡ true → not (eqb w (station_of list).analyser) ≡ true → known_separator list flags witness w ≡ true → connected (station_of list).cables rest ≡ false
  known_cuts fw ne k = go (connected (station_of list).cables rest) refl
    where
      go : (b : Bool) → connected (station_of list).cables rest ≡ b → connected (station_of list).cables rest ≡ false
      go false e = e
      go true e =
          absurd (witness_holds W A.wired h fw (eqb-false w (station_of list).analyser (not-true (eqb w (station_of list).analyser) ne)) k
          ((connected_iff (station_of list).cables (without w (set_of list flags))).0 e))

  pub eligible_not : not r ≡ true → false ≡ eligible list flags w
  unfolding may_be_next eligible candidate
  eligible_not e =
      rw (← neighbours_border)
      (some_false (get_or flags w false) (not (eqb w (station_of list).analyser)) (known_separator list flags witness w) (has_neighbour table flags w false)
      (connected (station_of list).cables rest) (sym er ∙ not-true r e) known_cuts)

  eligible_walk : not r ≡ false → connected (station_of list).cables rest ≡ eligible list flags w
  unfolding may_be_next eligible candidate
  eligible_walk e =
      rw (← neighbours_border)
      (all_true (get_or flags w false) (not (eqb w (station_of list).analyser)) (known_separator list flags witness w) (has_neighbour table flags w false)
      (connected (station_of list).cables rest) (sym er ∙ not-false r e))

  -- after the walk
  pub eligible_none : {found : Option ℕ} → not r ≡ false → CutOff list (without w (set_of list flags)) found → found ≡ None → true ≡ eligible list flags w
  eligible_none e C f = sym (not-false (connected (station_of list).cables rest) (sym C.test ∙ ap is_found f)) ∙ eligible_walk e

  pub eligible_cut : {found : Option ℕ} {q : ℕ} → not r ≡ false → CutOff list (without w (set_of list flags)) found → found ≡ Some q → false ≡ eligible list flags w
  eligible_cut e C f = sym (not-true (connected (station_of list).cables rest) (sym C.test ∙ ap is_found f)) ∙ eligible_walk e
