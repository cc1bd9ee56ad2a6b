-- A cable's word looked for from the first cable on, and a box grown over the words of its corners, from the facts that the code's loops
-- leave. Assumes nothing.
use Prim.Native.Nat.{ℕ, ◌+◌, ◌<◌, ◌≤◌}
use native.Mathlib.Omega.{arith}
use native.Mathlib.Numerals.{add-one}
use mathlib.Core.Path.{◌≡◌, sym, ap, ◌∙◌}
use mathlib.Core.List.{List, ◌∷◌, map}
use lib.ListN.{length, get_or, drop, drop_of_length-le}
use lib.Seq.{drop-cons}
use Rattle.words.specs.Words.{second_of}
use Rattle.station.specs.Station.{station_of}
use Rattle.geometry.specs.Spots.{Spot, spot_at}
use Rattle.drawing.specs.Reading.{word_spot}
use Rattle.validation.specs.Layout.{Follows}
use Rattle.validation.specs.Facing.{line_over}
use Rattle.directions.specs.Code.{corner_words}
use Rattle.directions.proofs.Choosing.{AtCable, cable_first, cable_inside, cable_next}
use Rattle.bounds.specs.declared.Bounds.{Bounds}
use Rattle.bounds.specs.Boxes.{alone, grown, grown_by, box_of}
use Rattle.bounds.proofs.Grown.{box_of_snoc}

-- The place of a cable's word

-- the word of cable i, up to the one at this line, stands at this place
pub record Placing (list sheet : List ℕ) (line at i : ℕ) : Type 0 where
  pub is_line : line < length (station_of list).cables
  pub few : i ≤ line
  pub here : AtCable list sheet at i

pub placing_start :
    {list sheet : List ℕ} {line n : ℕ} → Follows (station_of list).parts (length (station_of list).cables) sheet
    → line < length (station_of list).cables → n ≡ (station_of list).parts → Placing list sheet line (1 + n) 0
placing_start follows l e = record { is_line = l; few = omega arith; here = cable_first follows e }

module _ {list sheet : List ℕ} {line at i : ℕ} (P : Placing list sheet line at i) where
  -- it is in the sheet, and so are the corners that it counts
  pub placing_inside : at + 1 + second_of (get_or sheet at 0) ≤ length sheet
  placing_inside = cable_inside P.here (omega (arith, P.is_line, P.few))

  pub placing_next : i < line → {corners : List ℕ} → corners ≡ corner_words sheet at → Placing list sheet line (at + (1 + length corners)) (i + 1)
  placing_next l e = record {
    is_line = P.is_line;
    few = omega arith;
    here = cable_next P.here e (omega (arith, P.is_line, P.few));
  }

-- The box over a cable's corners

-- the box that began as the first, grown by the corners before word k
pub record Growing (corners : List ℕ) (first bounds : Bounds) (k : ℕ) : Type 0 where
  pub few : k ≤ length corners
  pub rest : grown_by bounds (map word_spot (drop k corners)) ≡ grown_by first (map word_spot corners)

module _ {corners : List ℕ} {first bounds : Bounds} {k : ℕ} (G : Growing corners first bounds k) where
  pub growing_next :
      k < length corners → {x y : ℕ} → spot_at x y ≡ word_spot (get_or corners k 0) → {after : Bounds} → after ≡ grown bounds x y
      → Growing corners first after (k + 1)
  unfolding grown_by
  growing_next l {x} {y} e {after} g = record { few = omega arith; rest = step ∙ G.rest }
    where
      step : grown_by after (map word_spot (drop (k + 1) corners)) ≡ grown_by bounds (map word_spot (drop k corners))
      step = rw (g, add-one, drop-cons corners k 0 l, ← e)

  grown_all : length corners ≤ k → bounds ≡ grown_by first (map word_spot corners)
  unfolding grown_by
  grown_all l = rw (drop_of_length-le corners l) at G.rest

  pub growing_end :
      length corners ≤ k → {p : Spot} → first ≡ alone p → (x y : ℕ) {after : Bounds} → after ≡ grown bounds x y
      → after ≡ box_of (line_over p (map word_spot corners) (spot_at x y))
  unfolding box_of
  growing_end l {p} f x y g =
      g ∙ ap (λ (b : Bounds). grown b x y) (grown_all l ∙ ap (λ (b : Bounds). grown_by b (map word_spot corners)) f)
      ∙ sym (box_of_snoc (p ∷ map word_spot corners) (spot_at x y) (omega arith))
