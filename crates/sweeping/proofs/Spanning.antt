-- The span of rows of a line: from its lowest point to its highest. Assumes nothing.
use Prim.Native.Nat.{ℕ, ◌+◌, ◌<◌, ◌≤◌}
use native.Mathlib.Omega.{arith}
use mathlib.Core.Path.{◌≡◌, refl, sym, ◌∙◌}
use mathlib.Core.Bool.{Bool, true, false, ◌&&◌}
use mathlib.Core.List.{List, map}
use lib.ListN.{length, get_or, set, length-map, length-set}
use lib.Seq.{get_or-set_same, get_or-set_other}
use lib.Dec.{leb}
use borrow.Author.Count.{below_more}
use borrow.Author.Tests.{leb-false}
use Rattle.words.specs.Words.{second_of}
use Rattle.lists.proofs.Select.{get_d_map}
use Rattle.station.specs.Station.{station_of}
use Rattle.geometry.specs.Spots.{Spot, origin}
use Rattle.geometry.specs.Lines.{point}
use Rattle.drawing.specs.Drawing.{route_at}
use Rattle.drawing.specs.Reading.{word_spot}
use Rattle.validation.specs.Directions.{shown}
use Rattle.sweep.specs.Visits.{line_visits}
use Rattle.sweep.specs.Sweep.{route_visits}
use Rattle.sweep.proofs.Reach.{Aside, line_none}
use Rattle.directions.specs.Code.{corner_words, Trace, trace_at}
use Rattle.sweeping.specs.declared.spans.Span.{Span}
use Rattle.sweeping.specs.Rows.{reaches_row, NoneOutside, no_span}
use Rattle.sweeping.specs.Able.{Sweepable}
use Rattle.sweeping.specs.Code.{drawn_in, visits_along}
use Rattle.sweeping.proofs.RowSteps.{AtLine, at_first, at_next, at_visits}

-- a row outside the span has all of the span's rows below it, or all above
outside_aside : (span : Span) (y : ℕ) → reaches_row span y ≡ false → (below : Bool) × ((r : ℕ) → span.low ≤ r → r ≤ span.high → Aside below y r)
outside_aside span y e = go (leb span.low y) refl (leb y span.high) refl e
  where
    go :
        (a : Bool) → leb span.low y ≡ a → (b : Bool) → leb y span.high ≡ b → (a && b) ≡ false
        → (below : Bool) × ((r : ℕ) → span.low ≤ r → r ≤ span.high → Aside below y r)
    go true f true g n = absurd (let z : ◌≡◌ {A = ℕ} 0 1 = cc in omega arith)
    go true f false g n = let h = leb-false y span.high g in (true, λ r k l. omega arith)
    go false f b g n = let h = leb-false span.low y f in (false, λ r k l. omega arith)

-- The ends and the corners before corner k are within the rows that the span has so far

pub record Within (low high r : ℕ) : Type 0 where
  pub from : low ≤ r
  pub to : r ≤ high

pub record Widening (first : Spot) (corners : List ℕ) (last : Spot) (low high k : ℕ) : Type 0 where
  pub first_in : Within low high first.y
  pub last_in : Within low high last.y
  pub corners_in : (j : ℕ) → j < k → Within low high (second_of (get_or corners j 0))

module _ {first : Spot} {corners : List ℕ} {last : Spot} {low high k : ℕ} (W : Widening first corners last low high k) where
  pub widening_end : length corners ≤ k → NoneOutside (record { low = low; high = high }) (λ y. line_visits y first (map word_spot corners) last)
  unfolding point word_spot
  widening_end h y n =
      let a = outside_aside (record { low = low; high = high }) y n in
      line_none y a.0 first (map word_spot corners) last
      (a.1 first.y W.first_in.from W.first_in.to)
      (λ j i.
      let w = W.corners_in j (omega (arith, simp length-map at i)) in
      rw (get_d_map word_spot corners j 0 origin (simp length-map at i)) (a.1 (second_of (get_or corners j 0)) w.from w.to))
      (a.1 last.y W.last_in.from W.last_in.to)

-- The spans of the lines before line i have been found

pub record Filling (list sheet : List ℕ) (forward : List Bool) (lines : ℕ) (spans : List Span) (at i : ℕ) : Type 0 where
  pub here : AtLine list sheet forward lines at i
  pub room : lines ≤ length spans
  pub found :
      (j : ℕ) → j < i
      → NoneOutside (get_or spans j no_span) (λ y. route_visits (drawn_in list sheet forward lines) y (route_at (drawn_in list sheet forward lines) j))

pub filling_start :
    {list sheet : List ℕ} {forward : List Bool} {lines : ℕ} (spans : List Span) {at : ℕ} → Sweepable list sheet forward lines
    → lines ≤ length spans → at ≡ 1 + (station_of list).parts → Filling list sheet forward lines spans at 0
filling_start spans A h e = record { here = at_first A e; room = h; found = λ j l. absurd (omega arith) }

module _
    {list sheet : List ℕ} {forward : List Bool} {lines : ℕ} {spans : List Span} {at i : ℕ}
    (F : Filling list sheet forward lines spans at i) where
  pub filling_next :
      i < lines → {corners : List ℕ} → corners ≡ corner_words sheet at → {t : Trace}
      → t ≡ trace_at (station_of list) (shown (station_of list) sheet) (get_or forward i false) i
      → (s : Span) → NoneOutside s (λ y. visits_along y t)
      → Filling list sheet forward lines (set spans i s) (at + (1 + length corners)) (i + 1)
  filling_next h e f s n = record {
    here = at_next F.here h e;
    room = simp length-set F.room;
    found =
        below_more _ i (λ j l. rw (get_or-set_other spans i j s no_span (λ q. omega arith)) (F.found j l))
        (rw (get_or-set_same spans i s no_span (omega (arith, F.room))) (λ y o. sym (at_visits F.here h e f y) ∙ n y o));
  }
