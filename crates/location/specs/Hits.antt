-- Request 2026-10: 'the screen names what lies there'. Assumes nothing.
use Rattle.std.specs.Prelude.{ℕ, List, [], ◌∷◌, map, length, Option, Some, None}
use Rattle.lists.specs.Search.{seek}
use Rattle.lists.specs.Select.{filter, range}
use Rattle.words.specs.Words.{mark_x, mark_y, blank_hit, part_hit, cable_hit, crossing_hit, hit_word}
use Rattle.station.specs.Station.{Station}
use Rattle.geometry.specs.Spots.{Spot, spot_at, same_spot}
use Rattle.drawing.specs.Drawing.{Drawing, spot_of}
use Rattle.validation.specs.Alone.{on_line}
use Rattle.validation.specs.Directions.{shown}
use Rattle.validation.specs.Rules.{points_right}
use Rattle.location.specs.declared.Hit.{Hit}
use Rattle.location.specs.declared.Hit.TheVariants.{Blank, Part, Cable, Crossing}

-- the spot that is marked
abbrev pub mark_spot : ℕ → Spot
mark_spot w = spot_at (mark_x w) (mark_y w)

-- the part whose spot this is
unfoldable pub part_at : ℕ → Drawing → Spot → Option ℕ
part_at n d s = seek (λ p. same_spot (spot_of d p) s) 0 n

-- the cables whose lines have the spot, by rising line; each line is read in a direction in which it is right
unfoldable pub cables_at : Station → Drawing → Spot → List ℕ
cables_at st d s = filter (λ i. on_line (points_right st d i) s) (range (length st.cables))

-- 'blank .. one cable, or two cables crossing', 'of two cables the lower line is named first'; there are never three (`no_third`)
abbrev pub named : List ℕ → Hit
named [] = Blank
named (i ∷ []) = Cable i
named (i ∷ j ∷ more) = Crossing i j

-- 'at a part's spot it names the part alone'
abbrev pub part_or : Option ℕ → Hit → Hit
part_or (Some p) cables = Part (record { 0 = p })
part_or None cables = cables

-- what lies at a spot of an accepted sheet
unfoldable pub hit_at : Station → List ℕ → Spot → Hit
hit_at st sheet s = let d = shown st sheet in part_or (part_at st.parts d s) (named (cables_at st d s))

-- each answer as a word
abbrev pub word_to : Hit → ℕ
word_to Blank = hit_word blank_hit 0 0
word_to (Part p) = hit_word part_hit p.0 0
word_to (Cable i) = hit_word cable_hit i 0
word_to (Crossing i j) = hit_word crossing_hit i j

-- 'Each mark on an accepted sheet is answered as if alone, in the marks' sequence'
unfoldable pub hit_words : Station → List ℕ → List ℕ → List ℕ
hit_words st sheet marks = map (λ w. word_to (hit_at st sheet (mark_spot w))) marks
