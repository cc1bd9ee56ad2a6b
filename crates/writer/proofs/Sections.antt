-- A drawing's words section by section: those of the parts from a part on, of the cables and of the lengths from a line on, one at a time,
-- and all sections stored under other numbers of the parts, which change the section of the parts alone. Assumes nothing.
use Prim.Native.Nat.{ℕ, suc, ◌+◌, ◌<◌, ◌≤◌}
use native.Mathlib.Omega.{arith}
use native.Mathlib.Numerals.{add-one}
use mathlib.Core.Path.{◌≡◌, refl, sym, ap, ap₂, ◌∙◌}
use mathlib.Core.List.{List, [], ◌∷◌, ◌++◌, map}
use lib.ListN.{length, get_or, drop, drop_of_length-le}
use lib.Seq.{drop-cons}
use Rattle.lists.specs.Select.{tabulate, sum}
use Rattle.lists.specs.Stores.{Stored}
use Rattle.lists.proofs.Sums.{sum_tabulate_zero, sum_tabulate}
use Rattle.lists.proofs.Stores.{stored_append, stored_as}
use Rattle.words.specs.Words.{sheet_head_word, cable_length_word, total_length_word}
use Rattle.drawing.specs.declared.spacing.Spacing.{Spacing}
use Rattle.geometry.specs.Spots.{origin}
use Rattle.drawing.specs.Drawing.{Route, no_route, Drawing, spot_of, route_at, points_at, Meets, renumbered}
use Rattle.drawing.specs.Lengths.{line_length, cable_lengths}
use Rattle.drawing.specs.Sheet.{part_spot_word, route_words, routes_words, length_words, head_section, parts_section, cables_section, lengths_section, drawing_words, sheet_words}
use Rattle.drawing.specs.Spacing.{spaced_route, spaced}
use Rattle.drawing.proofs.Lengths.{lengths_count, length_at}
use Rattle.drawing.proofs.LengthWords.{length_words_length, record_at, total_at}
use Rattle.drawing.proofs.Renumbered.{Names, lengths_renumbered}

-- Cables by their corners

kept_words :
    (f g : Route → Route) → ((r : Route) → (f (g r)).corners ≡ (f r).corners) → (line : ℕ) (rs : List Route)
    → routes_words line (map f (map g rs)) ≡ routes_words line (map f rs)
unfolding routes_words
kept_words f g h line [] = refl
kept_words f g h line (r ∷ rs) = ap₂ (λ (a b : List ℕ). a ++ b) (ap (route_words line) (h r)) (kept_words f g h (line + 1) rs)

module _ (s : Spacing) (names : List ℕ) (d : Drawing) where
  cables_renumbered : cables_section (spaced s (renumbered names d)) ≡ cables_section (spaced s d)
  unfolding cables_section spaced spaced_route renumbered
  cables_renumbered = kept_words (spaced_route s) _ (λ r. refl) 0 d.routes

  head_renumbered : head_section (spaced s (renumbered names d)) ≡ head_section (spaced s d)
  unfolding head_section spaced renumbered
  head_renumbered = refl

module _ (d : Drawing) where
  pub head_as : {w h v : ℕ} → d.width ≡ w → d.height ≡ h → v ≡ sheet_head_word w h → v ∷ [] ≡ head_section d
  unfolding head_section
  head_as e f g = rw (e, f, g) refl

  -- the parts from part p on
  abbrev pub parts_from : ℕ → List ℕ
  parts_from p = map part_spot_word (drop p d.parts)

  pub parts_next : (p : ℕ) → p < length d.parts → parts_from p ≡ part_spot_word (spot_of d p) ∷ parts_from (p + 1)
  unfolding spot_of
  parts_next p h = rw (add-one, drop-cons d.parts p origin h) refl

  pub parts_end : (p : ℕ) → length d.parts ≤ p → parts_from p ≡ []
  parts_end p h = ap (map part_spot_word) (drop_of_length-le d.parts h)

  -- the cables from a line on
  abbrev pub cables_from : ℕ → List ℕ
  cables_from line = routes_words line (drop line d.routes)

  pub cables_next : (line : ℕ) → line < length d.routes → cables_from line ≡ route_words line (route_at d line).corners ++ cables_from (line + 1)
  unfolding routes_words route_at
  cables_next line h =
      ap (routes_words line) (drop-cons d.routes line no_route h)
      ∙ ap (λ (k : ℕ). route_words line (get_or d.routes line no_route).corners ++ routes_words (line + 1) (drop k d.routes)) (sym (add-one line))

  pub cables_end : (line : ℕ) → length d.routes ≤ line → cables_from line ≡ []
  unfolding routes_words
  cables_end line h = ap (routes_words line) (drop_of_length-le d.routes h)

  -- the lengths from a line on, and their total
  abbrev pub lengths_from : ℕ → List ℕ
  lengths_from line = drop line (lengths_section d)

  pub lengths_next :
      (line : ℕ) → line < length d.routes → lengths_from line ≡ cable_length_word line (line_length (points_at d line)) ∷ lengths_from (line + 1)
  unfolding lengths_section
  lengths_next line h =
      let words : List ℕ = length_words (cable_lengths d) in
      let e = record_at (cable_lengths d) line (omega (arith, lengths_count d)) ∙ ap (cable_length_word line) (length_at d line h) in
      drop-cons words line 0 (omega (arith, length_words_length (cable_lengths d), lengths_count d))
      ∙ ap₂ (λ (z k : ℕ). z ∷ drop k words) e (sym (add-one line))

  -- the length of all lines before a line
  abbrev pub length_before : ℕ → ℕ
  length_before line = sum (tabulate line (λ i. line_length (points_at d i)))

  pub before_first : 0 ≡ length_before 0
  before_first = sym (sum_tabulate_zero (λ i. line_length (points_at d i)))

  pub before_next : (line : ℕ) → length_before (line + 1) ≡ length_before line + line_length (points_at d line)
  before_next line = ap length_before (add-one line) ∙ sum_tabulate (λ i. line_length (points_at d i)) line

  pub lengths_last : (line : ℕ) → line ≡ length d.routes → lengths_from line ≡ total_length_word (length_before line) ∷ []
  unfolding lengths_section cable_lengths
  lengths_last line e =
      let words : List ℕ = length_words (cable_lengths d) in
      let k : line ≡ length (cable_lengths d) = e ∙ sym (lengths_count d) in
      let n : length words ≡ suc line = omega (arith, length_words_length (cable_lengths d)) in
      drop-cons words line 0 (omega arith)
      ∙ ap₂ (λ (z : ℕ) (l : List ℕ). z ∷ l)
      (ap (λ (j : ℕ). get_or words j 0) k ∙ total_at (cable_lengths d) ∙ ap (λ (j : ℕ). total_length_word (length_before j)) (sym e))
      (drop_of_length-le words {i = suc line} (omega arith))

-- The sections one behind the other

module _ (s : Spacing) (names : List ℕ) (d : Drawing) (N : Names (length d.parts) names) (M : Meets d) where
  section_renumbered : lengths_section (renumbered names d) ≡ lengths_section d
  unfolding lengths_section
  section_renumbered = ap length_words (lengths_renumbered names d N M)

  pub sections_stored :
      {l₀ l₁ l₂ l₃ l₄ head : List ℕ} {a₁ a₂ a₃ a₄ : ℕ} → head ≡ head_section (spaced s d)
      → Stored l₀ 0 head l₁ a₁ → Stored l₁ a₁ (parts_section (spaced s (renumbered names d))) l₂ a₂ → Stored l₂ a₂ (cables_section (spaced s d)) l₃ a₃
      → Stored l₃ a₃ (lengths_section d) l₄ a₄ → Stored l₀ 0 (sheet_words s (renumbered names d)) l₄ a₄
  unfolding sheet_words drawing_words
  sections_stored e S T U W =
      stored_append
      (stored_append (stored_as (e ∙ sym (head_renumbered s names d)) S) (stored_append T (stored_as (sym (cables_renumbered s names d)) U)))
      (stored_as (sym section_renumbered) W)
