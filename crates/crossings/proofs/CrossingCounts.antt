-- The crossings of a drawing's cables, counted among their courses. Assumes nothing.
use Prim.Native.Nat.{ℕ, zero, suc, ◌+◌, ◌-◌, ◌*◌, ◌^◌, ◌<◌, ◌≤◌}
use native.Mathlib.Numerals.{add-one}
use native.Mathlib.Omega.{arith}
use mathlib.Core.Path.{◌≡◌, refl, sym, ap, ap₂, ◌∙◌}
use mathlib.Core.Bool.{Bool}
use mathlib.Core.List.{List, [], ◌∷◌}
use lib.ListN.{length, get_or, take, drop, length-drop, drop_of_length-le}
use lib.Seq.{drop-cons}
use Rattle.std.specs.List.{sum_by, range_with_len}
use Rattle.std.proofs.lemmas.List.Sums.{sum_by-cons}
use Rattle.lists.proofs.Sums.{count_length}
use Rattle.std.proofs.Common.{get_or-drop, get_or-take, length-take-le}
use Rattle.words.specs.Limits.{most_cables}
use Rattle.lists.specs.Select.{count, one_if}
use Rattle.layout.specs.Over.{courses_cross}
use Rattle.placement.specs.declared.Layout.{Layout}
use Rattle.placement.specs.declared.Course.{Course}
use Rattle.placement.specs.Laid.{course_in, no_course}
use Rattle.placement.specs.Arrays.{layout_in}
use Rattle.placement.proofs.Layouts.{route_count, cross_is}
use Rattle.drawing.specs.Drawing.{no_route, Drawing, route_at, cross_pair, crossings_of, crossings}

-- two lists have as many that pass, where a place passes in the one if it does in the other
count_like : {A B : Type 0} (p : A → Bool) (q : B → Bool) (xs : List A) (ys : List B) (d : A) (e : B) → length xs ≡ length ys → ((k : ℕ) → k < length xs → p (get_or xs k d) ≡ q (get_or ys k e)) → count p xs ≡ count q ys
unfolding count
count_like p q [] [] d e h f = refl
count_like p q [] (y ∷ ys) d e h f = absurd (omega arith)
count_like p q (x ∷ xs) [] d e h f = absurd (omega arith)
count_like p q (x ∷ xs) (y ∷ ys) d e h f =
    ap₂ (λ (b : Bool) (n : ℕ). one_if b + n) (f 0 (omega arith)) (count_like p q xs ys d e (omega arith) (λ k l. f (suc k) (omega arith)))

-- the courses behind a line, and whether one crosses that of the line
abbrev pub behind : Layout → ℕ → List Course
behind l line = take (l.graph.cables - (line + 1)) (drop (line + 1) l.courses)

abbrev pub crosses : Layout → ℕ → Course → Bool
crosses l line d = courses_cross (course_in (get_or l.courses line no_course)) (course_in d)

module _ (l : Layout) (long : length l.courses ≡ most_cables) (line : ℕ) (h : line < l.graph.cables) where
  behind_long : length (behind l line) ≡ l.graph.cables - (line + 1)
  behind_long = length-take-le (l.graph.cables - (line + 1)) (drop (line + 1) l.courses) (omega (arith, length-drop (line + 1) l.courses, l.graph.is_ranked.few_cables))

  as_many : length (behind l line) ≡ length (drop (line + 1) (layout_in l).routes)
  as_many = omega (arith, behind_long, length-drop (line + 1) (layout_in l).routes, route_count l)

  at_place : (k : ℕ) → k < length (behind l line)
      → crosses l line (get_or (behind l line) k no_course) ≡ cross_pair (layout_in l) (route_at (layout_in l) line) (get_or (drop (line + 1) (layout_in l).routes) k no_route)
  unfolding route_at
  at_place k g =
      ap (crosses l line) (get_or-take (l.graph.cables - (line + 1)) (drop (line + 1) l.courses) k no_course (omega (arith, behind_long)) ∙ get_or-drop (line + 1) l.courses k no_course)
      ∙ cross_is l line (line + 1 + k) (omega arith) (omega (arith, behind_long))
      ∙ ap (cross_pair (layout_in l) (route_at (layout_in l) line)) (sym (get_or-drop (line + 1) (layout_in l).routes k no_route))

  -- as many cross as cables do
  pub count_behind : count (crosses l line) (behind l line) ≡ count (cross_pair (layout_in l) (route_at (layout_in l) line)) (drop (line + 1) (layout_in l).routes)
  count_behind = count_like (crosses l line) (cross_pair (layout_in l) (route_at (layout_in l) line)) (behind l line) (drop (line + 1) (layout_in l).routes) no_course no_route as_many at_place

-- Cable by cable

module _ (d : Drawing) where
  -- how many behind line i cross its cable
  abbrev pub crossed : ℕ → ℕ
  crossed i = count (cross_pair d (route_at d i)) (drop (i + 1) d.routes)

  crossed_few : (i : ℕ) → crossed i ≤ length d.routes
  crossed_few i = omega (arith, count_length (cross_pair d (route_at d i)) (drop (i + 1) d.routes), length-drop (i + 1) d.routes)

  from_line : (i n : ℕ) → i + n ≡ length d.routes → sum_by crossed (range_with_len i n) ≡ crossings_of d (drop i d.routes)
  unfolding crossings_of route_at
  from_line i zero e = rw (drop_of_length-le d.routes {i = i} (omega arith)) refl
  from_line i (suc n) e =
      sum_by-cons crossed i (range_with_len (i + 1) n) ∙ ap (λ (k : ℕ). crossed i + k) (from_line (i + 1) n (omega arith))
      ∙ rw (add-one, drop-cons d.routes i no_route (omega arith)) refl

  pub crossed_all : (n : ℕ) → n ≡ length d.routes → sum_by crossed (range_with_len 0 n) ≡ crossings d
  unfolding crossings
  crossed_all n e = from_line 0 n (omega arith)

  crossed_most : (i n : ℕ) → length d.routes ≤ most_cables → sum_by crossed (range_with_len i n) ≤ n * most_cables
  crossed_most i zero h = omega arith
  crossed_most i (suc n) h = omega (arith, sum_by-cons crossed i (range_with_len (i + 1) n), crossed_few i, crossed_most (i + 1) n h)

  pub crossed_fits : (n : ℕ) → n ≡ length d.routes → n ≤ most_cables → sum_by crossed (range_with_len 0 n) < 2 ^ 64
  crossed_fits n e h = omega (arith, crossed_most 0 n (omega arith))
