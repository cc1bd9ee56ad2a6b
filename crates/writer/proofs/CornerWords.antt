-- The corners of a course that goes up, each by its own test, and their words stored one behind the other. Assumes nothing.
use Prim.Native.Nat.{ℕ, suc, ◌+◌, ◌-◌, ◌<◌, ◌≤◌}
use native.Mathlib.Omega.{arith}
use mathlib.Core.Path.{◌≡◌, refl, sym, ap, ap₂, ◌∙◌}
use mathlib.Core.Bool.{Bool, true, false, not, ◌&&◌, ◌||◌}
use mathlib.Core.List.{List, [], ◌∷◌, ◌++◌, map, append-nil}
use lib.ListN.{length, set, length-map}
use lib.Seq.{sets, set_comm}
use lib.Dec.{eqb}
use borrow.Author.Tests.{ne_eqb}
use Rattle.lists.proofs.Filters.{length_cons_if}
use Rattle.lists.specs.Select.{one_if, cons_if}
use Rattle.lists.specs.Stores.{Stored}
use Rattle.lists.proofs.Tests.{one_if_le}
use Rattle.lists.proofs.Stores.{stored_none, stored_append, stored_as, stored_kept}
use Rattle.words.specs.Words.{corner_word, sheet_cable_word}
use Rattle.geometry.specs.Spots.{Spot}
use Rattle.drawing.specs.Sheet.{corner_spot_word, route_words}
use Rattle.layout.specs.Points.{Course, turns, drop_repeats, points_of, inner, corners_of}
use Rattle.layout.proofs.Turns.{same_column, same_row}

-- Corners

-- what stands between the first and the last of six spots, of which the third is kept
inner_kept :
    (a b d e : Bool) (p₀ p₁ p₂ p₃ p₄ p₅ : Spot)
    → inner (cons_if a p₀ (cons_if b p₁ (p₂ ∷ cons_if d p₃ (cons_if e p₄ (p₅ ∷ [])))))
    ≡ cons_if (a && b) p₁ (cons_if (a || b) p₂ (cons_if d p₃ (cons_if e p₄ [])))
unfolding inner
inner_kept true true true true p₀ p₁ p₂ p₃ p₄ p₅ = refl
inner_kept true true true false p₀ p₁ p₂ p₃ p₄ p₅ = refl
inner_kept true true false true p₀ p₁ p₂ p₃ p₄ p₅ = refl
inner_kept true true false false p₀ p₁ p₂ p₃ p₄ p₅ = refl
inner_kept true false true true p₀ p₁ p₂ p₃ p₄ p₅ = refl
inner_kept true false true false p₀ p₁ p₂ p₃ p₄ p₅ = refl
inner_kept true false false true p₀ p₁ p₂ p₃ p₄ p₅ = refl
inner_kept true false false false p₀ p₁ p₂ p₃ p₄ p₅ = refl
inner_kept false true true true p₀ p₁ p₂ p₃ p₄ p₅ = refl
inner_kept false true true false p₀ p₁ p₂ p₃ p₄ p₅ = refl
inner_kept false true false true p₀ p₁ p₂ p₃ p₄ p₅ = refl
inner_kept false true false false p₀ p₁ p₂ p₃ p₄ p₅ = refl
inner_kept false false true true p₀ p₁ p₂ p₃ p₄ p₅ = refl
inner_kept false false true false p₀ p₁ p₂ p₃ p₄ p₅ = refl
inner_kept false false false true p₀ p₁ p₂ p₃ p₄ p₅ = refl
inner_kept false false false false p₀ p₁ p₂ p₃ p₄ p₅ = refl

map_if : (b : Bool) (s : Spot) (l : List Spot) → map corner_spot_word (cons_if b s l) ≡ cons_if b (corner_word s.x s.y) [] ++ map corner_spot_word l
unfolding corner_spot_word
map_if true s l = refl
map_if false s l = refl

module _ (c : Course) where
  -- the cable leaves its lower part downward; beside its lower part's column; its upper part's; comes to its upper part from above
  abbrev pub dips : Bool
  dips = not (eqb c.from.y c.low)

  abbrev pub shifts : Bool
  shifts = not (eqb c.from.x c.column)

  abbrev pub returns : Bool
  returns = not (eqb c.column c.to.x)

  abbrev pub drops : Bool
  drops = not (eqb c.high c.to.y)

  corners_are :
      c.low < c.high
      → corners_of c
      ≡ cons_if (dips && shifts) (record { x = c.from.x; y = c.low })
      (cons_if (dips || shifts) (record { x = c.column; y = c.low })
      (cons_if returns (record { x = c.column; y = c.high })
      (cons_if drops (record { x = c.to.x; y = c.high })
      [])))
  unfolding corners_of points_of turns drop_repeats
  corners_are h =
      rw (
        same_column c.from.x c.from.y c.low,
        same_row c.from.x c.column c.low,
        same_column c.column c.low c.high,
        ne_eqb c.low c.high (λ e. omega arith),
        same_row c.column c.to.x c.high,
        same_column c.to.x c.high c.to.y,
      )
      (inner_kept dips shifts returns drops _ _ _ _ _ _)

  corner_words :
      c.low < c.high
      → map corner_spot_word (corners_of c)
      ≡ cons_if (dips && shifts) (corner_word c.from.x c.low) []
      ++ (cons_if (dips || shifts) (corner_word c.column c.low) []
      ++ (cons_if returns (corner_word c.column c.high) []
      ++ cons_if drops (corner_word c.to.x c.high) []))
  corner_words h = rw (corners_are h) (simp (map_if, append-nil))

  pub corner_count_lem : c.low < c.high → length (corners_of c) ≡ one_if (dips && shifts) + one_if (dips || shifts) + one_if returns + one_if drops
  corner_count_lem h = rw (corners_are h) (simp length_cons_if (omega arith))

-- Words stored

-- the room that is left, once a word is stored if it was to be
pub room_left :
    {l m : List ℕ} {at i : ℕ} (b : Bool) (w rest : ℕ) → Stored l at (cons_if b w []) m i → at + (one_if b + rest) ≤ length l → i + rest ≤ length m
room_left b w rest S h = omega (arith, S.place, length_cons_if b w [], stored_kept S)

-- behind the first corner, the second and the third, if they were to be stored
module _ (c : Course) {t : Bool} {l m : List ℕ} {at i : ℕ} where
  pub first_left :
      c.low < c.high → t ≡ (dips c && shifts c) → Stored l at (cons_if t (corner_word c.from.x c.low) []) m i → at + length (corners_of c) ≤ length l
      → i + (one_if (dips c || shifts c) + (one_if (returns c) + one_if (drops c))) ≤ length m
  first_left h e S b = room_left t (corner_word c.from.x c.low) _ S (omega (arith, corner_count_lem c h, ap one_if e))

  pub second_left :
      t ≡ (dips c || shifts c) → Stored l at (cons_if t (corner_word c.column c.low) []) m i
      → at + (one_if (dips c || shifts c) + (one_if (returns c) + one_if (drops c))) ≤ length l → i + (one_if (returns c) + one_if (drops c)) ≤ length m
  second_left e S b = room_left t (corner_word c.column c.low) _ S (omega (arith, ap one_if e))

pub third_left :
    (c : Course) {l m : List ℕ} {at i : ℕ} → Stored l at (cons_if (returns c) (corner_word c.column c.high) []) m i
    → at + (one_if (returns c) + one_if (drops c)) ≤ length l → i + one_if (drops c) ≤ length m
third_left c S b = room_left (returns c) (corner_word c.column c.high) _ S b

pub stored_taken : {l m : List ℕ} {at i v : ℕ} (b : Bool) (w : ℕ) → b ≡ true → v ≡ w → Stored l at (v ∷ []) m i → Stored l at (cons_if b w []) m i
stored_taken b w e f S = stored_as (ap (λ (z : ℕ). z ∷ []) f ∙ ap (λ (t : Bool). cons_if t w []) (sym e)) S

pub stored_left : (l : List ℕ) (at : ℕ) (b : Bool) (w : ℕ) → b ≡ false → Stored l at (cons_if b w []) l at
stored_left l at b w e = stored_as (ap (λ (t : Bool). cons_if t w []) (sym e)) (stored_none l refl)

-- four words, each if it was to be: the corners of a course
pub corners_stored :
    (c : Course) {l₀ l₁ l₂ l₃ l₄ : List ℕ} {a₀ a₁ a₂ a₃ a₄ : ℕ} (t₁ t₂ : Bool) → c.low < c.high → t₁ ≡ (dips c && shifts c) → t₂ ≡ (dips c || shifts c)
    → Stored l₀ a₀ (cons_if t₁ (corner_word c.from.x c.low) []) l₁ a₁
    → Stored l₁ a₁ (cons_if t₂ (corner_word c.column c.low) []) l₂ a₂
    → Stored l₂ a₂ (cons_if (returns c) (corner_word c.column c.high) []) l₃ a₃
    → Stored l₃ a₃ (cons_if (drops c) (corner_word c.to.x c.high) []) l₄ a₄
    → Stored l₀ a₀ (map corner_spot_word (corners_of c)) l₄ a₄
corners_stored c t₁ t₂ h e f S₁ S₂ S₃ S₄ =
    stored_as (sym (corner_words c h))
    (stored_append (stored_as (ap (λ (b : Bool). cons_if b (corner_word c.from.x c.low) []) e) S₁)
    (stored_append (stored_as (ap (λ (b : Bool). cons_if b (corner_word c.column c.low) []) f) S₂)
    (stored_append S₃ S₄)))

-- the head in front of the corners, which it counts
sets_head : (l vs : List ℕ) (at next w : ℕ) → at < next → set (sets l next vs) at w ≡ sets (set l at w) next vs
sets_head l [] at next w h = refl
sets_head l (v ∷ vs) at next w h =
    sets_head (set l next v) vs at (suc next) w (omega arith) ∙ ap (λ (z : List ℕ). sets z (suc next) vs) (set_comm l next at v w (λ e. omega arith))

pub corners_next : (c : Course) {l m : List ℕ} {at i : ℕ} → Stored l at (map corner_spot_word (corners_of c)) m i → i ≡ at + length (corners_of c)
corners_next c S = omega (arith, S.place, length-map (corners_of c) corner_spot_word)

pub corner_few : (c : Course) → c.low < c.high → length (corners_of c) ≤ 4
corner_few c h =
    omega (arith, corner_count_lem c h, one_if_le (dips c && shifts c), one_if_le (dips c || shifts c), one_if_le (returns c), one_if_le (drops c))

pub head_stored :
    (line : ℕ) (corners : List Spot) {l m n : List ℕ} {at next behind w : ℕ} → Stored l (at + 1) (map corner_spot_word corners) m next
    → w ≡ sheet_cable_word line (next - at - 1) → Stored m at (w ∷ []) n behind → Stored l at (route_words line corners) n next
unfolding route_words
head_stored line corners {l} {m} {n} {at} {next} {behind} {w} S e H =
    let k : next ≡ at + 1 + length corners = omega (arith, S.place, length-map corners corner_spot_word) in
    let f : w ≡ sheet_cable_word line (length corners) = omega (arith, e, k) in
    record {
      place = omega (arith, S.place);
      row =
          H.row
          ∙ ap (λ (z : List ℕ). set z at w) S.row
          ∙ sets_head l (map corner_spot_word corners) at (at + 1) w (omega arith)
          ∙ ap₂ (λ (z n : ℕ). sets (set l at z) n (map corner_spot_word corners)) f (omega arith);
    }
