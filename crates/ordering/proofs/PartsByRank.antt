-- Laws of the parts by rank as they are chosen: the lowest that passes, and the order up to a rank. Assumes nothing.
use Rattle.std.specs.Prelude.{Option, Some, None}
use Prim.Native.Nat.{ℕ, zero, suc, ◌+◌, ◌-◌, ◌<◌, ◌≤◌}
use native.Mathlib.Omega.{arith}
use native.Mathlib.Numerals.{add-one}
use native.Mathlib.Decide.{ℕ_discrete}
use mathlib.Core.Path.{◌≡◌, refl, sym, ap, ◌∙◌, subst}
use mathlib.Core.Logic.{◌⊎◌, inl, inr}
use mathlib.Core.Bool.{Bool, true, false, cond, ◌&&◌}
use mathlib.Core.List.{List, [], ◌∷◌, ◌++◌, append_assoc, append-nil}
use lib.ListN.{length, get_or, take, set, replicate, length-set, length-replicate}
use lib.Seq.{get_or-set_same, get_or-set_other, take-suc-set}
use Rattle.words.specs.Limits.{most_parts}
use Rattle.lists.specs.Search.{seek, place_or}
use Rattle.lists.specs.Select.{up_from, range, cons_if, filter, without}
use Rattle.lists.proofs.Seek.{First, NoneOf, seek_cases}
use Rattle.lists.proofs.Seeking.{Seeking, seeking_next, seeking_at, seeking_end}
use Rattle.lists.proofs.Slices.{replicate_below}
use Rattle.lists.proofs.Kept.{map_replicate}
use Rattle.words.specs.declared.Part.{Part}
use Rattle.station.specs.Station.{station_of}
use Rattle.station.specs.Code.{Wired}
use Rattle.order.specs.Order.{first_or, extend, order}
use Rattle.ordering.specs.Numbers.{part_numbers}
use Rattle.reachability.specs.Tables.{flagged, set_of}
use Rattle.ordering.specs.Choices.{eligible, chosen_part}
use Rattle.reachability.proofs.Flags.{without_flagged, flagged_all}
use Rattle.ordering.proofs.Numbers.{numbers_set, numbers_length}

-- The lowest that passes

first_or_seek : (d : ℕ) (p f : ℕ → Bool) (i k : ℕ) → place_or d (seek (λ x. f x && p x) i k) ≡ first_or d p (filter f (up_from i k))
unfolding seek first_or filter up_from
first_or_seek d p f i zero = refl
first_or_seek d p f i (suc k) = go (f i) (p i) refl (first_or_seek d p f (i + 1) k)
  where
    go : (a b : Bool) → p i ≡ b → place_or d (seek (λ x. f x && p x) (i + 1) k) ≡ first_or d p (filter f (up_from (i + 1) k))
        → place_or d (cond (a && b) (Some i) (seek (λ x. f x && p x) (i + 1) k)) ≡ first_or d p (cons_if a i (filter f (up_from (i + 1) k)))
    go false b h e = e
    go true false h e = rw h e
    go true true h e = rw h refl

module _ (list : List ℕ) (flags : List Bool) where
  chosen_seek : place_or (station_of list).analyser (seek (eligible list flags) 0 (station_of list).parts) ≡ chosen_part list flags
  unfolding eligible chosen_part flagged range
  chosen_seek = first_or_seek (station_of list).analyser _ (λ p. get_or flags p false) 0 (station_of list).parts

module _ (list : List ℕ) (flags : List Bool) {n w : ℕ} (S : Seeking (eligible list flags) n w) where
  pub chosen_next : {r : Bool} → w < n → r ≡ eligible list flags w → r ≡ false → Seeking (eligible list flags) n (w + 1)
  chosen_next h e f = seeking_next S h (sym e ∙ f)

  module _ (c : n ≡ (station_of list).parts) where
    to_chosen : {r : Option ℕ} → r ≡ seek (eligible list flags) 0 n → place_or (station_of list).analyser r ≡ chosen_part list flags
    to_chosen e = ap (place_or (station_of list).analyser) (rw c at e) ∙ chosen_seek list flags

    pub chosen_at : {r : Bool} → w < n → r ≡ eligible list flags w → r ≡ true → w ≡ chosen_part list flags
    chosen_at h e f = to_chosen (seeking_at S h (sym e ∙ f))

    pub chosen_none : {t : ℕ} → t ≡ (station_of list).analyser → n ≤ w → t ≡ chosen_part list flags
    chosen_none et h = et ∙ to_chosen (seeking_end S h)

-- The order as it is made

-- the parts ranked so far, and the rest of the order from those that are unranked
pub record Ordering (list : List ℕ) (part : List Part) (flags : List Bool) (k : ℕ) : Type 0 where
  pub places : length part ≡ most_parts
  pub inside : (j : ℕ) → get_or (part_numbers part) j 0 < most_parts
  pub ranked : k ≤ (station_of list).parts
  pub rest : take k (part_numbers part) ++ extend (station_of list).cables (station_of list).analyser ((station_of list).parts - k) (set_of list flags) ≡ order (station_of list)

extend_next : (list : List ℕ) (flags : List Bool) (k w : ℕ) → k < (station_of list).parts → w ≡ chosen_part list flags
    → w ∷ extend (station_of list).cables (station_of list).analyser ((station_of list).parts - (k + 1)) (set_of list (set flags w false))
    ≡ extend (station_of list).cables (station_of list).analyser ((station_of list).parts - k) (set_of list flags)
unfolding extend chosen_part
extend_next list flags k w h e =
    let m : (station_of list).parts - k ≡ suc ((station_of list).parts - (k + 1)) = omega arith in
    ap (λ (l : List ℕ). w ∷ extend (station_of list).cables (station_of list).analyser ((station_of list).parts - (k + 1)) l) (sym (without_flagged (station_of list).parts flags w))
    ∙ ap (λ (x : ℕ). x ∷ extend (station_of list).cables (station_of list).analyser ((station_of list).parts - (k + 1)) (without x (set_of list flags))) e
    ∙ ap (λ (j : ℕ). extend (station_of list).cables (station_of list).analyser j (set_of list flags)) (sym m)

chosen_inside : (list : List ℕ) → Wired (station_of list) → (flags : List Bool) → chosen_part list flags < (station_of list).parts
chosen_inside list W flags = subst (λ (x : ℕ). x < (station_of list).parts) (chosen_seek list flags) (go (seek_cases (eligible list flags) 0 (station_of list).parts))
  where
    go : ((x : ℕ) × (seek (eligible list flags) 0 (station_of list).parts ≡ Some x) × First (eligible list flags) 0 (station_of list).parts x)
        ⊎ ((seek (eligible list flags) 0 (station_of list).parts ≡ None) × NoneOf (eligible list flags) 0 (station_of list).parts)
        → place_or (station_of list).analyser (seek (eligible list flags) 0 (station_of list).parts) < (station_of list).parts
    go (inl f) = rw f.1 (omega (arith, f.2.below))
    go (inr f) = rw f.0 W.analyser

pub chosen_below : (list : List ℕ) (flags : List Bool) {w : ℕ} → Wired (station_of list) → w ≡ chosen_part list flags → w < most_parts
chosen_below list flags W e = omega (arith, e, chosen_inside list W flags, W.most)

pub ordering_start : {list : List ℕ} {s : Part} → Wired (station_of list) → s.0 ≡ (station_of list).source
    → {flags : List Bool} → flags ≡ set (replicate most_parts true) (station_of list).source false → Ordering list (replicate most_parts s) flags 1
unfolding order part_numbers
ordering_start {list} {s} W e same =
    subst (λ (f : List Bool). Ordering list (replicate most_parts s) f 1) (sym (same ∙ ap (λ (x : ℕ). set (replicate most_parts true) x false) (sym e)))
    (record {
      places = length-replicate most_parts s;
      inside = λ j. subst (λ (l : List ℕ). get_or l j 0 < most_parts) (sym (map_replicate (λ (p : Part). p.0) most_parts s)) (replicate_below most_parts s.0 most_parts j (omega (arith, W.source, W.most)));
      ranked = omega (arith, W.least);
      rest =
          ap (λ (l : List ℕ). s.0 ∷ extend (station_of list).cables (station_of list).analyser ((station_of list).parts - 1) l)
          (sym (without_flagged (station_of list).parts (replicate most_parts true) s.0) ∙ ap (without s.0) (flagged_all (station_of list).parts W.most))
          ∙ ap (λ (x : ℕ). x ∷ extend (station_of list).cables (station_of list).analyser ((station_of list).parts - 1) (without x (range (station_of list).parts))) e;
    })

module _ {list : List ℕ} {part : List Part} {flags : List Bool} {n k : ℕ} (O : Ordering list part flags k) (c : n ≡ (station_of list).parts) where
  pub ordering_next : {w : Part} → Wired (station_of list) → k < n → w.0 ≡ chosen_part list flags → {flags' : List Bool} → flags' ≡ set flags w.0 false
      → Ordering list (set part k w) flags' (k + 1)
  ordering_next {w} W h e same =
      subst (λ (f : List Bool). Ordering list (set part k w) f (k + 1)) (sym same)
      (record {
        places = length-set part k w ∙ O.places;
        inside = λ j. rw (numbers_set part k w) (inside_at j (ℕ_discrete j k));
        ranked = omega arith;
        rest =
            ap (λ (l : List ℕ). take (k + 1) l ++ later) (numbers_set part k w)
            ∙ ap (λ (j : ℕ). take j (set (part_numbers part) k w.0) ++ later) (add-one k)
            ∙ ap (λ (l : List ℕ). l ++ later) (take-suc-set (part_numbers part) k w.0 room)
            ∙ append_assoc (take k (part_numbers part)) (w.0 ∷ []) later
            ∙ ap (λ (l : List ℕ). take k (part_numbers part) ++ l) (extend_next list flags k w.0 (omega arith) e)
            ∙ O.rest;
      })
    where
      room : k < length (part_numbers part)
      room = omega (arith, numbers_length part, O.places, W.most)

      inside_at : (j : ℕ) → Dec (j ≡ k) → get_or (set (part_numbers part) k w.0) j 0 < most_parts
      inside_at j (yes f) = rw (f, get_or-set_same (part_numbers part) k w.0 0 room) (chosen_below list flags W e)
      inside_at j (no f) = rw (get_or-set_other (part_numbers part) k j w.0 0 f) (O.inside j)

      later : List ℕ
      later = extend (station_of list).cables (station_of list).analyser ((station_of list).parts - (k + 1)) (set_of list (set flags w.0 false))

  pub ordering_end : n ≤ k → take (station_of list).parts (part_numbers part) ≡ order (station_of list)
  unfolding extend
  ordering_end h =
      let e : k ≡ (station_of list).parts = omega (arith, O.ranked) in
      let z : (station_of list).parts - (station_of list).parts ≡ 0 = omega arith in
      sym (append-nil (take (station_of list).parts (part_numbers part))) ∙ rw (e, z) at O.rest
