-- Laws of a connected set by what the set, and what a walk leaves of it, start with, and of checks 9 and 10 by what walks leave. Assumes
-- nothing.
use Rattle.std.specs.Prelude.{Option, Some, None}
use Prim.Native.Nat.{ℕ, ◌+◌, ◌<◌, ◌≤◌}
use native.Mathlib.Omega.{arith}
use mathlib.Core.Path.{◌≡◌, refl, sym, ap, ◌∙◌, subst}
use mathlib.Core.Bool.{Bool, beq, true, false, not, false≢true}
use mathlib.Core.List.Memᴰ
use mathlib.Core.List.{List, [], ◌∷◌, Memᴰ}
use lib.ListN.{get_or, replicate}
use Rattle.words.specs.Limits.{most_parts}
use Rattle.lists.specs.Search.{seek}
use Rattle.lists.specs.Select.{range, member}
use Rattle.lists.proofs.Bools.{same_test}
use Rattle.lists.proofs.Sets.{any_e, any_i}
use Rattle.lists.proofs.Filters.{front, seek_same}
use Rattle.lists.proofs.Seeking.{Seeking, seeking_next, seeking_at, seeking_end}
use Rattle.station.specs.Station.{Cable, station_of}
use Rattle.station.specs.Code.{Wired}
use Rattle.order.specs.Reach.{unreached, null, connected, check9, separated, check10}
use Rattle.order.proofs.SeparatingParts.{separated_beside}
use Rattle.reachability.specs.declared.adjacency.Neighbours.{Neighbours}
use Rattle.reachability.specs.Tables.{neighbours_in, has_neighbour, Adjacent, set_of}
use Rattle.reachability.proofs.Flags.{flagged_e, flagged_i, member_flagged, flagged_all}
use Rattle.reachability.proofs.AdjacencyTable.{joined_inside}

pub front_mem : {x : ℕ} (l : List ℕ) → front l ≡ Some x → Memᴰ x l
unfolding front
front_mem [] e = let z : ◌≡◌ {A = ℕ} 0 1 = cc in absurd (omega arith)
front_mem {x} (y ∷ ys) e = let q : x ≡ y = cc in Memᴰ.head q

module _ (cs : List Cable) where
  pub connected_empty : (l : List ℕ) → front l ≡ None → connected cs l ≡ true
  unfolding front connected
  connected_empty [] e = refl
  connected_empty (y ∷ ys) e = let z : ◌≡◌ {A = ℕ} 0 1 = cc in absurd (omega arith)

  pub connected_from : {p : ℕ} (l : List ℕ) → front l ≡ Some p → connected cs l ≡ null (unreached cs l (p ∷ []))
  unfolding front connected
  connected_from [] e = let z : ◌≡◌ {A = ℕ} 0 1 = cc in absurd (omega arith)
  connected_from {p} (y ∷ ys) e = let q : y ≡ p = cc in rw q refl

pub null_none : (l : List ℕ) → front l ≡ None → null l ≡ true
unfolding front null
null_none [] e = refl
null_none (y ∷ ys) e = let z : ◌≡◌ {A = ℕ} 0 1 = cc in absurd (omega arith)

pub null_mem : {x : ℕ} (l : List ℕ) → Memᴰ x l → null l ≡ false
unfolding null
null_mem [] m = absurd (Memᴰ.not-nil m)
null_mem (y ∷ ys) m = refl

beq_e : (a b : Bool) → beq a b ≡ true → a ≡ b
beq_e true true e = refl
beq_e true false e = absurd (false≢true e)
beq_e false true e = absurd (false≢true e)
beq_e false false e = refl

-- the test of check 10
abbrev pub separates : List ℕ → ℕ → Bool
separates list v = not (null (separated (station_of list) v))

-- Checks 9 and 10 from what walks leave

pub check9_found : (list : List ℕ) {n : ℕ} {r : Option ℕ} (left : List Bool) → Wired (station_of list) → n ≡ (station_of list).parts
    → set_of list left ≡ unreached (station_of list).cables (set_of list (replicate most_parts true)) (0 ∷ [])
    → r ≡ seek (λ p. get_or left p false) 0 n → r ≡ check9 (station_of list)
unfolding check9
check9_found list left W e u f =
    let from : set_of list left ≡ unreached (station_of list).cables (range (station_of list).parts) (0 ∷ []) =
    u ∙ ap (λ (l : List ℕ). unreached (station_of list).cables l (0 ∷ [])) (flagged_all (station_of list).parts W.most) in
    f
    ∙ ap (λ (k : ℕ). seek (λ p. get_or left p false) 0 k) e
    ∙ seek_same _ _ 0 (station_of list).parts (λ j a b. sym (member_flagged (station_of list).parts left j (omega arith)) ∙ ap (member j) from)

-- 10 by a test of v's neighbours, where part 0 reaches all
module _ {list : List ℕ} {table : List Neighbours} {n v : ℕ} (A : Adjacent list table) (nine : check9 (station_of list) ≡ None) (S : Seeking (separates list) n v) (c : n ≡ (station_of list).parts)
    (h : v < n) (left : List Bool) (u : set_of list left ≡ separated (station_of list) v) {r : Bool} (f : r ≡ has_neighbour table left v true) where
  -- some neighbour is left
  some_left : has_neighbour table left v true ≡ true → separates list v ≡ true
  unfolding has_neighbour
  some_left e =
      let x = any_e (λ q. beq (get_or left q false) true) (neighbours_in table v) e in
      let j = subst (Memᴰ x.0) (A.by_line v) x.1 in
      let m = flagged_i (station_of list).parts left x.0 (joined_inside A.wired v j) (beq_e (get_or left x.0 false) true x.2) in
      ap not (null_mem (separated (station_of list) v) (subst (Memᴰ x.0) u m))

  separates_some : (l : List ℕ) → separated (station_of list) v ≡ l → separates list v ≡ true → has_neighbour table left v true ≡ true
  unfolding null has_neighbour
  separates_some [] e t = absurd (false≢true (sym (ap (λ (k : List ℕ). not (null k)) e) ∙ t))
  separates_some (p ∷ ps) e t =
      let w = separated_beside (station_of list) A.wired nine v (subst (Memᴰ p) (sym e) (Memᴰ.head refl)) in
      let l = (flagged_e (station_of list).parts left (subst (Memᴰ w.0) (sym u) w.2)).1 in
      any_i (λ q. beq (get_or left q false) true) (neighbours_in table v) (subst (Memᴰ w.0) (sym (A.by_line v)) w.1)
      (ap (λ (b : Bool). beq b true) l)

  tested : r ≡ separates list v
  tested = f ∙ same_test _ (separates list v) some_left (separates_some (separated (station_of list) v) refl)

  pub check10_next : r ≡ false → Seeking (separates list) n (v + 1)
  check10_next e = seeking_next S h (sym tested ∙ e)

  pub check10_at : r ≡ true → Some v ≡ check10 (station_of list)
  unfolding check10
  check10_at e = let z = seeking_at S h (sym tested ∙ e) in rw c at z

pub check10_none : (list : List ℕ) {n v : ℕ} → Seeking (separates list) n v → n ≡ (station_of list).parts → n ≤ v → None ≡ check10 (station_of list)
unfolding check10
check10_none list S c h = let z = seeking_end S h in rw c at z
