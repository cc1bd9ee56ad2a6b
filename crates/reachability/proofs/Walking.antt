-- The walk of the code, step by step: the flags and the stack always stand for a walk with the same end. Assumes nothing.
use Prim.Native.Nat.{ℕ, ◌+◌, ◌-◌, ◌<◌, ◌≤◌}
use native.Mathlib.Omega.{arith}
use mathlib.Core.Path.{◌≡◌, refl, sym, ap, ap₂, ◌∙◌, subst}
use mathlib.Core.Logic.{◌⊎◌, inl, inr}
use mathlib.Core.Bool.{Bool, true, false, cond}
use mathlib.Core.List.Memᴰ
use mathlib.Core.List.{List, [], ◌∷◌, ◌++◌, Memᴰ}
use lib.ListN.{length, get_or, set, replicate}
use Rattle.words.specs.Limits.{most_parts}
use Rattle.words.specs.Rooms.{neighbour_places, stack_places}
use Rattle.lists.specs.Select.{member, without}
use Rattle.station.specs.Station.{station_of}
use Rattle.station.specs.Code.{Wired}
use Rattle.order.specs.Reach.{neighbours, ends_at, unreached, separated}
use Rattle.words.specs.declared.Part.{Part}
use Rattle.reachability.specs.declared.adjacency.Neighbours.{Neighbours}
use Rattle.reachability.specs.Tables.{number_at, Adjacent, set_of, from_top, Starting, Steppable, Stepped}
use Rattle.reachability.proofs.Neighbours.{neighbours_few}
use Rattle.reachability.proofs.AdjacencyTable.{joined_inside}
use Rattle.reachability.proofs.Flags.{member_flagged, distinct_flagged, length_flagged, without_flagged, flagged_all}
use Rattle.reachability.proofs.Walks.{ends_few, unreached_none, unreached_next, steps_next, length_from_top, from_top_one, from_top_two, from_top_pop}

-- The walk from the starts among the flags of a set, with left and a stack of height top still to go.
pub record Walking (list : List ℕ) (among : List Bool) (starts : List ℕ) (left : List Bool) (stack : List Part) (top : ℕ) : Type 0 where
  pub room : ends_at (station_of list).cables (set_of list left) + top ≤ neighbour_places + 2
  pub inside : (q : ℕ) → Memᴰ q (from_top stack top) → q < (station_of list).parts
  pub same :
      unreached (station_of list).cables (set_of list left) (from_top stack top) ≡ unreached (station_of list).cables (set_of list among) starts

-- a height above another one is above 0
pub above : {k top : ℕ} → k < top → 0 < top
above h = omega arith

module _ {list : List ℕ} where
  pub walking_start : (flags : List Bool) {stack : List Part} {top : ℕ} → Wired (station_of list) → Starting list stack top
      → Walking list flags (from_top stack top) flags stack top
  walking_start flags W S =
      record {
        room =
            omega (
              arith,
              ends_few (station_of list).cables (neighbours_few W) (set_of list flags),
              length_flagged (station_of list).parts flags,
              W.most,
              S.few,
            );
        inside = S.inside;
        same = refl;
      }

  module _ {among left : List Bool} {starts : List ℕ} {stack : List Part} {top : ℕ} (W : Walking list among starts left stack top) where
    walking_top : 0 < top → number_at stack (top - 1) < (station_of list).parts
    walking_top h = W.inside (number_at stack (top - 1)) (rw (from_top_pop stack top h) (Memᴰ.head refl))

    pub walking_fits : {table : List Neighbours} → Adjacent list table → 0 < top → Steppable stack top
    walking_fits A h =
        record {
          some = h;
          room = omega (arith, W.room);
          part = omega (arith, walking_top h, A.wired.most);
        }

    pub walking_end : top ≤ 0 → set_of list left ≡ unreached (station_of list).cables (set_of list among) starts
    unfolding from_top
    walking_end h =
        let e : top ≡ 0 = omega arith in
        sym (unreached_none (station_of list).cables (set_of list left)) ∙ rw e at W.same

    module _ {table : List Neighbours} (A : Adjacent list table) (h : 0 < top) {left' : List Bool} {stack' : List Part} {top' : ℕ} (S : Stepped table left stack top left' stack' top') where
      -- the part on top, what lies under it, and whether it is left
      q : ℕ
      q = number_at stack (top - 1)

      todo : List ℕ
      todo = from_top stack (top - 1)

      rest : List ℕ
      rest = set_of list left

      fresh : member q rest ≡ get_or left q false
      unfolding q rest
      fresh = member_flagged (station_of list).parts left q (walking_top h)

      todo_next : from_top stack' top' ≡ cond (member q rest) (neighbours (station_of list).cables q ++ todo) todo
      unfolding q todo
      todo_next = rw (fresh, ← A.by_line q) S.content

      left_next : set_of list left' ≡ cond (member q rest) (without q rest) rest
      unfolding q rest
      left_next = rw (fresh, S.flags) (go (get_or left q false))
        where
          go : (b : Bool) → set_of list (cond b (set left q false) left) ≡ cond b (without q rest) rest
          go true = sym (without_flagged (station_of list).parts left q)
          go false = refl

      pub walking_less : ends_at (station_of list).cables (set_of list left') + top' < ends_at (station_of list).cables (set_of list left) + top
      unfolding todo rest
      walking_less =
          let ends : _ = ap (ends_at (station_of list).cables) left_next in
          let height : _ = sym (length_from_top stack' top') ∙ ap length todo_next in
          omega (arith, steps_next (station_of list).cables q todo rest (distinct_flagged (station_of list).parts left), length_from_top stack (top - 1))

      under : (x : ℕ) → Memᴰ x todo → x < (station_of list).parts
      unfolding todo
      under x k = W.inside x (subst (Memᴰ x) (sym (from_top_pop stack top h)) (Memᴰ.tail k))

      inside_next : (x : ℕ) → Memᴰ x (from_top stack' top') → x < (station_of list).parts
      inside_next x m = go (member q rest) (subst (Memᴰ x) todo_next m)
        where
          own : Memᴰ x (neighbours (station_of list).cables q) ⊎ Memᴰ x todo → x < (station_of list).parts
          own (inl k) = joined_inside A.wired q k
          own (inr k) = under x k

          go : (b : Bool) → Memᴰ x (cond b (neighbours (station_of list).cables q ++ todo) todo) → x < (station_of list).parts
          go true k = own (Memᴰ.append_cases (neighbours (station_of list).cables q) k)
          go false k = under x k

      same_next :
          unreached (station_of list).cables (set_of list left') (from_top stack' top') ≡ unreached (station_of list).cables (set_of list among) starts
      unfolding todo rest q
      same_next =
          rw (todo_next, left_next)
          (sym (unreached_next (station_of list).cables q todo rest (distinct_flagged (station_of list).parts left))
          ∙ ap (λ (l : List ℕ). unreached (station_of list).cables rest l) (sym (from_top_pop stack top h))
          ∙ W.same)

      pub walking_next : Walking list among starts left' stack' top'
      walking_next =
          record {
            room = omega (arith, walking_less, W.room);
            inside = inside_next;
            same = same_next;
          }

-- Walks from one part: its stack, and what it leaves

pub starting_one : {list : List ℕ} {p : Part} (stack : List Part) → length stack ≡ stack_places → p.0 < (station_of list).parts → Starting list (set stack 0 p) 1
starting_one {p = p} stack e h =
    record {
      few = omega arith;
      inside = λ q m. omega (arith, Memᴰ.eq_of_singleton (subst (Memᴰ q) (from_top_one stack p (omega arith)) m));
    }

pub left_one :
    (list : List ℕ) (left among : List Bool) (stack : List Part) (p : Part) → length stack ≡ stack_places
    → set_of list left ≡ unreached (station_of list).cables (set_of list among) (from_top (set stack 0 p) 1)
    → set_of list left ≡ unreached (station_of list).cables (set_of list among) (p.0 ∷ [])
left_one list left among stack p e u = u ∙ ap (unreached (station_of list).cables (set_of list among)) (from_top_one stack p (omega arith))

-- Walks from two

pub starting_two :
    {list : List ℕ} {p r : Part} (stack : List Part) → length stack ≡ stack_places → p.0 < (station_of list).parts → r.0 < (station_of list).parts
    → Starting list (set (set stack 0 p) 1 r) 2
starting_two {list} {p} {r} stack e h g =
    record {
      few = omega arith;
      inside = λ q m. either q (Memᴰ.cases_cons (subst (Memᴰ q) (from_top_two stack p r (omega arith)) m));
    }
  where
    either : (q : ℕ) → (q ≡ r.0) ⊎ Memᴰ q (p.0 ∷ []) → q < (station_of list).parts
    either q (inl f) = omega arith
    either q (inr m) = omega (arith, Memᴰ.eq_of_singleton m)

pub left_ends :
    (list : List ℕ) (left : List Bool) {s t : Part} (v : ℕ) (stack : List Part) → Wired (station_of list) → length stack ≡ stack_places
    → s.0 ≡ (station_of list).source → t.0 ≡ (station_of list).analyser
    → set_of list left ≡ unreached (station_of list).cables (set_of list (set (replicate most_parts true) v false)) (from_top (set (set stack 0 t) 1 s) 2)
    → set_of list left ≡ separated (station_of list) v
unfolding separated
left_ends list left {s} {t} v stack W e es et u =
    let all = replicate most_parts true in
    u
    ∙ ap₂ (unreached (station_of list).cables) (sym (without_flagged (station_of list).parts all v) ∙ ap (without v) (flagged_all (station_of list).parts W.most))
    (from_top_two stack t s (omega arith) ∙ ap₂ (λ (a b : ℕ). a ∷ b ∷ []) es et)
