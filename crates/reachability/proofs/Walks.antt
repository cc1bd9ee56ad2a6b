-- Laws of a walk, which takes as many steps as it may, and of the stack that the code walks with. Assumes nothing.
use Prim.Native.Nat.{ℕ, zero, suc, ◌+◌, ◌*◌, ◌-◌, ◌<◌, ◌≤◌}
use native.Mathlib.Omega.{arith}
use native.Mathlib.Numerals.{add-one}
use native.Mathlib.Decide.{ℕ_discrete}
use mathlib.Core.Path.{◌≡◌, refl, sym, ap, ap₂, ◌∙◌}
use mathlib.Core.Logic.{◌⊎◌, inl, inr}
use mathlib.Core.Bool.{Bool, true, false, cond, not}
use mathlib.Core.List.Memᴰ
use mathlib.Core.List.{List, [], ◌∷◌, ◌++◌, append_assoc, Memᴰ}
use lib.ListN.{length, get_or, take, set, length-append, length-set}
use lib.Seq.{take-suc, get_or-set_same, get_or-set_other, take_all}
use lib.Dec.{eqb}
use borrow.Author.Tests.{eq-eqb, ne_eqb}
use Rattle.words.specs.Limits.{most_degree}
use Rattle.words.specs.Rooms.{stack_places}
use Rattle.lists.specs.Select.{member, cons_if, filter, without}
use Rattle.lists.proofs.Select.{Distinct}
use Rattle.lists.proofs.Filters.{without_absent}
use Rattle.lists.proofs.Sets.{member_e}
use Rattle.station.specs.Station.{Cable}
use Rattle.order.specs.Reach.{neighbours, ends_at, walk, unreached}
use Rattle.words.specs.declared.Part.{Part}
use Rattle.reachability.specs.Tables.{number_at, from_top}

-- The cable ends of a set

module _ (cs : List Cable) where
  pub ends_removed : {p : ℕ} (l : List ℕ) → Distinct l → Memᴰ p l → ends_at cs l ≡ length (neighbours cs p) + ends_at cs (without p l)
  unfolding ends_at without filter
  ends_removed [] u m = absurd (Memᴰ.not-nil m)
  ends_removed {p} (x ∷ xs) u m = go (ℕ_discrete p x) (λ k. ends_removed xs u.1 k) (Memᴰ.cases_cons m)
    where
      go : Dec (p ≡ x) → (Memᴰ p xs → ends_at cs xs ≡ length (neighbours cs p) + ends_at cs (without p xs)) → (p ≡ x) ⊎ Memᴰ p xs
          → length (neighbours cs x) + ends_at cs xs ≡ length (neighbours cs p) + ends_at cs (cons_if (not (eqb p x)) x (without p xs))
      go (yes e) below h = rw (eq-eqb p x e, without_absent p xs (λ k. u.0 (Memᴰ.cast (sym e) k)), e) refl
      go (no n) below (inl e) = absurd (n e)
      go (no n) below (inr k) = rw (ne_eqb p x n) (omega (arith, below k))

  pub ends_few : ((p : ℕ) → length (neighbours cs p) ≤ most_degree) → (l : List ℕ) → ends_at cs l ≤ most_degree * length l
  unfolding ends_at
  ends_few few [] = omega arith
  ends_few few (x ∷ xs) = omega (arith, few x, ends_few few xs)

  -- with nothing to visit, all is left
  pub unreached_none : (left : List ℕ) → unreached cs left [] ≡ left
  unfolding unreached walk
  unreached_none left = go (ends_at cs left + 0)
    where
      go : (k : ℕ) → walk cs k [] left ≡ left
      go zero = refl
      go (suc k) = refl

  -- each step takes one off
  pub steps_next : (p : ℕ) (todo left : List ℕ) → Distinct left
      → ends_at cs left + length todo ≡ ends_at cs (cond (member p left) (without p left) left) + length (cond (member p left) (neighbours cs p ++ todo) todo)
  steps_next p todo left u = go (member p left) refl
    where
      go : (b : Bool) → member p left ≡ b → ends_at cs left + length todo ≡ ends_at cs (cond b (without p left) left) + length (cond b (neighbours cs p ++ todo) todo)
      go true e = omega (arith, ends_removed left u (member_e p left e), length-append (neighbours cs p) todo)
      go false e = refl

  pub unreached_next : (p : ℕ) (todo left : List ℕ) → Distinct left
      → unreached cs left (p ∷ todo) ≡ unreached cs (cond (member p left) (without p left) left) (cond (member p left) (neighbours cs p ++ todo) todo)
  unfolding unreached walk
  unreached_next p todo left u =
      let k : ends_at cs left + suc (length todo) ≡ suc (ends_at cs left + length todo) = omega arith in
      ap (λ (j : ℕ). walk cs j (p ∷ todo) left) k
      ∙ ap (λ (j : ℕ). walk cs j (cond (member p left) (neighbours cs p ++ todo) todo) (cond (member p left) (without p left) left)) (steps_next p todo left u)

-- The stack

pub length_from_top : (stack : List Part) (k : ℕ) → length (from_top stack k) ≡ k
unfolding from_top
length_from_top stack zero = refl
length_from_top stack (suc k) = ap suc (length_from_top stack k)

from_top_above : (stack : List Part) (i k : ℕ) (x : Part) → k ≤ i → from_top (set stack i x) k ≡ from_top stack k
unfolding from_top
from_top_above stack i zero x h = refl
from_top_above stack i (suc k) x h =
    ap₂ (λ (n : ℕ) (l : List ℕ). n ∷ l) (ap (λ (p : Part). p.0) (get_or-set_other stack i k x (record { 0 = 0 }) (λ e. absurd (omega arith))))
    (from_top_above stack i k x (omega arith))

pub from_top_push : (stack : List Part) (k : ℕ) (x : Part) → k < length stack → from_top (set stack k x) (k + 1) ≡ x.0 ∷ from_top stack k
unfolding from_top
from_top_push stack k x h =
    ap (from_top (set stack k x)) (add-one k)
    ∙ ap₂ (λ (n : ℕ) (l : List ℕ). n ∷ l) (ap (λ (p : Part). p.0) (get_or-set_same stack k x (record { 0 = 0 }) h)) (from_top_above stack k k x (omega arith))

pub from_top_one : (stack : List Part) (x : Part) → 0 < length stack → from_top (set stack 0 x) 1 ≡ x.0 ∷ []
unfolding from_top
from_top_one stack x h = from_top_push stack 0 x h

pub from_top_two : (stack : List Part) (x y : Part) → 1 < length stack → from_top (set (set stack 0 x) 1 y) 2 ≡ y.0 ∷ x.0 ∷ []
from_top_two stack x y h =
    from_top_push (set stack 0 x) 1 y (omega (arith, length-set stack 0 x)) ∙ ap (λ (l : List ℕ). y.0 ∷ l) (from_top_one stack x (omega arith))

pub from_top_pop : (stack : List Part) (k : ℕ) → 0 < k → from_top stack k ≡ number_at stack (k - 1) ∷ from_top stack (k - 1)
unfolding from_top
from_top_pop stack zero h = absurd (omega arith)
from_top_pop stack (suc k) h = let e : suc k - 1 ≡ k = omega arith in rw e refl

-- Parts while they are pushed, from the last down to the first: the first j of them, in front of the stack, are all of them in front of the
-- stack at the start.
pub record Pushing (new : List ℕ) (stack₀ : List Part) (top : ℕ) (stack : List Part) (at j : ℕ) : Type 0 where
  pub few : length new ≤ most_degree
  pub room : top + most_degree ≤ stack_places
  pub places : length stack ≡ stack_places
  pub rest : j ≤ length new
  pub height : at + j ≡ top + length new
  pub content : take j new ++ from_top stack at ≡ new ++ from_top stack₀ top

pub pushing_start : {new : List ℕ} {stack : List Part} {top j : ℕ} → length new ≤ most_degree → top + most_degree ≤ stack_places → length stack ≡ stack_places → j ≡ length new
    → Pushing new stack top stack top j
pushing_start {new} {stack} {top} {j} f r l e =
    record {
      few = f;
      room = r;
      places = l;
      rest = omega arith;
      height = omega arith;
      content = ap (λ (k : List ℕ). k ++ from_top stack top) (take_all j new (omega arith));
    }

module _ {new : List ℕ} {stack₀ stack : List Part} {top at : ℕ} where
  pub pushing_room : {j : ℕ} → Pushing new stack₀ top stack at j → 0 < j → at < stack_places
  pushing_room P g = omega (arith, P.room, P.height, P.few, P.rest)

  pub pushing_next : {q : Part} (j : ℕ) → Pushing new stack₀ top stack at j → 0 < j → q.0 ≡ get_or new (j - 1) 0 → Pushing new stack₀ top (set stack at q) (at + 1) (j - 1)
  pushing_next zero P g e = absurd (omega arith)
  pushing_next {q} (suc j) P g e =
      record {
        few = P.few;
        room = P.room;
        places = length-set stack at q ∙ P.places;
        rest = omega (arith, P.rest);
        height = omega (arith, P.height);
        content =
            let k : suc j - 1 ≡ j = omega arith in
            rw (
              k,
              from_top_push stack at q (omega (arith, P.places, pushing_room P g)),
              e,
              k,
              ← append_assoc (take j new) (get_or new j 0 ∷ []) (from_top stack at),
              ← take-suc new j 0 (omega (arith, P.rest)),
            )
            P.content;
      }
