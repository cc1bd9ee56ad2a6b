-- What the library's searches give, as the first place that `seek` finds. Assumes nothing.
use Rattle.std.proofs.Common.{◌≡◌, ℕ, zero, suc, ◌+◌, ◌-◌, ◌<◌, ◌≤◌, Bool, true, false, cond, List, [], ◌∷◌, length, get_or, refl, sym, ap, ◌∙◌, arith, Option, Some, None}
use native.Mathlib.Decide.{ℕ_discrete}
use mathlib.Core.Bool.{true≢false}
use denote.Param.Members.{Mut}
use denote.Ref.{Bor}
use Rattle.std.specs.declared.ops.Range.{Range}
use Rattle.std.specs.Bool.{⊤}
use Rattle.std.specs.Option.{MatchOption}
use Rattle.std.specs.Fn.{Called, CalledAt}
use Rattle.std.specs.Iterator.{YieldsThen}
use Rattle.std.specs.List.{FoldsTo, AllWithin, HoldsAt}
use Rattle.std.proofs.iter.Yields.{fronts, nat_range_steps}
use Rattle.std.proofs.lemmas.Iterator.{YieldsList-from_slice, IsFirst-from_position, first_from_Range}
use Rattle.std.specs.declared.slice.Iter.{Iter}
use Rattle.std.specs.Slice.Iter.{iter_rest}
use Rattle.lists.specs.Search.{seek}

-- a search told by what it found
pub seek_found : (p : ℕ → Bool) (a n i : ℕ) → a ≤ i → i < a + n → p i ≡ true → ((k : ℕ) → a ≤ k → k < i → p k ≡ false) → Some i ≡ seek p a n
unfolding seek
seek_found p a zero i h l e f = absurd (omega arith)
seek_found p a (suc n) i h l e f = go (ℕ_discrete i a) (p a) refl (λ g. seek_found p (a + 1) n i g (omega arith) e (λ k s t. f k (omega arith) t))
  where
    go : Dec (i ≡ a) → (b : Bool) → p a ≡ b → (a + 1 ≤ i → Some i ≡ seek p (a + 1) n) → Some i ≡ cond b (Some a) (seek p (a + 1) n)
    go (yes j) true g rest = ap Some j
    go (yes j) false g rest = absurd (true≢false (sym e ∙ ap p j ∙ g))
    go (no j) true g rest = absurd (true≢false (sym g ∙ f a (omega arith) (omega (arith, j))))
    go (no j) false g rest = rest (omega (arith, j))

pub seek_none : (p : ℕ → Bool) (a n : ℕ) → ((k : ℕ) → a ≤ k → k < a + n → p k ≡ false) → None ≡ seek p a n
unfolding seek
seek_none p a zero f = refl
seek_none p a (suc n) f = rw (f a (omega arith) (omega arith)) (seek_none p (a + 1) n (λ k h l. f k (omega arith) (omega arith)))

-- `find` over a range
pub found_by_find : {F : Type 0} {g : Mut F (Bor ℕ × Unit {0}) Bool} (p : ℕ → Bool) (s u : Range ℕ) (f : F) (r : Option ℕ)
    → (xs : List ℕ) × (j : F) × YieldsThen nat_range_steps s xs r u × FoldsTo (λ p x q. CalledAt g p x false q) f xs j × MatchOption r ⊤ (λ x. (h : F) × CalledAt g j x true h)
    → ((x : ℕ) (b : Bool) (q : F) → CalledAt g f x b q → (q ≡ f) × (b ≡ p x))
    → r ≡ seek p s.start (s.end - s.start)
found_by_find p s u f r ran calls = go r (first_from_Range s u f r (λ x. p x ≡ true) (λ x. p x ≡ false) ran (λ x q k. sym (calls x true q k).1) (λ x q k. ((calls x false q k).0, sym (calls x false q k).1)))
  where
    go : (r : Option ℕ) → MatchOption r ((k : ℕ) → s.start ≤ k → k < s.end → p k ≡ false) (λ i. (s.start ≤ i) × (i < s.end) × (p i ≡ true) × ((k : ℕ) → s.start ≤ k → k < i → p k ≡ false))
        → r ≡ seek p s.start (s.end - s.start)
    go None m = seek_none p s.start (s.end - s.start) (λ k h l. m k h (omega arith))
    go (Some i) m = seek_found p s.start (s.end - s.start) i m.0 (omega (arith, m.0, m.1)) m.2 m.3

-- `position` over a slice
pub found_by_position : {A F : Type 0} {g : Mut F (Bor A × Unit {0}) Bool} (d : A) (q : A → Bool) (xs : List A) (s u : Iter A) (f : F) (r : Option ℕ)
    → (ys : List (Bor A)) × (o : Option (Bor A)) × (j : F) × YieldsThen fronts s ys o u × FoldsTo (λ p x q. Called g p (x, tt) false q) f ys j
    × MatchOption o (r ≡ None) (λ x. (r ≡ Some (length ys)) × ((h : F) × Called g j (x, tt) true h))
    → iter_rest s ≡ xs
    → ((x : Bor A) (b : Bool) (h : F) → Called g f (x, tt) b h → (h ≡ f) × (b ≡ q x.now))
    → r ≡ seek (λ j. q (get_or xs j d)) 0 (length xs)
found_by_position d q xs s u f r ran rest calls = go r (IsFirst-from_position u f r (λ x. q x ≡ true) (λ x. q x ≡ false) ran (YieldsList-from_slice xs rest) (λ x h k. sym (calls x true h k).1) (λ x h k. ((calls x false h k).0, sym (calls x false h k).1)))
  where
    go : (r : Option ℕ) → MatchOption r (AllWithin (λ x. q x ≡ false) xs 0 (length xs)) (λ i. (i < length xs) × HoldsAt (λ x. q x ≡ true) xs i × AllWithin (λ x. q x ≡ false) xs 0 i)
        → r ≡ seek (λ j. q (get_or xs j d)) 0 (length xs)
    go None m = seek_none (λ j. q (get_or xs j d)) 0 (length xs) (λ k h l. m k d h (omega arith))
    go (Some i) m = seek_found (λ j. q (get_or xs j d)) 0 (length xs) i (omega arith) (omega (arith, m.0)) (m.1 d) (λ k h l. m.2 k d h l)
