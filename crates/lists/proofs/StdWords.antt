-- What this repository counts and looks for in a list is what std's iterators count and look for. Assumes nothing.
use Rattle.std.proofs.Common.{◌≡◌, ℕ, ◌+◌, Bool, true, false, cond, ◌||◌, List, [], ◌∷◌, Option, Some, None, refl, ap, subst, arith}
use denote.Param.Members.{Mut, Called}
use Rattle.std.specs.List as std
use Rattle.std.specs.List.{count_by, list_any, reduce, FoldsTo}
use Rattle.std.specs.Iterator.{ActsAsOnTwo, FoldTurn, ReducesItems}
use Rattle.std.proofs.lemmas.Iterator.{YieldsList}
use Rattle.std.proofs.lemmas.Iterator.Consumers.{reduce_from_yields_List}
use Rattle.std.proofs.lemmas.List.Recursion.{is_count_by}
use Rattle.lists.specs.Select.{any, cons_if, filter, one_if, count}

pub any_is_list_any : {A : Type 0} (p : A → Bool) (xs : List A) → any p xs ≡ list_any p xs
unfolding any
any_is_list_any p [] = refl
any_is_list_any p (x ∷ xs) = ap (λ (b : Bool). p x || b) (any_is_list_any p xs)

pub count_is_count_by : {A : Type 0} (p : A → Bool) (xs : List A) → count p xs ≡ count_by p xs
unfolding count
count_is_count_by p xs = is_count_by (count p) p refl (λ x ys. more (p x) (count p ys)) xs
  where
    more : (b : Bool) (n : ℕ) → one_if b + n ≡ cond b (1 + n) n
    more true n = refl
    more false n = omega arith

pub filter_is_filter : {A : Type 0} (p : A → Bool) (xs : List A) → filter p xs ≡ std.filter p xs
unfolding filter
filter_is_filter p [] = refl
filter_is_filter {A = A} p (x ∷ xs) = go (p x) (filter_is_filter p xs)
  where
    go : (b : Bool) → filter p xs ≡ std.filter p xs → cons_if b x (filter p xs) ≡ cond b (x ∷ std.filter p xs) (std.filter p xs)
    go true e = ap (λ (l : List A). x ∷ l) e
    go false e = e

-- what `reduce` makes of the items of a chain
module _ {A F : Type 0} {g : Mut F (A × (A × Unit {0})) A} (h : A → A → A) (f : F) (acts : ActsAsOnTwo g f h) where
  settled : (xs : List A) (p q : F × A) → p.0 ≡ f → FoldsTo {P = F × A} (FoldTurn g) p xs q → FoldsTo (λ a x b. b ≡ h a x) p.1 xs q.1
  settled [] p q e t = ap (λ (z : F × A). z.1) t
  settled (x ∷ xs) p q e t =
      let a = acts p.1 x t.0.1 t.0.0 (subst (λ (k : F). Called g k (p.1, (x, tt)) t.0.1 t.0.0) e t.1) in
      (t.0.1, a.1, settled xs t.0 q a.0 t.2)

  pub reduced : {S : Type 0} {steps : S → Option A → S → Type 0} (s : S) {all : List A} (r : Option A) → ReducesItems steps g s f r → YieldsList steps (λ x. x) s all → r ≡ reduce h all
  reduced s None ran yields = reduce_from_yields_List h s None ran yields
  reduced s (Some y) ran yields = reduce_from_yields_List h s (Some y) (ran.0, ran.1, ran.3, settled ran.1 (f, ran.0) (ran.2, y) refl ran.4) yields
