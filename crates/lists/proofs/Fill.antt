-- Rows that a loop changes place by place: the state at i, its start, its step and its end. Assumes nothing.
use Prim.Native.Nat.{ℕ, ◌+◌, ◌-◌, ◌<◌, ◌≤◌}
use native.Mathlib.Omega.{arith}
use native.Mathlib.Decide.{dec_lt, ℕ_discrete}
use mathlib.Core.Path.{◌≡◌, refl, sym, ap, ◌∙◌}
use mathlib.Core.List.{List, ◌++◌, map}
use lib.ListN.{length, get_or, set, drop, length-set, length-drop, length-map, length-append, get_or-append}
use lib.Seq.{ext_get_or, get_or-set_same, get_or-set_other, get_or-drop, get_or-append-add}
use Rattle.lists.specs.Select.{tabulate}
use Rattle.lists.proofs.Select.{length_tabulate, get_d_tabulate, get_d_map}

-- a list is tabulated by its elements
pub tabulate_of : {A : Type 0} (n : ℕ) (f : ℕ → A) (d : A) (l : List A) → length l ≡ n → ((i : ℕ) → i < n → get_or l i d ≡ f i) → l ≡ tabulate n f
tabulate_of n f d l e h =
    ext_get_or d l (tabulate n f) (e ∙ sym (length_tabulate n f)) (λ i b. h i (omega arith) ∙ sym (get_d_tabulate n f i d (omega arith)))

-- a list that was l₀ and has f j at each place j below i
pub record Filled {A : Type 0} (f : ℕ → A) (d : A) (i : ℕ) (l₀ l : List A) : Type 0 where
  pub same : length l ≡ length l₀
  pub done : (j : ℕ) → j < i → get_or l j d ≡ f j
  pub rest : (j : ℕ) → i ≤ j → get_or l j d ≡ get_or l₀ j d

module _ {A : Type 0} (f : ℕ → A) (d : A) where
  pub filled_none : (l : List A) → Filled f d 0 l l
  filled_none l = record { same = refl; done = λ j h. absurd (omega arith); rest = λ j h. refl }

  pub filled_more : {i : ℕ} {l₀ l : List A} (v : A) → i < length l₀ → v ≡ f i → Filled f d i l₀ l → Filled f d (i + 1) l₀ (set l i v)
  filled_more {i} {l₀} {l} v h e s = record {
    same = length-set l i v ∙ s.same;
    done = λ j g. go j g (ℕ_discrete j i);
    rest = λ j g. get_or-set_other l i j v d (λ q. omega arith) ∙ s.rest j (omega arith);
  }
    where
      go : (j : ℕ) → j < i + 1 → Dec (j ≡ i) → get_or (set l i v) j d ≡ f j
      go j g (yes q) = rw q (get_or-set_same l i v d (omega (arith, s.same)) ∙ e)
      go j g (no q) = get_or-set_other l i j v d q ∙ s.done j (omega arith)

-- every element was mapped
pub filled_map : {A : Type 0} (g : A → A) (d : A) {i : ℕ} {l₀ l : List A} → length l₀ ≤ i → Filled (λ j. g (get_or l₀ j d)) d i l₀ l → l ≡ map g l₀
filled_map g d {i} {l₀} {l} h s =
    ext_get_or d l (map g l₀) (s.same ∙ sym (length-map l₀ g)) (λ j b. s.done j (omega (arith, s.same)) ∙ sym (get_d_map g l₀ j d d (omega (arith, s.same))))

-- the first n elements are tabulated, and what lies behind them is as it was
pub filled_end : {A : Type 0} (f : ℕ → A) (d : A) {i : ℕ} {l₀ l : List A} (n : ℕ) → i ≡ n → n ≤ length l₀ → Filled f d i l₀ l → l ≡ tabulate n f ++ drop n l₀
filled_end {A} f d {i} {l₀} {l} n e h s = ext_get_or d l (tabulate n f ++ drop n l₀) long (λ j k. at j (dec_lt j n))
  where
    long : length l ≡ length (tabulate n f ++ drop n l₀)
    long = omega (arith, s.same, length-append (tabulate n f) (drop n l₀), length_tabulate n f, length-drop n l₀)

    at : (j : ℕ) → Dec (j < n) → get_or l j d ≡ get_or (tabulate n f ++ drop n l₀) j d
    at j (yes q) =
        s.done j (omega arith)
        ∙ sym (get_d_tabulate n f j d q)
        ∙ sym (get_or-append (tabulate n f) (drop n l₀) d j (omega (arith, length_tabulate n f)))
    at j (no q) =
        s.rest j (omega arith)
        ∙ ap (λ (x : ℕ). get_or l₀ x d) split
        ∙ sym (get_or-drop n l₀ (j - n) d)
        ∙ sym (get_or-append-add (tabulate n f) (drop n l₀) (j - n) d)
        ∙ ap (λ (x : ℕ). get_or (tabulate n f ++ drop n l₀) x d) (omega (arith, length_tabulate n f))
      where
        split : j ≡ n + (j - n)
        split = omega arith
