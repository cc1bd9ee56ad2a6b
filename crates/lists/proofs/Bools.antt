-- Laws of the connectives of tests: taken apart, put together, and two tests that pass together are equal. Assumes nothing.
use mathlib.Core.Path.{◌≡◌, refl, sym}
use mathlib.Core.Bool.{Bool, true, false, not, ◌&&◌, ◌||◌, true≢false, false≢true}
use mathlib.Core.Logic.{◌⊎◌, inl, inr}

pub and_e : (a b : Bool) → (a && b) ≡ true → (a ≡ true) × (b ≡ true)
and_e true b h = (refl, h)
and_e false b h = absurd (true≢false (sym h))

pub and_i : (a b : Bool) → a ≡ true → b ≡ true → (a && b) ≡ true
and_i a b g h = rw (g, h)

pub or_e : (a b : Bool) → (a || b) ≡ true → (a ≡ true) ⊎ (b ≡ true)
or_e true b h = inl refl
or_e false b h = inr h

pub or_left : (a b : Bool) → a ≡ true → (a || b) ≡ true
or_left a b h = rw h

pub or_right : (a b : Bool) → b ≡ true → (a || b) ≡ true
or_right true b h = refl
or_right false b h = h

-- what a failed test leaves
pub or_fails : (a b : Bool) → (a || b) ≡ false → (a ≡ false) × (b ≡ false)
or_fails true b h = absurd (true≢false h)
or_fails false b h = (refl, h)

pub and_fails : (a b : Bool) → (a && b) ≡ false → a ≡ true → b ≡ false
and_fails true b h g = h
and_fails false b h g = absurd (false≢true g)

pub not_e : (a : Bool) → not a ≡ true → a ≡ true → ⊥
not_e true h g = true≢false (sym h)
not_e false h g = true≢false (sym g)

pub not_i : (a : Bool) → (a ≡ true → ⊥) → not a ≡ true
not_i true h = absurd (h refl)
not_i false h = refl

pub same_test : (a b : Bool) → (a ≡ true → b ≡ true) → (b ≡ true → a ≡ true) → a ≡ b
same_test true b f g = sym (f refl)
same_test false true f g = g refl
same_test false false f g = refl

-- either way round
pub or_either : (a b : Bool) → (a || b) ≡ (b || a)
or_either true true = refl
or_either true false = refl
or_either false true = refl
or_either false false = refl
