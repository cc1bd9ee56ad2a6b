-- Adding a power of two to a number that lacks its bit sets that bit and no other. Assumes nothing.
use Prim.Native.Nat.{ℕ, suc, ◌+◌, ◌-◌, ◌/◌, ◌%◌, ◌^◌, ◌<◌}
use native.Mathlib.Nat.{zero-div, add-div_right, add-mul-div_left, div-lt_iff_lt-mul, two-pow-succ}
use native.Mathlib.Decide.{dec_lt}
use native.Mathlib.Omega.{arith}
use mathlib.Core.Path.{◌≡◌, refl, sym, ap, ◌∙◌, subst}
use mathlib.Core.Bool.{true, false}
use lib.Dec.{eqb}
use lib.Pow.{pow_pos, pow-add, shr-shr}
use borrow.Author.Tests.{eqb-false, eq-eqb}
use Rattle.sweep.specs.Boards.{has_bit}

pub bit_none : (b : ℕ) → has_bit 0 b ≡ false
unfolding has_bit
bit_none b = rw zero-div refl

-- what a bit that is off says of the quotient
off : (w b : ℕ) → has_bit w b ≡ false → w / 2 ^ b % 2 ≡ 0
unfolding has_bit
off w b h = let n = eqb-false (w / 2 ^ b % 2) 1 h in omega arith

one_more : (w b : ℕ) → (w + 2 ^ b) / 2 ^ b ≡ w / 2 ^ b + 1
one_more w b = add-div_right w (pow_pos b)

pub bit_added : (w b : ℕ) → has_bit w b ≡ false → has_bit (w + 2 ^ b) b ≡ true
unfolding has_bit
bit_added w b h = eq-eqb ((w + 2 ^ b) / 2 ^ b % 2) 1 (ap (λ (x : ℕ). x % 2) (one_more w b) ∙ omega (arith, off w b h))

-- above the bit the quotient is the same
above : (w b k : ℕ) → has_bit w b ≡ false → (w + 2 ^ b) / 2 ^ (b + 1 + k) ≡ w / 2 ^ (b + 1 + k)
above w b k h =
    sym (shr-shr (w + 2 ^ b) (b + 1) k)
    ∙ ap (λ (x : ℕ). x / 2 ^ k) (sym (shr-shr (w + 2 ^ b) b 1) ∙ half ∙ shr-shr w b 1)
    ∙ shr-shr w (b + 1) k
  where
    half : (w + 2 ^ b) / 2 ^ b / 2 ^ 1 ≡ w / 2 ^ b / 2 ^ 1
    half = ap (λ (x : ℕ). x / 2) (one_more w b) ∙ omega (arith, off w b h)

-- below the bit it grows by an even number
below : (w c k : ℕ) → (w + 2 ^ (c + suc k)) / 2 ^ c % 2 ≡ w / 2 ^ c % 2
below w c k =
    ap (λ (x : ℕ). (w + x) / 2 ^ c % 2) (pow-add 2 c (suc k))
    ∙ ap (λ (x : ℕ). x % 2) (add-mul-div_left w (2 ^ suc k) (pow_pos c))
    ∙ omega (arith, two-pow-succ k)

pub bit_other : (w b c : ℕ) → has_bit w b ≡ false → (b ≡ c → ⊥) → has_bit (w + 2 ^ b) c ≡ has_bit w c
unfolding has_bit
bit_other w b c h n = ap (λ (x : ℕ). eqb x 1) (go (dec_lt c b))
  where
    go : Dec (c < b) → (w + 2 ^ b) / 2 ^ c % 2 ≡ w / 2 ^ c % 2
    go (yes l) =
        let e : c + suc (b - suc c) ≡ b = omega arith in
        subst (λ (x : ℕ). (w + 2 ^ x) / 2 ^ c % 2 ≡ w / 2 ^ c % 2) e (below w c (b - suc c))
    go (no l) =
        let e : b + 1 + (c - (b + 1)) ≡ c = omega arith in
        ap (λ (x : ℕ). x % 2) (subst (λ (x : ℕ). (w + 2 ^ b) / 2 ^ x ≡ w / 2 ^ x) e (above w b (c - (b + 1)) h))

fits : (w b k : ℕ) → has_bit w b ≡ false → w < 2 ^ (suc k + b) → w + 2 ^ b < 2 ^ (suc k + b)
fits w b k h l =
    subst (λ (x : ℕ). w + 2 ^ b < x) (sym (pow-add 2 (suc k) b))
    ((div-lt_iff_lt-mul {y = 2 ^ suc k} (pow_pos b)).0 (omega (arith, one_more w b, off w b h, two-pow-succ k, short)))
  where
    short : w / 2 ^ b < 2 ^ suc k
    short = (div-lt_iff_lt-mul (pow_pos b)).1 (subst (λ (x : ℕ). w < x) (pow-add 2 (suc k) b) l)

fits_in : (w b n : ℕ) → has_bit w b ≡ false → b < n → w < 2 ^ n → w + 2 ^ b < 2 ^ n
fits_in w b n h l g =
    let e : suc (n - suc b) + b ≡ n = omega arith in
    subst (λ (x : ℕ). w + 2 ^ b < 2 ^ x) e (fits w b (n - suc b) h (subst (λ (x : ℕ). w < 2 ^ x) (sym e) g))

pub bit_fits : (w b : ℕ) → has_bit w b ≡ false → b < 32 → w < 2 ^ 32 → w + 2 ^ b < 2 ^ 32
bit_fits w b h l g = fits_in w b 32 h l g
