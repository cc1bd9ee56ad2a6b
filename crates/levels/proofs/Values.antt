-- The operations of floats on exact values: where x is ±a / c and y is ±b / c, their sum is ±a ± b over c rounded once, and they compare as ±a and ±b do.
-- Nothing here is about a format's digits. Assumes nothing.
use mathlib.Core.Path.{◌≡◌, refl, sym, ap, ap₂, ◌∙◌, subst}
use Prim.Native.Nat.{ℕ, ◌+◌, ◌-◌, ◌*◌, ◌<◌}
use native.Mathlib.Nat.{add-mul, mul_comm, mul-sub, mul-pos, mul_right_comm, mul_assoc, mul-lt-mul_of_pos_right, lt_of_mul-lt-mul_right, zero-mul, eq_of_mul-eq-mul_right}
use mathlib.Core.Bool.{Bool, true, false, not, ◌&&◌, ◌||◌, beq, cond}
use lib.Dec.{T, ltb, eqb, ltb→lt, lt→ltb, eqb→eq}
use lib.Ieee.{Float, nan, inf, fin, Format, up, down, round, neg, sum, add, below, level, lt, eq}
use lib.Ieee.Fits.{down_pos, eq→eqb}
use lib.Ieee.Exact.{HasValue}
use lib.Ieee.Scale.{round_same}

-- two tests are one where each passes with the other
pub same_truth : (p q : Bool) → (T p → T q) → (T q → T p) → p ≡ q
same_truth true true f g = refl
same_truth true false f g = absurd (f tt)
same_truth false true f g = absurd (g tt)
same_truth false false f g = refl

-- ---- two fractions over D, a / c and b / c
module _ (A B D a b c : ℕ) (D-pos : 0 < D) (c_pos : 0 < c) (ea : A * c ≡ a * D) (eb : B * c ≡ b * D) where
  ltb_scaled : ltb A B ≡ ltb a b
  ltb_scaled = same_truth (ltb A B) (ltb a b)
      (λ t. lt→ltb a b (lt_of_mul-lt-mul_right D (subst (λ (x : ℕ). x < b * D) ea (subst (λ (x : ℕ). A * c < x) eb (mul-lt-mul_of_pos_right (ltb→lt A B t) c_pos)))))
      (λ t. lt→ltb A B (lt_of_mul-lt-mul_right c (subst (λ (x : ℕ). x < B * c) (sym ea) (subst (λ (x : ℕ). a * D < x) (sym eb) (mul-lt-mul_of_pos_right (ltb→lt a b t) D-pos)))))

  eqb_scaled : eqb A B ≡ eqb a b
  eqb_scaled = same_truth (eqb A B) (eqb a b)
      (λ t. eq→eqb (eq_of_mul-eq-mul_right D D-pos a b (sym ea ∙ ap (λ (x : ℕ). x * c) (eqb→eq A B t) ∙ eb)))
      (λ t. eq→eqb (eq_of_mul-eq-mul_right c c_pos A B (ea ∙ ap (λ (x : ℕ). x * D) (eqb→eq a b t) ∙ sym eb)))

  add_scaled : (A + B) * c ≡ (a + b) * D
  add_scaled = add-mul A B c ∙ ap₂ (λ (x y : ℕ). x + y) ea eb ∙ sym (add-mul a b D)

sub_mul : (a b k : ℕ) → (a - b) * k ≡ a * k - b * k
sub_mul a b k = mul_comm (a - b) k ∙ mul-sub k a b ∙ ap₂ (λ (x y : ℕ). x - y) (mul_comm k a) (mul_comm k b)

sub_scaled : (A B D a b c : ℕ) → A * c ≡ a * D → B * c ≡ b * D → (A - B) * c ≡ (a - b) * D
sub_scaled A B D a b c ea eb = sub_mul A B c ∙ ap₂ (λ (x y : ℕ). x - y) ea eb ∙ sym (sub_mul a b D)

-- ---- the sum sees only the values of its two fractions
sum_scaled : (f : Format) (s t : Bool) (A B D a b c : ℕ) → 0 < D → 0 < c → A * c ≡ a * D → B * c ≡ b * D → sum f s A t B D ≡ sum f s a t b c
unfolding sum
sum_scaled f s t A B D a b c dp cp ea eb =
    ap (λ (x : Float). cond (beq s t) x (cond (ltb A B) (round f t (B - A) D) (round f (s && ltb B A) (A - B) D))) (round_same f s (A + B) D (a + b) c dp cp (add_scaled A B D a b c dp cp ea eb))
    ∙ ap (λ (x : Float). cond (beq s t) (round f s (a + b) c) (cond (ltb A B) x (round f (s && ltb B A) (A - B) D))) (round_same f t (B - A) D (b - a) c dp cp (sub_scaled B A D b a c eb ea))
    ∙ ap (λ (x : Float). cond (beq s t) (round f s (a + b) c) (cond (ltb A B) (round f t (b - a) c) x)) (round_same f (s && ltb B A) (A - B) D (a - b) c dp cp (sub_scaled A B D a b c ea eb))
    ∙ ap₂ (λ (x y : Bool). cond (beq s t) (round f s (a + b) c) (cond x (round f t (b - a) c) (round f (s && y) (a - b) c))) (ltb_scaled A B D a b c dp cp ea eb) (ltb_scaled B A D b a c dp cp eb ea)

-- m * up e over down e is a / c, so over the common denominator it is still a / c
left_over : (m u e d a c : ℕ) → m * u * c ≡ a * e → m * u * d * c ≡ a * (e * d)
left_over m u e d a c h = mul_right_comm (m * u) d c ∙ ap (λ (x : ℕ). x * d) h ∙ mul_assoc a e d

right_over : (m u e d a c : ℕ) → m * u * c ≡ a * e → m * u * d * c ≡ a * (d * e)
right_over m u e d a c h = left_over m u e d a c h ∙ ap (λ (x : ℕ). a * x) (mul_comm e d)

pub add_values : (f : Format) (x y : Float) (s : Bool) (a : ℕ) (t : Bool) (b c : ℕ) → 0 < c → HasValue x s a c → HasValue y t b c → add f x y ≡ sum f s a t b c
unfolding add
add_values f nan y s a t b c cp v w = absurd v
add_values f (inf p) y s a t b c cp v w = absurd v
add_values f (fin p m e) nan s a t b c cp v w = absurd w
add_values f (fin p m e) (inf q) s a t b c cp v w = absurd w
add_values f (fin p m e) (fin q n d) s a t b c cp v w =
    sum_scaled f p q (m * up e * down d) (n * up d * down e) (down e * down d) a b c (mul-pos (down_pos e) (down_pos d)) cp
    (left_over m (up e) (down e) (down d) a c v.1) (right_over n (up d) (down d) (down e) b c w.1)
    ∙ ap₂ (λ (x y : Bool). sum f x a y b c) v.0 w.0

pub neg_value : (x : Float) (s : Bool) (a c : ℕ) → HasValue x s a c → HasValue (neg x) (not s) a c
unfolding neg
neg_value nan s a c v = v
neg_value (inf p) s a c v = v
neg_value (fin p m e) s a c v = (ap not v.0, v.1)

-- ---- comparisons
below_scaled : (s t : Bool) (A B D a b c : ℕ) → 0 < D → 0 < c → A * c ≡ a * D → B * c ≡ b * D → below s A t B ≡ below s a t b
below_scaled false false A B D a b c dp cp ea eb = ltb_scaled A B D a b c dp cp ea eb
below_scaled false true A B D a b c dp cp ea eb = refl
below_scaled true false A B D a b c dp cp ea eb =
    ltb_scaled 0 (A + B) D 0 (a + b) c dp cp (zero-mul c ∙ sym (zero-mul D)) (add_scaled A B D a b c dp cp ea eb)
below_scaled true true A B D a b c dp cp ea eb = ltb_scaled B A D b a c dp cp eb ea

pub lt_values : (x y : Float) (s : Bool) (a : ℕ) (t : Bool) (b c : ℕ) → 0 < c → HasValue x s a c → HasValue y t b c → lt x y ≡ below s a t b
unfolding lt
lt_values nan y s a t b c cp v w = absurd v
lt_values (inf p) y s a t b c cp v w = absurd v
lt_values (fin p m e) nan s a t b c cp v w = absurd w
lt_values (fin p m e) (inf q) s a t b c cp v w = absurd w
lt_values (fin p m e) (fin q n d) s a t b c cp v w =
    below_scaled p q (m * up e * down d) (n * up d * down e) (down e * down d) a b c (mul-pos (down_pos e) (down_pos d)) cp
    (left_over m (up e) (down e) (down d) a c v.1) (right_over n (up d) (down d) (down e) b c w.1)
    ∙ ap₂ (λ (x y : Bool). below x a y b) v.0 w.0

level_scaled : (s t : Bool) (A B D a b c : ℕ) → 0 < D → 0 < c → A * c ≡ a * D → B * c ≡ b * D → level s A t B ≡ level s a t b
level_scaled s t A B D a b c dp cp ea eb =
    ap₂ (λ (x y : Bool). x && (beq s t || y)) (eqb_scaled A B D a b c dp cp ea eb) (eqb_scaled A 0 D a 0 c dp cp ea (zero-mul c ∙ sym (zero-mul D)))

pub eq_values : (x y : Float) (s : Bool) (a : ℕ) (t : Bool) (b c : ℕ) → 0 < c → HasValue x s a c → HasValue y t b c → eq x y ≡ level s a t b
unfolding eq
eq_values nan y s a t b c cp v w = absurd v
eq_values (inf p) y s a t b c cp v w = absurd v
eq_values (fin p m e) nan s a t b c cp v w = absurd w
eq_values (fin p m e) (inf q) s a t b c cp v w = absurd w
eq_values (fin p m e) (fin q n d) s a t b c cp v w =
    level_scaled p q (m * up e * down d) (n * up d * down e) (down e * down d) a b c (mul-pos (down_pos e) (down_pos d)) cp
    (left_over m (up e) (down e) (down d) a c v.1) (right_over n (up d) (down d) (down e) b c w.1)
    ∙ ap₂ (λ (x y : Bool). level x a y b) v.0 w.0
