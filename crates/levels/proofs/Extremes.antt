-- The least and the greatest of some levels: no level lies outside them, and each is one of the levels. Assumes nothing.
use mathlib.Core.Path.{◌≡◌, refl, sym, ap₂, subst}
use mathlib.Core.Logic.{◌⊎◌, inl, inr}
use mathlib.Core.List.Memᴰ
use mathlib.Core.List.{List, [], ◌∷◌, Memᴰ}
use Prim.Native.Nat.{◌<◌}
use native.Mathlib.Omega.{arith}
use lib.IntN.{ℤ, pos, ◌+ℤ◌}
use lib.Signed.{◌≤ℤ◌, ≤ℤ_refl}
use lib.ListN.{length}
use Rattle.levels.specs.SignalPaths.{Extremes, merged, merged_from, extremes_of}
use Rattle.levels.specs.Readings.{raised}
use Rattle.levels.proofs.Order.{≤ℤ_trans, ≤ℤ_antisym, ≤ℤ_add, lesser_left, lesser_right, greater_left, greater_right, lesser_one, greater_one}

-- ---- extremes beyond others
record Spans (c d : Extremes) : Type 0 where
  least : c.least ≤ℤ d.least
  greatest : d.greatest ≤ℤ c.greatest

spans_self : (c : Extremes) → Spans c c
spans_self c = record { least = ≤ℤ_refl c.least; greatest = ≤ℤ_refl c.greatest }

spans_trans : {b c d : Extremes} → Spans b c → Spans c d → Spans b d
spans_trans h k = record { least = ≤ℤ_trans h.least k.least; greatest = ≤ℤ_trans k.greatest h.greatest }

merged_first : (c d : Extremes) → Spans (merged c d) c
unfolding merged
merged_first c d = record { least = lesser_left c.least d.least; greatest = greater_left c.greatest d.greatest }

merged_second : (c d : Extremes) → Spans (merged c d) d
unfolding merged
merged_second c d = record { least = lesser_right c.least d.least; greatest = greater_right c.greatest d.greatest }

from_first : (c : Extremes) (ds : List Extremes) → Spans (merged_from c ds) c
unfolding merged_from
from_first c [] = spans_self c
from_first c (d ∷ ds) = spans_trans (from_first (merged c d) ds) (merged_first c d)

from_each : (c : Extremes) (ds : List Extremes) {d : Extremes} → Memᴰ d ds → Spans (merged_from c ds) d
unfolding merged_from
from_each c [] m = absurd (Memᴰ.not-nil m)
from_each c (b ∷ ds) {d} m = go (λ n. from_each (merged c b) ds n) (Memᴰ.cases_cons m)
  where
    go : (Memᴰ d ds → Spans (merged_from (merged c b) ds) d) → (d ≡ b) ⊎ Memᴰ d ds → Spans (merged_from (merged c b) ds) d
    go later (inl e) = subst (λ (x : Extremes). Spans (merged_from (merged c b) ds) x) (sym e) (spans_trans (from_first (merged c b) ds) (merged_second c b))
    go later (inr n) = later n

spans_each : (cs : List Extremes) {c : Extremes} → Memᴰ c cs → Spans (extremes_of cs) c
unfolding extremes_of
spans_each [] m = absurd (Memᴰ.not-nil m)
spans_each (b ∷ cs) {c} m = go (Memᴰ.cases_cons m)
  where
    go : (c ≡ b) ⊎ Memᴰ c cs → Spans (merged_from b cs) c
    go (inl e) = subst (λ (x : Extremes). Spans (merged_from b cs) x) (sym e) (from_first b cs)
    go (inr n) = from_each b cs n

-- ---- what holds of both extremes of each holds of both together
pub record Both (P : ℤ → Type 0) (c : Extremes) : Type 0 where
  pub least : P c.least
  pub greatest : P c.greatest

pub merged_both : (P : ℤ → Type 0) (c d : Extremes) → Both P c → Both P d → Both P (merged c d)
unfolding merged
merged_both P c d h k = record { least = lesser_one c.least d.least P h.least k.least; greatest = greater_one c.greatest d.greatest P h.greatest k.greatest }

from_both : (P : ℤ → Type 0) (c : Extremes) (ds : List Extremes) → Both P c → ((d : Extremes) → Memᴰ d ds → Both P d) → Both P (merged_from c ds)
unfolding merged_from
from_both P c [] h e = h
from_both P c (d ∷ ds) h e = from_both P (merged c d) ds (merged_both P c d h (e d (Memᴰ.head refl))) (λ x m. e x (Memᴰ.tail m))

pub extremes_both : (P : ℤ → Type 0) (cs : List Extremes) → 0 < length cs → ((c : Extremes) → Memᴰ c cs → Both P c) → Both P (extremes_of cs)
unfolding extremes_of
extremes_both P [] h e = absurd (omega arith)
extremes_both P (c ∷ cs) h e = from_both P c cs (e c (Memᴰ.head refl)) (λ x m. e x (Memᴰ.tail m))

-- of none, both are 0
pub extremes_all : (P : ℤ → Type 0) (cs : List Extremes) → P (pos 0) → ((c : Extremes) → Memᴰ c cs → Both P c) → Both P (extremes_of cs)
unfolding extremes_of
extremes_all P [] z e = record { least = z; greatest = z }
extremes_all P (c ∷ cs) z e = from_both P c cs (e c (Memᴰ.head refl)) (λ x m. e x (Memᴰ.tail m))

-- ---- a level lies between the least and the greatest
pub record Encloses (c : Extremes) (z : ℤ) : Type 0 where
  pub above : c.least ≤ℤ z
  pub under : z ≤ℤ c.greatest

pub extremes_enclose : (cs : List Extremes) {c : Extremes} {z : ℤ} → Memᴰ c cs → Encloses c z → Encloses (extremes_of cs) z
extremes_enclose cs m b =
    let s = spans_each cs m in
    record { above = ≤ℤ_trans s.least b.above; under = ≤ℤ_trans b.under s.greatest }

pub raised_encloses : (c : Extremes) (z g : ℤ) → Encloses c z → Encloses (raised c g) (z +ℤ g)
raised_encloses c z g b = record { above = ≤ℤ_add c.least z g b.above; under = ≤ℤ_add z c.greatest g b.under }

-- extremes between which each other's lie are the same
pub extremes_one : (c d : Extremes) → Both (Encloses c) d → Both (Encloses d) c → c ≡ d
extremes_one c d h k =
    ap₂ (λ (x y : ℤ). record { least = x; greatest = y }) (≤ℤ_antisym h.least.above k.least.above) (≤ℤ_antisym k.greatest.under h.greatest.under)
