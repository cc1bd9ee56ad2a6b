-- A search of the first n places as far as place i: what it finds from there on is what it finds. Assumes nothing.
use Rattle.std.specs.Prelude.{Some, None}
use Prim.Native.Nat.{ℕ, ◌+◌, ◌-◌, ◌<◌, ◌≤◌}
use native.Mathlib.Omega.{arith}
use mathlib.Core.Path.{◌≡◌, refl, sym, ◌∙◌}
use mathlib.Core.Bool.{Bool, true, false}
use Rattle.lists.specs.Search.{seek}
use Rattle.lists.proofs.Search.{seek_at, seek_next, seek_end}

pub record Seeking (p : ℕ → Bool) (n i : ℕ) : Type 0 where
  pub place : i ≤ n
  pub rest : seek p i (n - i) ≡ seek p 0 n

pub seeking_start : (p : ℕ → Bool) (n : ℕ) → Seeking p n 0
seeking_start p n = let e : n - 0 ≡ n = omega arith in record { place = omega arith; rest = rw e refl }

module _ {p : ℕ → Bool} {n i : ℕ} (S : Seeking p n i) where
  pub seeking_next : i < n → p i ≡ false → Seeking p n (i + 1)
  seeking_next h e = record { place = omega arith; rest = sym (seek_next p i n h e) ∙ S.rest }

  pub seeking_at : i < n → p i ≡ true → Some i ≡ seek p 0 n
  seeking_at h e = sym (seek_at p i n h e) ∙ S.rest

  pub seeking_end : n ≤ i → None ≡ seek p 0 n
  seeking_end h = sym (seek_end p i n h) ∙ S.rest
