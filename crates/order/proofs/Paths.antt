-- Laws of paths: a wider set, going on, going back, leaving a set, and keeping off a part. Assumes nothing.
use Prim.Native.Nat.{ℕ}
use native.Mathlib.Decide.{ℕ_discrete}
use mathlib.Core.Path.{◌≡◌, refl, sym, ◌∙◌, subst}
use mathlib.Core.Logic.{◌⊎◌, inl, inr}
use mathlib.Core.List.{List}
use Rattle.station.specs.Station.{Cable}
use Rattle.order.specs.Reach.{Joined, Path, arrived, onward}
use Rattle.order.proofs.Joins.{joined_sym}

module _ (cs : List Cable) where
  pub path_start : {P : ℕ → Type 0} {t u : ℕ} → Path cs P t u → P u
  path_start (arrived p e) = p
  path_start (onward v p j r) = p

  pub path_end : {P : ℕ → Type 0} {t u : ℕ} → Path cs P t u → P t
  path_end {P} (arrived p e) = subst P e p
  path_end (onward v p j r) = path_end r

  pub path_wider : {P Q : ℕ → Type 0} {t u : ℕ} → ((x : ℕ) → P x → Q x) → Path cs P t u → Path cs Q t u
  path_wider f (arrived {u} p e) = arrived (f u p) e
  path_wider f (onward {u} v p j r) = onward v (f u p) j (path_wider f r)

  pub path_on : {P : ℕ → Type 0} {t v u : ℕ} → Path cs P v u → Path cs P t v → Path cs P t u
  path_on {P} {t} (arrived p e) q = subst (Path cs P t) (sym e) q
  path_on (onward v p j r) q = onward v p j (path_on r q)

  pub path_back : {P : ℕ → Type 0} {t u : ℕ} → Path cs P t u → Path cs P u t
  path_back {P} {t} {u} (arrived p e) = arrived (subst P e p) (sym e)
  path_back {P} {t} {u} (onward v p j r) = path_on (path_back r) (onward u (path_start r) (joined_sym cs j) (arrived p refl))

  -- A path to t keeps off a part that has none.
  pub path_off : {P : ℕ → Type 0} {t u : ℕ} (a : ℕ) → Path cs P t u → (Path cs P t a → ⊥) → Path cs (λ x. P x × (x ≡ a → ⊥)) t u
  path_off {P} {t} a (arrived {u} p e) n = arrived (p, λ q. n (subst (Path cs P t) q (arrived p e))) e
  path_off {P} {t} a (onward {u} v p j r) n = onward v (p, λ q. n (subst (Path cs P t) q (onward v p j r))) j (path_off a r n)

  -- A path to another part than a keeps off a, or it does so from a neighbour of a on.
  pub path_last : {P : ℕ → Type 0} {t u : ℕ} (a : ℕ) → (t ≡ a → ⊥) → Path cs P t u
      → Path cs (λ x. P x × (x ≡ a → ⊥)) t u ⊎ ((v : ℕ) × Joined cs a v × Path cs (λ x. P x × (x ≡ a → ⊥)) t v)
  path_last a n (arrived p e) = inl (arrived (p, λ q. n (sym e ∙ q)) e)
  path_last {P} {t} a n (onward {u} v p j r) = go (ℕ_discrete u a) (path_last a n r)
    where
      Q : ℕ → Type 0
      Q x = P x × (x ≡ a → ⊥)

      go : Dec (u ≡ a) → Path cs Q t v ⊎ ((w : ℕ) × Joined cs a w × Path cs Q t w) → Path cs Q t u ⊎ ((w : ℕ) × Joined cs a w × Path cs Q t w)
      go d (inr h) = inr h
      go (yes e) (inl q) = inr (v, subst (λ (x : ℕ). Joined cs x v) e j, q)
      go (no k) (inl q) = inl (onward v (p, k) j q)

  -- A path that starts inside U stays there, or it goes inside U up to a part joined to one outside.
  pub path_leaves : {P U : ℕ → Type 0} {t u : ℕ} → ((x : ℕ) → Dec (U x)) → U u → Path cs P t u
      → Path cs (λ x. P x × U x) t u ⊎ ((w r : ℕ) × Path cs (λ x. P x × U x) w u × Joined cs w r × (U r → ⊥))
  path_leaves d h (arrived p e) = inl (arrived (p, h) e)
  path_leaves {P} {U} {t} d h (onward {u} v p j r) = go (d v) (λ k. path_leaves d k r)
    where
      Q : ℕ → Type 0
      Q x = P x × U x

      on : Path cs Q t v ⊎ ((w r : ℕ) × Path cs Q w v × Joined cs w r × (U r → ⊥)) → Path cs Q t u ⊎ ((w r : ℕ) × Path cs Q w u × Joined cs w r × (U r → ⊥))
      on (inl q) = inl (onward v (p, h) j q)
      on (inr q) = inr (q.0, q.1, onward v (p, h) j q.2, q.3, q.4)

      go : Dec (U v) → (U v → Path cs Q t v ⊎ ((w r : ℕ) × Path cs Q w v × Joined cs w r × (U r → ⊥))) → Path cs Q t u ⊎ ((w r : ℕ) × Path cs Q w u × Joined cs w r × (U r → ⊥))
      go (yes k) below = on (below k)
      go (no k) below = inr (u, v, arrived (p, h) refl, j, k)
