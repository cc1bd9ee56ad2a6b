-- Reaching agrees with paths: what a walk leaves are the parts without a path, and a set is connected exactly if any two of its parts have
-- a path inside it. Assumes nothing.
use Prim.Native.Nat.{ℕ, zero, suc, ◌+◌, ◌≤◌}
use native.Mathlib.Omega.{arith}
use native.Mathlib.Decide.{ℕ_discrete}
use mathlib.Core.Path.{◌≡◌, refl, sym, ap, ◌∙◌, subst}
use mathlib.Core.Logic.{◌⊎◌, inl, inr, ◌↔◌}
use mathlib.Core.Bool.{Bool, true, false, cond, not, false≢true}
use mathlib.Core.List.Memᴰ
use mathlib.Core.List.{List, [], ◌∷◌, ◌++◌, Memᴰ}
use lib.ListN.{length, length-append}
use lib.Dec.{eqb}
use borrow.Author.Tests.{eq-eqb}
use Rattle.lists.specs.Select.{member, without, cons_if, filter}
use Rattle.lists.proofs.Sets.{member_e, member_i, without_e, without_i}
use Rattle.station.specs.Station.{Cable}
use Rattle.order.specs.Reach.{neighbours, Joined, Path, arrived, onward, ends_at, walk, unreached, null, connected}
use Rattle.order.proofs.Paths.{path_start, path_wider, path_on, path_back, path_last}

-- the parts of a list, as a set to go in
abbrev pub Among : List ℕ → ℕ → Type 0
Among l x = Memᴰ x l

-- The walk's steps are enough: taking a part out of what is left takes out its cable ends.

cons_if_ends : (cs : List Cable) (b : Bool) (y : ℕ) (l : List ℕ) → ends_at cs (cons_if b y l) ≤ length (neighbours cs y) + ends_at cs l
unfolding ends_at
cons_if_ends cs true y l = omega arith
cons_if_ends cs false y l = omega arith

ends_without : (cs : List Cable) (p : ℕ) (l : List ℕ) → ends_at cs (without p l) ≤ ends_at cs l
unfolding ends_at without filter
ends_without cs p [] = omega arith
ends_without cs p (y ∷ ys) = omega (arith, cons_if_ends cs (not (eqb p y)) y (without p ys), ends_without cs p ys)

ends_removed : (cs : List Cable) {p : ℕ} (l : List ℕ) → Memᴰ p l → length (neighbours cs p) + ends_at cs (without p l) ≤ ends_at cs l
unfolding ends_at without filter
ends_removed cs [] m = absurd (Memᴰ.not-nil m)
ends_removed cs {p} (y ∷ ys) m = go (ℕ_discrete p y) (λ k. ends_removed cs ys k) (Memᴰ.cases_cons m)
  where
    go : Dec (p ≡ y) → (Memᴰ p ys → length (neighbours cs p) + ends_at cs (without p ys) ≤ ends_at cs ys) → (p ≡ y) ⊎ Memᴰ p ys
        → length (neighbours cs p) + ends_at cs (cons_if (not (eqb p y)) y (without p ys)) ≤ length (neighbours cs y) + ends_at cs ys
    go (yes e) below h =
        rw (eq-eqb p y e) (omega (arith, ap (λ (x : ℕ). length (neighbours cs x)) e, ends_without cs p ys))
    go (no n) below (inl e) = absurd (n e)
    go (no n) below (inr k) = omega (arith, cons_if_ends cs (not (eqb p y)) y (without p ys), below k)

module _ (cs : List Cable) where
  pub walk_sub : {q : ℕ} (k : ℕ) (todo left : List ℕ) → Memᴰ q (walk cs k todo left) → Memᴰ q left
  unfolding walk
  walk_sub zero todo left m = m
  walk_sub (suc k) [] left m = m
  walk_sub {q} (suc k) (p ∷ todo) left m = go (member p left) (λ t l n. walk_sub k t l n) m
    where
      go : (b : Bool) → ((t l : List ℕ) → Memᴰ q (walk cs k t l) → Memᴰ q l)
          → Memᴰ q (walk cs k (cond b (neighbours cs p ++ todo) todo) (cond b (without p left) left)) → Memᴰ q left
      go true below n = (without_e p left (below (neighbours cs p ++ todo) (without p left) n)).0
      go false below n = below todo left n

  -- What is left has no path from what was to be visited.
  pub walk_none : {q u : ℕ} (k : ℕ) (todo left : List ℕ) → length todo + ends_at cs left ≤ k → Memᴰ q (walk cs k todo left) → Memᴰ u todo
      → Path cs (Among left) q u → ⊥
  unfolding walk
  walk_none zero [] left f m h r = Memᴰ.not-nil h
  walk_none zero (p ∷ todo) left f m h r = absurd (omega arith)
  walk_none (suc k) [] left f m h r = Memᴰ.not-nil h
  walk_none {q} {u} (suc k) (p ∷ todo) left f m h r =
      go (member p left) refl (λ (v : ℕ) t l g n i s. walk_none {q = q} {u = v} k t l g n i s) m (Memᴰ.cases_cons h)
    where
      rest : List ℕ
      rest = without p left

      go : (b : Bool) → member p left ≡ b
          → ((v : ℕ) (t l : List ℕ) → length t + ends_at cs l ≤ k → Memᴰ q (walk cs k t l) → Memᴰ v t → Path cs (Among l) q v → ⊥)
          → Memᴰ q (walk cs k (cond b (neighbours cs p ++ todo) todo) (cond b (without p left) left)) → (u ≡ p) ⊎ Memᴰ u todo → ⊥
      go true e below n s = after (path_last cs p (without_e p left (walk_sub k next rest n)).1 r) s
        where
          next : List ℕ
          next = neighbours cs p ++ todo

          fuel : length next + ends_at cs rest ≤ k
          fuel = omega (arith, length-append (neighbours cs p) todo, ends_removed cs left (member_e p left e))

          off : (x : ℕ) → Among left x × (x ≡ p → ⊥) → Among rest x
          off x h = without_i p left h.0 h.1

          after : Path cs (λ x. Among left x × (x ≡ p → ⊥)) q u ⊎ ((v : ℕ) × Joined cs p v × Path cs (λ x. Among left x × (x ≡ p → ⊥)) q v)
              → (u ≡ p) ⊎ Memᴰ u todo → ⊥
          after (inr h) d = below h.0 next rest fuel n (Memᴰ.append_left todo h.1) (path_wider cs off h.2)
          after (inl h) (inl i) = (path_start cs h).1 i
          after (inl h) (inr i) = below u next rest fuel n (Memᴰ.append_right (neighbours cs p) i) (path_wider cs off h)
      go false e below n (inl i) = false≢true (sym e ∙ member_i left (Memᴰ.cast (sym i) (path_start cs r)))
      go false e below n (inr i) = below u todo left (omega arith) n i r

  -- What is not left has one.
  pub walk_some : {q : ℕ} (k : ℕ) (todo left : List ℕ) → Memᴰ q left
      → Memᴰ q (walk cs k todo left) ⊎ ((u : ℕ) × Memᴰ u todo × Path cs (Among left) q u)
  unfolding walk
  walk_some zero todo left m = inl m
  walk_some (suc k) [] left m = inl m
  walk_some {q} (suc k) (p ∷ todo) left m = go (member p left) refl (ℕ_discrete q p) (λ t l n. walk_some k t l n)
    where
      go : (b : Bool) → member p left ≡ b → Dec (q ≡ p)
          → ((t l : List ℕ) → Memᴰ q l → Memᴰ q (walk cs k t l) ⊎ ((u : ℕ) × Memᴰ u t × Path cs (Among l) q u))
          → Memᴰ q (walk cs k (cond b (neighbours cs p ++ todo) todo) (cond b (without p left) left)) ⊎ ((u : ℕ) × Memᴰ u (p ∷ todo) × Path cs (Among left) q u)
      go true e (yes i) below = inr (p, Memᴰ.head refl, arrived (member_e p left e) (sym i))
      go true e (no n) below = after (below (neighbours cs p ++ todo) (without p left) (without_i p left m n))
        where
          wide : (x : ℕ) → Among (without p left) x → Among left x
          wide x h = (without_e p left h).0

          from : (u : ℕ) → Path cs (Among (without p left)) q u → Memᴰ u (neighbours cs p) ⊎ Memᴰ u todo
              → (v : ℕ) × Memᴰ v (p ∷ todo) × Path cs (Among left) q v
          from u r (inl j) = (p, Memᴰ.head refl, onward u (member_e p left e) j (path_wider cs wide r))
          from u r (inr i) = (u, Memᴰ.tail i, path_wider cs wide r)

          after : Memᴰ q (walk cs k (neighbours cs p ++ todo) (without p left)) ⊎ ((u : ℕ) × Memᴰ u (neighbours cs p ++ todo) × Path cs (Among (without p left)) q u)
              → Memᴰ q (walk cs k (neighbours cs p ++ todo) (without p left)) ⊎ ((u : ℕ) × Memᴰ u (p ∷ todo) × Path cs (Among left) q u)
          after (inl h) = inl h
          after (inr h) = inr (from h.0 h.2 (Memᴰ.append_cases (neighbours cs p) h.1))
      go false e d below = after (below todo left m)
        where
          after : Memᴰ q (walk cs k todo left) ⊎ ((u : ℕ) × Memᴰ u todo × Path cs (Among left) q u)
              → Memᴰ q (walk cs k todo left) ⊎ ((u : ℕ) × Memᴰ u (p ∷ todo) × Path cs (Among left) q u)
          after (inl h) = inl h
          after (inr h) = inr (h.0, Memᴰ.tail h.1, h.2)

  -- Of a part of the set: it is unreached, or there is a path to it from a start.
  pub reached_from : {p : ℕ} (set starts : List ℕ) → Memᴰ p set
      → Memᴰ p (unreached cs set starts) ⊎ ((u : ℕ) × Memᴰ u starts × Path cs (Among set) p u)
  unfolding unreached
  reached_from set starts m = walk_some (ends_at cs set + length starts) starts set m

  -- What is unreached has no path from any start.
  pub unreached_from_iff : (set starts : List ℕ) (p : ℕ)
      → Memᴰ p (unreached cs set starts) ↔ (Memᴰ p set × ((u : ℕ) → Memᴰ u starts → Path cs (Among set) p u → ⊥))
  unfolding unreached
  unreached_from_iff set starts p = (
    λ m. (walk_sub (ends_at cs set + length starts) starts set m, λ u h r. walk_none (ends_at cs set + length starts) starts set (omega arith) m h r),
    λ h. go h.1 (reached_from set starts h.0),
  )
    where
      go : ((u : ℕ) → Memᴰ u starts → Path cs (Among set) p u → ⊥)
          → Memᴰ p (unreached cs set starts) ⊎ ((u : ℕ) × Memᴰ u starts × Path cs (Among set) p u) → Memᴰ p (unreached cs set starts)
      go n (inl h) = h
      go n (inr r) = absurd (n r.0 r.1 r.2)

  -- The same with one start.
  pub reached : {p : ℕ} (set : List ℕ) (u : ℕ) → Memᴰ p set → Memᴰ p (unreached cs set (u ∷ [])) ⊎ Path cs (Among set) p u
  reached {p} set u m = go (reached_from set (u ∷ []) m)
    where
      go : Memᴰ p (unreached cs set (u ∷ [])) ⊎ ((v : ℕ) × Memᴰ v (u ∷ []) × Path cs (Among set) p v)
          → Memᴰ p (unreached cs set (u ∷ [])) ⊎ Path cs (Among set) p u
      go (inl h) = inl h
      go (inr h) = inr (subst (Path cs (Among set) p) (Memᴰ.eq_of_singleton h.1) h.2)

  pub unreached_iff : (set : List ℕ) (u p : ℕ) → Memᴰ p (unreached cs set (u ∷ [])) ↔ (Memᴰ p set × (Path cs (Among set) p u → ⊥))
  unreached_iff set u p = (
    λ m. let h = (unreached_from_iff set (u ∷ []) p).0 m in (h.0, h.1 u (Memᴰ.head refl)),
    λ h. (unreached_from_iff set (u ∷ []) p).1 (h.0, λ v m r. h.1 (subst (Path cs (Among set) p) (Memᴰ.eq_of_singleton m) r)),
  )

  -- any two of the set have a path inside it
  abbrev pub AllJoined : List ℕ → Type 0
  AllJoined set = (u v : ℕ) → Memᴰ u set → Memᴰ v set → Path cs (Among set) v u

  -- two of the set have none
  abbrev pub Apart : List ℕ → Type 0
  Apart set = (u v : ℕ) × Memᴰ u set × Memᴰ v set × (Path cs (Among set) v u → ⊥)

  null_unreached : (p : ℕ) (ps l : List ℕ) → unreached cs (p ∷ ps) (p ∷ []) ≡ l
      → ((null (unreached cs (p ∷ ps) (p ∷ [])) ≡ true) × AllJoined (p ∷ ps)) ⊎ ((null (unreached cs (p ∷ ps) (p ∷ [])) ≡ false) × Apart (p ∷ ps))
  unfolding null
  null_unreached p ps [] e = inl (ap null e, λ u v m n. path_on cs (path_back cs (to u m (reached set p m))) (to v n (reached set p n)))
    where
      set : List ℕ
      set = p ∷ ps

      to : (x : ℕ) → Memᴰ x set → Memᴰ x (unreached cs set (p ∷ [])) ⊎ Path cs (Among set) x p → Path cs (Among set) x p
      to x m (inl h) = absurd (Memᴰ.not-nil (subst (Memᴰ x) e h))
      to x m (inr r) = r
  null_unreached p ps (x ∷ xs) e = inr (ap null e, (p, x, Memᴰ.head refl, h.0, h.1))
    where
      set : List ℕ
      set = p ∷ ps

      h : Memᴰ x set × (Path cs (Among set) x p → ⊥)
      h = (unreached_iff set p x).0 (subst (Memᴰ x) (sym e) (Memᴰ.head refl))

  -- the test on a set, with its meaning
  pub connected_cases : (set : List ℕ) → ((connected cs set ≡ true) × AllJoined set) ⊎ ((connected cs set ≡ false) × Apart set)
  unfolding connected
  connected_cases [] = inl (refl, λ u v m n. absurd (Memᴰ.not-nil m))
  connected_cases (p ∷ ps) = null_unreached p ps (unreached cs (p ∷ ps) (p ∷ [])) refl

  -- 'joined to each other by paths among themselves'
  pub connected_iff : (set : List ℕ) → (connected cs set ≡ true) ↔ AllJoined set
  connected_iff set = (λ e. to e (connected_cases set), λ h. fro h (connected_cases set))
    where
      to : connected cs set ≡ true → ((connected cs set ≡ true) × AllJoined set) ⊎ ((connected cs set ≡ false) × Apart set) → AllJoined set
      to e (inl h) = h.1
      to e (inr h) = absurd (false≢true (sym h.0 ∙ e))

      fro : AllJoined set → ((connected cs set ≡ true) × AllJoined set) ⊎ ((connected cs set ≡ false) × Apart set) → connected cs set ≡ true
      fro j (inl h) = h.0
      fro j (inr h) = absurd (h.1.4 (j h.1.0 h.1.1 h.1.2 h.1.3))
