-- Paths among parts, check 9 of document 01 and check 10 of request 2026-14. Assumes nothing.
use Rattle.std.specs.Prelude.{ℕ, zero, suc, ◌+◌, ◌≡◌, Bool, true, false, cond, not, length, eqb, Option}
use mathlib.Core.List.{List, [], ◌∷◌, ◌++◌, Memᴰ}
use Rattle.lists.specs.Search.{seek}
use Rattle.lists.specs.Select.{range, member, without, cons_if}
use Rattle.station.specs.Station.{Cable, Station}

-- the parts at the other ends of p's cables, by line
unfoldable pub neighbours : List Cable → ℕ → List ℕ
neighbours [] p = []
neighbours (c ∷ cs) p = cons_if (eqb c.one p) c.other (cons_if (eqb c.other p) c.one (neighbours cs p))

-- a cable joins u and v
abbrev pub Joined : List Cable → ℕ → ℕ → Type 0
Joined cs u v = Memᴰ v (neighbours cs u)

-- A path from a part to t: parts inside a set, each joined to the next.
pub data Path (cs : List Cable) (inside : ℕ → Type 0) (t : ℕ) : ℕ → Type 0 where
  arrived : {u : ℕ} → inside u → u ≡ t → Path cs inside t u
  onward : {u : ℕ} (v : ℕ) → inside u → Joined cs u v → Path cs inside t v → Path cs inside t u

-- the cable ends at the parts of a list, counted
unfoldable pub ends_at : List Cable → List ℕ → ℕ
ends_at cs [] = 0
ends_at cs (p ∷ ps) = length (neighbours cs p) + ends_at cs ps

-- A walk: of the parts still to be visited (todo), each that is among those not yet reached (left) is taken out there, and its neighbours
-- are to be visited. What is left at the end was not reached. Every step takes one part off todo, so that as many steps are enough as are
-- ever put on it.
unfoldable pub walk : List Cable → ℕ → List ℕ → List ℕ → List ℕ
walk cs zero todo left = left
walk cs (suc k) [] left = left
walk cs (suc k) (p ∷ todo) left =
    let fresh = member p left in
    walk cs k (cond fresh (neighbours cs p ++ todo) todo) (cond fresh (without p left) left)

-- the parts of a set that none of the starts reaches inside the set; a start outside the set reaches nothing
unfoldable pub unreached : List Cable → List ℕ → List ℕ → List ℕ
unreached cs set starts = walk cs (ends_at cs set + length starts) starts set

unfoldable pub null : List ℕ → Bool
null [] = true
null (x ∷ xs) = false

-- a set whose parts are 'joined to each other by paths among themselves': its first part reaches them all
unfoldable pub connected : List Cable → List ℕ → Bool
connected cs [] = true
connected cs (p ∷ ps) = null (unreached cs (p ∷ ps) (p ∷ []))

-- 9: 'a part that part 0 doesn't reach', 'lowest such part'
unfoldable pub check9 : Station → Option ℕ
check9 st = let left = unreached st.cables (range st.parts) (0 ∷ []) in seek (λ p. member p left) 0 st.parts

-- the parts that v separates from both ends: the other parts that reach, without v, 'neither s nor t, whichever of them remain'. Where v is
-- s or t, it is outside the set and reaches nothing.
unfoldable pub separated : Station → ℕ → List ℕ
separated st v = unreached st.cables (without v (range st.parts)) (st.source ∷ st.analyser ∷ [])

-- 10 (2026-14): 'a part whose removal leaves some other part that reaches neither s nor t', 'lowest such part'
unfoldable pub check10 : Station → Option ℕ
check10 st = seek (λ v. not (null (separated st v))) 0 st.parts
