-- Document 01, 'The order of parts'. Assumes nothing.
use Rattle.std.specs.Prelude.{ℕ, zero, suc, ◌-◌, Bool, cond, not, ◌&&◌, List, [], ◌∷◌, eqb}
use Rattle.lists.specs.Select.{range, member, any, without, index_of}
use Rattle.station.specs.Station.{Cable, Station}
use Rattle.order.specs.Reach.{neighbours, connected}

-- An unranked part, 'other than t, that is joined to a ranked part and whose removal from the unranked parts leaves those that remain
-- joined to each other by paths among themselves'. Every part that is not unranked is ranked.
unfoldable pub candidate : List Cable → ℕ → List ℕ → ℕ → Bool
candidate cs t unranked w =
    not (eqb w t) && any (λ q. not (member q unranked)) (neighbours cs w) && connected cs (without w unranked)

-- the first element that passes the test, or d
unfoldable pub first_or : ℕ → (ℕ → Bool) → List ℕ → ℕ
first_or d p [] = d
first_or d p (x ∷ xs) = cond (p x) x (first_or d p xs)

-- 'Each next rank goes to the lowest-numbered' candidate; the unranked parts stand by rising number. 't comes last': where no candidate is
-- left.
unfoldable pub extend : List Cable → ℕ → ℕ → List ℕ → List ℕ
extend cs t zero unranked = []
extend cs t (suc k) unranked =
    let w = first_or t (candidate cs t unranked) unranked in
    w ∷ extend cs t k (without w unranked)

-- 's has rank 0.' The parts by rank.
unfoldable pub order : Station → List ℕ
order st = st.source ∷ extend st.cables st.analyser (st.parts - 1) (without st.source (range st.parts))

-- the rank of a part
unfoldable pub rank_in : List ℕ → ℕ → ℕ
rank_in parts p = index_of p parts
