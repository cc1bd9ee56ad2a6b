-- What is to be shown of the order: it is an st-ordering as source 000, section 2, defines it, and the smallest 'when compared part by
-- part'. Assumes nothing.
use Rattle.std.specs.Prelude.{ℕ, suc, ◌<◌, ◌≡◌, ◌⊎◌, List, length, get_or}
use Rattle.station.specs.Station.{Station}
use Rattle.order.specs.Reach.{Joined}

-- A sequence of all parts, each once, from s to t, in which every other part is joined to one before it and to one after it.
pub record StOrdering (st : Station) (l : List ℕ) : Type 0 where
  pub all : length l ≡ st.parts
  pub inside : (k : ℕ) → k < st.parts → get_or l k 0 < st.parts
  pub once : (j k : ℕ) → j < st.parts → k < st.parts → get_or l j 0 ≡ get_or l k 0 → j ≡ k
  pub first : get_or l 0 0 ≡ st.source
  pub last : (k : ℕ) → suc k ≡ st.parts → get_or l k 0 ≡ st.analyser
  pub before : (k : ℕ) → 0 < k → suc k < st.parts → (j : ℕ) × (j < k) × Joined st.cables (get_or l k 0) (get_or l j 0)
  pub after : (k : ℕ) → 0 < k → suc k < st.parts → (j : ℕ) × (k < j) × (j < st.parts) × Joined st.cables (get_or l k 0) (get_or l j 0)

-- a comes before b: they agree up to a place where a has the lower part
pub record Before (a b : List ℕ) : Type 0 where
  pub place : ℕ
  pub agree : (k : ℕ) → k < place → get_or a k 0 ≡ get_or b k 0
  pub lower : get_or a place 0 < get_or b place 0

-- 'the st-ordering from s to t that is smallest when compared part by part'
pub record Smallest (st : Station) (l : List ℕ) : Type 0 where
  pub ordering : StOrdering st l
  pub least : (r : List ℕ) → StOrdering st r → (l ≡ r) ⊎ Before l r
