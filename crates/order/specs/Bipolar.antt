-- What an order of the parts from s to t asks of a station, in terms of paths: that check 10 passes (2026-14). Assumes nothing.
use Rattle.std.specs.Prelude.{ℕ, ◌<◌, ◌≡◌, ◌⊎◌}
use Rattle.station.specs.Station.{Station}
use Rattle.order.specs.Reach.{Path}

-- inside the station without part v
abbrev pub Off : ℕ → ℕ → ℕ → Type 0
Off n v x = (x < n) × (x ≡ v → ⊥)

-- p has a path without v to s or to t; where v is one of them, to the other
abbrev pub ReachesEnd : Station → ℕ → ℕ → Type 0
ReachesEnd st v p = Path st.cables (Off st.parts v) st.source p ⊎ Path st.cables (Off st.parts v) st.analyser p

-- The station is biconnected once a cable joins s and t: without any part v, every other part still has a path to s or to t.
abbrev pub Bipolar : Station → Type 0
Bipolar st = (v p : ℕ) → v < st.parts → p < st.parts → (p ≡ v → ⊥) → ReachesEnd st v p
