-- What the code keeps: the checks that it has made, the station of a list that passed them. Assumes nothing.
use Rattle.std.specs.Prelude.{ℕ, ◌<◌, ◌≤◌, ◌≡◌, List, length, get_or, leb}
use Rattle.lists.specs.Select.{filter}
use Rattle.words.specs.Limits.{least_parts, most_parts, most_degree}
use Rattle.station.specs.Station.{no_cable, Station, degree}
use Rattle.checks.specs.Checks.{Check, number_of}
use Rattle.station.specs.Checks.{list_checks}

-- the checks of a number up to k
abbrev pub up_to : ℕ → List Check
up_to k = filter (λ c. leb (number_of c.fault) k) list_checks

-- What checks 1 to 8 leave of a station: 3 to 512 parts, two different ends, cables between different parts, at most four at a part. Part
-- 0, which is read beyond the last line, is a part too, and no cable joins a number that is no part's.
pub record Wired (st : Station) : Type 0 where
  pub least : least_parts ≤ st.parts
  pub most : st.parts ≤ most_parts
  pub source : st.source < st.parts
  pub analyser : st.analyser < st.parts
  pub apart : st.source ≡ st.analyser → ⊥
  pub one : (i : ℕ) → (get_or st.cables i no_cable).one < st.parts
  pub other : (i : ℕ) → (get_or st.cables i no_cable).other < st.parts
  pub loopless : (i : ℕ) → i < length st.cables → (get_or st.cables i no_cable).one ≡ (get_or st.cables i no_cable).other → ⊥
  pub degrees : (p : ℕ) → degree st.cables p ≤ most_degree
