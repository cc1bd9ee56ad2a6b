-- Request 2026-13: 'equal n, s and t and the same cables with the same repeats'. A station is a multigraph with two named parts, and how
-- often two parts are joined is the multiplicity of that edge. Assumes nothing.
use Rattle.std.specs.Prelude.{ℕ, ◌≡◌, Bool, ◌&&◌, ◌||◌, List, eqb}
use Rattle.lists.specs.Select.{count}
use Rattle.station.specs.Station.{Cable, Station}

-- the cable joins a and b, either way round
unfoldable pub between : ℕ → ℕ → Cable → Bool
between a b c = (eqb c.one a && eqb c.other b) || (eqb c.one b && eqb c.other a)

-- how many cables join a and b
unfoldable pub multiplicity : List Cable → ℕ → ℕ → ℕ
multiplicity cables a b = count (between a b) cables

-- 'equal n, s and t and the same cables with the same repeats'
pub record SameStation (st su : Station) : Type 0 where
  pub parts : st.parts ≡ su.parts
  pub source : st.source ≡ su.source
  pub analyser : st.analyser ≡ su.analyser
  pub cables : (a b : ℕ) → multiplicity st.cables a b ≡ multiplicity su.cables a b
