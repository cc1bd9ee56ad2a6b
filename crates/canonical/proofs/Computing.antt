-- The definitions that worked examples compute with, opened together: an example names `canonical_computing` on its unfolding line. Assumes
-- nothing.
use Rattle.station.proofs.Computing.{station_computing}
use Rattle.checks.specs.Outcome.{fitted, if_passed}
use Rattle.canonical.specs.Canonical.{turned, by_parts, canonical_cables, canonical}
use Rattle.canonical.specs.Outcome.{canonical_outcome}

unfoldable pub canonical_computing : Unit {0}
unfolding station_computing fitted if_passed turned by_parts canonical_cables canonical canonical_outcome
canonical_computing = tt
