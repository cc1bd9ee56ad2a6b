-- `listing::fields::source` meets its contract. Assumes nothing.
use Rattle.station.specs.Station.{station_of}
use Rattle.listing.proofs.fields.source.Goals as goal

pub returns : goal.returns
unfolding station_of
returns c = c.first.ensures
