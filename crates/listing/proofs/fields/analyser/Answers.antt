-- `listing::fields::analyser` meets its contract. Assumes nothing.
use Rattle.station.specs.Station.{station_of}
use Rattle.listing.proofs.fields.analyser.Goals as goal

pub returns : goal.returns
unfolding station_of
returns c = c.second.ensures
