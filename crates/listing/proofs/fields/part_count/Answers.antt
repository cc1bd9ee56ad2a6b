-- `listing::fields::part_count` meets its contract. Assumes nothing.
use Rattle.station.specs.Station.{station_of}
use Rattle.listing.proofs.fields.part_count.Goals as goal

pub returns : goal.returns
unfolding station_of
returns c = c.parts.ensures
