-- `listing::fields::cable_count` meets its contract. Assumes nothing.
use mathlib.Core.Path.{sym}
use Rattle.station.proofs.Cables.{cables_count}
use Rattle.listing.proofs.fields.cable_count.Goals as goal

pub returns : goal.returns
returns c = sym (cables_count _)
