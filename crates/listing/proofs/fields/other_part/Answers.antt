-- `listing::fields::other_part` meets its contract. Assumes nothing.
use mathlib.Core.Path.{sym, ◌∙◌}
use Rattle.station.proofs.Cables.{other_at}
use Rattle.listing.proofs.fields.other_part.Goals as goal

pub returns : goal.returns
returns c = c.second.ensures ∙ sym (other_at _ _)
