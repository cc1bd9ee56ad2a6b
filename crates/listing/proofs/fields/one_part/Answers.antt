-- `listing::fields::one_part` meets its contract. Assumes nothing.
use mathlib.Core.Path.{sym, ◌∙◌}
use Rattle.station.proofs.Cables.{one_at}
use Rattle.listing.proofs.fields.one_part.Goals as goal

pub returns : goal.returns
returns c = c.first.ensures ∙ sym (one_at _ _)
