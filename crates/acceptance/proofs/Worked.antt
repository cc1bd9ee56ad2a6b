-- The triangle's sheets are accepted: the thirteen words, the seventeen with a discount, and those for print. Assumes nothing.
use Rattle.order.proofs.Triangle.{triangle}
use Rattle.drawing.proofs.Worked.{thirteen}
use Rattle.hookup.specs.Options.{plain, quoted, spaced_by}
use Rattle.hookup.proofs.Table.{printed}
use Rattle.hookup.proofs.Triangle.{seventeen, triangle_demand3, triangle_quoted, triangle_spaced}
use Rattle.validation.specs.Outcome.{Accepted}
use Rattle.acceptance.proofs.Own.{own_accepted}

pub triangle_accepted : Accepted triangle thirteen
triangle_accepted = own_accepted plain triangle thirteen triangle_demand3

pub quoted_accepted : Accepted triangle seventeen
quoted_accepted = own_accepted (quoted 1250) triangle seventeen triangle_quoted

pub printed_accepted : Accepted triangle printed
printed_accepted = own_accepted (spaced_by 2 3 10 plain) triangle printed triangle_spaced
