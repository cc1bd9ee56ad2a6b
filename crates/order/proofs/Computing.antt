-- The definitions that worked examples compute with, opened together: an example names `order_computing` on its unfolding line. Assumes
-- nothing.
use Rattle.order.specs.Reach.{neighbours, ends_at, walk, unreached, null, connected, check9, separated, check10}
use Rattle.order.specs.CutParts.{cut_part}
use Rattle.order.specs.Checks.{station_checks, all_checks}
use Rattle.order.specs.Order.{candidate, first_or, extend, order, rank_in}
use Rattle.order.specs.Orientation.{lower_rank, upper_rank, lower_part, upper_part, ranked_by}
use Rattle.order.specs.Graph.{lines_at}
use Rattle.station.proofs.Computing.{station_computing}

unfoldable pub order_computing : Unit {0}
unfolding station_computing neighbours ends_at walk unreached null connected check9 separated check10 cut_part station_checks all_checks candidate first_or extend order rank_in lower_rank upper_rank lower_part upper_part ranked_by lines_at
order_computing = tt
