-- What the order theorem asks of a station: that it is wired and bipolar, which follows from a pass of checks 1 to 8 and 10. Assumes
-- nothing.
use Rattle.station.specs.Station.{Station}
use Rattle.station.specs.Code.{Wired}
use Rattle.order.specs.Bipolar.{Bipolar}

-- a station with an order: it is wired as checks 1 to 8 say, and bipolar
pub record Orderable (st : Station) : Type 0 where
  pub wired : Wired st
  pub bipolar : Bipolar st
