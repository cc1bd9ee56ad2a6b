-- Document 01, 'Lists that are sent back': checks 9 and 10 behind checks 1 to 8. Assumes nothing.
use Rattle.std.specs.Prelude.{List, [], ◌∷◌, ◌++◌}
use Rattle.station.specs.Station.{station_of}
use Rattle.checks.specs.declared.Fault.TheVariants as faults
use Rattle.checks.specs.Checks.{Check}
use Rattle.station.specs.Checks.{list_checks}
use Rattle.order.specs.Reach.{check9, check10}

-- the checks of the station that a list describes, in their order
unfoldable pub station_checks : List Check
station_checks =
    record { fault = faults.UnreachedPart; finds = λ list. check9 (station_of list) }
    ∷ record { fault = faults.SeparatingPart; finds = λ list. check10 (station_of list) }
    ∷ []

-- the checks that look at a list alone
unfoldable pub all_checks : List Check
all_checks = list_checks ++ station_checks
