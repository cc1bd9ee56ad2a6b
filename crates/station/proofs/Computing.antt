-- The definitions that worked examples compute with, opened together: an example names `station_computing` on its unfolding line. Assumes
-- nothing.
use Rattle.station.specs.Station.{station_of, cable_of, joins, degree}
use Rattle.checks.specs.Checks.{or_else, first_refusal, at_when}
use Rattle.station.specs.Checks.{check1, kind_at, misplaced, check2, check3, check4, outside, check5, check6, check8, list_checks}
use Rattle.lists.proofs.Computing.{lists_computing}

unfoldable pub station_computing : Unit {0}
unfolding lists_computing station_of cable_of joins degree or_else first_refusal at_when check1 kind_at misplaced check2 check3 check4 outside check5 check6 check8 list_checks
station_computing = tt
