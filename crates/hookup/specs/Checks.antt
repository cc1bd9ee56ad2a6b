-- The checks of a call, in their order: what the caller gives is 'tested before the list' (2026-05), what is drawn 'after 10 and before 11'
-- (2026-06). Assumes nothing.
use Rattle.std.specs.Prelude.{List, [], ◌∷◌, ◌++◌}
use Rattle.prices.specs.Discounts.{check12}
use Rattle.station.specs.Station.{station_of}
use Rattle.checks.specs.declared.Fault.TheVariants as faults
use Rattle.checks.specs.Checks.{Check}
use Rattle.order.specs.Checks.{all_checks}
use Rattle.drawing.specs.Spacing.{spaced, check13, check14}
use Rattle.hookup.specs.declared.Options.{Options}
use Rattle.hookup.specs.Drawing.{drawing}

-- the checks of what the caller gives: 13 is 'tested after 12 and before the list'
unfoldable pub option_checks : Options → List Check
option_checks options =
    record { fault = faults.DiscountTooHigh; finds = λ list. check12 options.discount }
    ∷ record { fault = faults.WrongSpacing; finds = λ list. check13 options.spacing }
    ∷ []

-- and those of the list: all that come before something is drawn
unfoldable pub given_checks : Options → List Check
given_checks options = option_checks options ++ all_checks

-- the checks of the drawing as it is spaced: 14 is 'tested after 10 and before 11'
unfoldable pub drawing_checks : Options → List Check
drawing_checks options = record { fault = faults.NumberTooLarge; finds = λ list. check14 (spaced options.spacing (drawing (station_of list))) } ∷ []

unfoldable pub call_checks : Options → List Check
call_checks options = given_checks options ++ drawing_checks options
