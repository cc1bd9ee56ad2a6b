-- The definitions that worked examples compute with, opened together: an example names `levels_computing` on its unfolding line. Assumes
-- nothing.
use mathlib.Core.List.{flat_map}
use lib.Ieee.{round, to_bits}
use Rattle.order.proofs.Computing.{order_computing}
use Rattle.checks.specs.Outcome.{fitted, if_passed}
use Rattle.levels.specs.Level.{level_of}
use Rattle.levels.specs.Sorts.{gain_of, misformed, check17, check17_count, misnumbered, check18, sort_checks}
use Rattle.levels.specs.SignalPaths.{level_from, level_along, lower_neighbours, signal_paths_within, signal_paths_to, lesser, greater, merged, merged_from, extremes_of, levels_at}
use Rattle.levels.specs.Outcome.{in_floats, level_floats, level_checks, levels_outcome}

unfoldable pub levels_computing : Unit {0}
unfolding order_computing flat_map round to_bits fitted if_passed level_of gain_of misformed check17 check17_count misnumbered check18 sort_checks level_from level_along lower_neighbours signal_paths_within signal_paths_to lesser greater merged merged_from extremes_of levels_at in_floats level_floats level_checks levels_outcome
levels_computing = tt
