-- The definitions that worked examples compute with, opened together: an example names `hookup_computing` on its unfolding line. Assumes
-- nothing.
use Rattle.hookup.specs.Checks.{option_checks, given_checks, drawing_checks, call_checks}
use Rattle.hookup.specs.Drawing.{drawing_by, drawing}
use Rattle.hookup.specs.Outcome.{sheet_in, outcome}
use Rattle.checks.specs.Outcome.{fitted, if_passed}
use Rattle.layout.proofs.Computing.{layout_computing}

unfoldable pub hookup_computing : Unit {0}
unfolding layout_computing option_checks given_checks drawing_checks call_checks drawing_by drawing sheet_in fitted if_passed outcome
hookup_computing = tt
