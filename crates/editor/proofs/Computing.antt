-- The definitions that worked examples compute with, opened together: an example names `editor_computing` on its unfolding line. Assumes
-- nothing.
use Rattle.station.proofs.Computing.{station_computing}
use Rattle.editor.specs.Rows.{present, list_in, raised_by, followed_by, longer}
use Rattle.checks.specs.Checks.{made_on}
use Rattle.editor.specs.Checks.{row_checks, beyond_field, cable_checks, check15, check16, new_checks, propose_checks, commit_checks}
use Rattle.editor.specs.Operations.{checks_of, stored, leaves, effect, slip, proposed}
use Rattle.editor.specs.Runs.{run, laid_by, laid}

unfoldable pub editor_computing : Unit {0}
unfolding station_computing present list_in raised_by followed_by longer made_on row_checks beyond_field cable_checks check15 check16 new_checks propose_checks commit_checks checks_of stored leaves effect slip proposed run laid_by laid
editor_computing = tt
