-- The definitions that worked examples compute with, opened together: an example names `location_computing` on its unfolding line. Assumes
-- nothing.
use Rattle.checks.specs.Checks.{or_else, first_refusal, at_when}
use Rattle.checks.specs.Outcome.{fitted, if_passed}
use Rattle.validation.specs.Layout.{cable_place}
use Rattle.validation.proofs.Computing.{validation_computing}
use Rattle.bounds.specs.Boxes.{grown, grown_by, box_of}
use Rattle.location.specs.Hits.{part_at, cables_at, hit_at, hit_words}
use Rattle.location.specs.Selection.{cable_box}
use Rattle.location.specs.Outcome.{mark_checks, cable_checks, locate_outcome, selected, bounded}

unfoldable pub location_computing : Unit {0}
unfolding validation_computing or_else first_refusal at_when fitted if_passed cable_place grown grown_by box_of part_at cables_at hit_at hit_words cable_box mark_checks cable_checks locate_outcome selected bounded
location_computing = tt
