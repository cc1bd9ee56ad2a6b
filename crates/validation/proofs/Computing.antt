-- The definitions that worked examples compute with, opened together: an example names `validation_computing` on its unfolding line.
-- Assumes nothing.
use Rattle.order.proofs.Computing.{order_computing}
use Rattle.drawing.proofs.Computing.{drawing_computing}
use Rattle.validation.specs.Layout.{is_head, is_point, is_cable_at, misplaced, points_fault, cables_fault, check19}
use Rattle.validation.specs.Directions.{shown}
use Rattle.validation.specs.Alone.{each, level_run, upright_run, proper_run, turns, overlap, runs_share, touches_itself, on_line, joins_parts, alternates, passes_others, lone}
use Rattle.validation.specs.Facing.{ends_share, faces_forward}
use Rattle.validation.specs.Ways.{on_level, on_upright, at_end, way_at, cross_wise, clash, wrong_ways}
use Rattle.validation.specs.Judging.{each_spot, cross_here, allowed, together}
use Rattle.validation.specs.Rules.{points_read, right_read, wrong_alone, points_right, wrong_pair, check20}
use Rattle.validation.specs.Outcome.{sheet_checks, sheet_verdict}

unfoldable pub validation_computing : Unit {0}
unfolding order_computing drawing_computing is_head is_point is_cable_at misplaced points_fault cables_fault check19 shown each level_run upright_run proper_run turns overlap runs_share touches_itself on_line joins_parts alternates passes_others lone ends_share faces_forward on_level on_upright at_end way_at cross_wise clash wrong_ways each_spot cross_here allowed together points_read right_read wrong_alone points_right wrong_pair check20 sheet_checks sheet_verdict
validation_computing = tt
