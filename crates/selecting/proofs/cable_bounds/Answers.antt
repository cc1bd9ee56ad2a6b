-- `selecting::cable_bounds` meets its contract. Assumes nothing.
use Rattle.selecting.proofs.Choice.{box_refused, corners_inside, own_corners, box_found}
use Rattle.selecting.proofs.cable_bounds.Goals as goal

pub returns-in_err-own : goal.returns-in_err-own
returns-in_err-own c = box_refused c.select_cable.ensures _ c.in_err-own.was c.from_residual.ensures.1

pub corners_at-corners-requires : goal.corners_at-corners-requires
corners_at-corners-requires c = corners_inside c.select_cable.ensures c.in_ok-own.was

pub of-requires : goal.of-requires
of-requires c = own_corners c.select_cable.ensures c.in_ok-own.was c.corners_at-corners.ensures

pub returns : goal.returns
returns c = box_found c.select_cable.ensures c.in_ok-own.was c.corners_at-corners.ensures c.of.ensures c.box_over.ensures
