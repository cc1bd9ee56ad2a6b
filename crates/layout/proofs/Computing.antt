-- The definitions that worked examples compute with, opened together: an example names `layout_computing` on its unfolding line. Assumes
-- nothing.
use Rattle.layout.specs.Columns.{moved, line_between, bottom_line, top_line, by_rank, by_column, outgoing, incoming, taken, step, columns}
use Rattle.layout.specs.Points.{turns, drop_repeats, points_of, inner, corners_of, bottom_rows, top_rows, row, part_spot, course, rank_spot, course_of}
use Rattle.layout.specs.Layout.{drawn_in, layout}
use Rattle.order.proofs.Computing.{order_computing}
use Rattle.drawing.proofs.Computing.{drawing_computing}

unfoldable pub layout_computing : Unit {0}
unfolding order_computing drawing_computing moved line_between bottom_line top_line by_rank by_column outgoing incoming taken step columns turns drop_repeats points_of inner corners_of bottom_rows top_rows row part_spot course rank_spot course_of drawn_in layout
layout_computing = tt
