-- The definitions that worked examples compute with, opened together: an example names `drawing_computing` on its unfolding line. Assumes
-- nothing.
use Rattle.geometry.specs.Spots.{same_spot}
use Rattle.geometry.specs.Lines.{point}
use Rattle.geometry.specs.Crossing.{between, meeting_spot, runs_cross, crosses_over, lines_cross}
use Rattle.drawing.specs.Drawing.{spot_of, route_points, route_at, points_at, cross_pair, crossings_of, crossings, renumbered}
use Rattle.drawing.specs.Lengths.{steps, line_length, grid_length, cable_lengths}
use Rattle.drawing.specs.Sheet.{part_spot_word, corner_spot_word, route_words, routes_words, length_words, head_section, parts_section, cables_section, lengths_section, quote_section, drawing_words, sheet_words, quoted_words}
use Rattle.drawing.specs.Spacing.{column_at, row_at, spaced_spot, spaced_route, spaced, check13, corner_spots, coordinates, numbers_of, largest, check14}
use Rattle.drawing.specs.Reading.{word_spot, routes_in, drawing_in, behind_cables, behind_drawing, lengths_in, quote_in}
use Rattle.prices.proofs.Computing.{prices_computing}

unfoldable pub drawing_computing : Unit {0}
unfolding prices_computing same_spot point between meeting_spot runs_cross crosses_over lines_cross spot_of route_points route_at points_at cross_pair crossings_of crossings renumbered steps line_length grid_length cable_lengths column_at row_at spaced_spot spaced_route spaced check13 corner_spots coordinates numbers_of largest check14 part_spot_word corner_spot_word route_words routes_words length_words head_section parts_section cables_section lengths_section quote_section drawing_words sheet_words quoted_words word_spot routes_in drawing_in behind_cables behind_drawing lengths_in quote_in
drawing_computing = tt
