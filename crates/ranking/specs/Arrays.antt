-- The cables in ranks that the code's array holds. Assumes nothing.
use Rattle.std.specs.Prelude.{◌≤◌}
use Rattle.words.specs.Limits.{most_parts, most_cables}
use Rattle.ranking.specs.declared.graph.Graph.{Graph}
use Rattle.order.specs.Graph.{StGraph}
use Rattle.order.specs.RankedGraphs.{Ranked}
use Rattle.ranking.specs.Spans.{graph_by}

abbrev pub graph_in : Graph → StGraph
graph_in r = graph_by r.parts r.cables r.spans

-- every graph is one that the layout may start from: ranked, and within the array
pub record GraphFits (g : Graph) : Type 0 where
  pub ranked : Ranked (graph_in g)
  pub cables : g.cables ≤ most_cables
  pub least : 2 ≤ g.parts
  pub most : g.parts ≤ most_parts
