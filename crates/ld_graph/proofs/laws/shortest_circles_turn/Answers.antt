use Rattle.ld_graph.proofs.Shortest.{IsShortestCircle-turned}
use Rattle.ld_graph.proofs.laws.shortest_circles_turn.Goals as goal

pub returns : goal.returns
returns c = IsShortestCircle-turned
