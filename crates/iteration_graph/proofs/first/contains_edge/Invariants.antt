use Rattle.std.specs.Prelude.{◌≡◌, drop}
use Rattle.std.specs.List.{list_any}
use Rattle.iteration_graph.specs.Graphs.{leads, has_edge}
use Rattle.iteration_graph.proofs.first.contains_edge.Given as goal

abbrev pub invariant-loop-edge : goal.invariant-loop-edge
invariant-loop-edge l = list_any (leads l.from l.to) (drop l.edge-index l.edges) ≡ has_edge l.edges l.from l.to
