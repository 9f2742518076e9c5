use Rattle.std.specs.Prelude.{◌≡◌, ◌++◌, take}
use Rattle.iteration_graph.specs.Edges.{neighbours, by_level}
use Rattle.iteration_graph.proofs.accesses.put_edges.Given as goal

abbrev pub invariant-loop-level : goal.invariant-loop-level
invariant-loop-level l = l.edges ≡ l.fn.edges ++ neighbours (take l.level (by_level l.format l.vars))
