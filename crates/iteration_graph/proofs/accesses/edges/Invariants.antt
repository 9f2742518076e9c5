use Rattle.std.specs.Prelude.{◌≡◌, ◌++◌, drop}
use Rattle.iteration_graph.specs.Edges.{AreFormed, edges_of, statement_edges}
use Rattle.iteration_graph.proofs.accesses.edges.Given as goal

-- the edges so far, and those of the accesses that are left, are those of the statement; the formats so far are formats
abbrev pub invariant-loop-access : goal.invariant-loop-access
invariant-loop-access l = record {
  edges : l.edges ++ edges_of l.formats (drop l.access-index l.statement.accesses) ≡ statement_edges l.statement l.formats;
  formats : AreFormed l.formats (drop l.access-index l.statement.accesses) → AreFormed l.formats l.statement.accesses;
}
