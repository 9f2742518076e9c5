use Rattle.std.specs.Prelude.{◌↔◌, drop}
use Rattle.lists.specs.Each.{Each}
use Rattle.iteration_graph.specs.Edges.{HasFormat}
use Rattle.part_cases.proofs.graphs.have_formats.Given as goal

abbrev pub invariant-loop-access : goal.invariant-loop-access
invariant-loop-access l = Each (HasFormat l.formats) (drop l.access-index l.accesses) ↔ Each (HasFormat l.formats) l.accesses
