use Rattle.std.specs.Prelude.{◌≡◌, ◌-◌}
use Rattle.iteration_graph.specs.Graphs.{first_from, first_below, waits_for}
use Rattle.iteration_graph.proofs.first.awaited.Given as goal

abbrev pub invariant-loop-other : goal.invariant-loop-other
invariant-loop-other l =
    first_from (waits_for l.edges l.placed l.variable) l.other (l.vars - l.other) ≡ first_below l.vars
    (waits_for l.edges l.placed l.variable)
