use Rattle.std.specs.Prelude.{◌≡◌, ◌-◌}
use Rattle.iteration_graph.specs.Graphs.{first_from, first_below, is_free}
use Rattle.iteration_graph.proofs.first.next_to_place.Given as goal

abbrev pub invariant-loop-variable : goal.invariant-loop-variable
invariant-loop-variable l =
    first_from (is_free l.vars l.edges l.placed) l.variable (l.vars - l.variable) ≡ first_below l.vars (is_free l.vars l.edges l.placed)
