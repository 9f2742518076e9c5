use Rattle.std.specs.Prelude.{◌≡◌, ◌-◌, not}
use Rattle.iteration_graph.specs.Graphs.{first_from, first_below, is_among}
use Rattle.iteration_graph.proofs.first.first_left.Given as goal

abbrev pub invariant-loop-variable : goal.invariant-loop-variable
invariant-loop-variable l =
    first_from (λ v. not (is_among l.placed v)) l.variable-counter (l.vars - l.variable-counter) ≡ first_below l.vars
    (λ v. not (is_among l.placed v))
