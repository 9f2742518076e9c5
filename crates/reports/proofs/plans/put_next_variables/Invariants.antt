use Rattle.std.specs.Prelude.{drop}
use Rattle.std.specs.List.{flat_map}
use Rattle.outside.specs.Sink.{AppendsSoFar}
use Rattle.reports.specs.Plans.{next_variable}
use Rattle.reports.proofs.plans.put_next_variables.Given as goal

abbrev pub invariant-loop-number : goal.invariant-loop-number
invariant-loop-number g l = AppendsSoFar (g.S.Sink.state l.fn.sink) (g.S.Sink.state l.sink) (flat_map (next_variable l.names) l.numbers)
    (flat_map (next_variable l.names) (drop l.number-index l.numbers))
