use Rattle.std.specs.Prelude.{drop}
use Rattle.std.specs.List.{flat_map}
use Rattle.outside.specs.Sink.{AppendsSoFar}
use Rattle.reports.specs.Reports.{variable_text}
use Rattle.reports.proofs.heading.put_variables.Given as goal

abbrev pub invariant-loop-number : goal.invariant-loop-number
invariant-loop-number g l = AppendsSoFar (g.S.Sink.state l.fn.sink) (g.S.Sink.state l.sink) (flat_map (variable_text l.names) l.order)
    (flat_map (variable_text l.names) (drop l.number-index l.order))
