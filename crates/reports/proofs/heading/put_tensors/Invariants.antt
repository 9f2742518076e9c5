use Rattle.std.specs.Prelude.{drop}
use Rattle.outside.specs.Sink.{AppendsSoFar}
use Rattle.reports.specs.Reports.{tensor_lines}
use Rattle.reports.proofs.heading.put_tensors.Given as goal

abbrev pub invariant-loop-number : goal.invariant-loop-number
invariant-loop-number g l = AppendsSoFar (g.S.Sink.state l.fn.sink) (g.S.Sink.state l.sink) (tensor_lines 0 l.names l.formats)
    (tensor_lines l.number (drop l.number l.names) (drop l.number l.formats))
