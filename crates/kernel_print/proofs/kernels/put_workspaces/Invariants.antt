use Rattle.std.specs.Prelude.{drop}
use Rattle.outside.specs.Sink.{AppendsSoFar}
use Rattle.kernel_print.specs.Text.{workspaces_text}
use Rattle.kernel_print.proofs.kernels.put_workspaces.Given as goal

abbrev pub invariant-loop-number : goal.invariant-loop-number
invariant-loop-number g l =
    AppendsSoFar (g.S.Sink.state l.fn.sink) (g.S.Sink.state l.sink) (workspaces_text 0 l.workspaces)
    (workspaces_text l.number (drop l.number l.workspaces))
