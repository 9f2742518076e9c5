use Rattle.std.specs.Prelude.{◌-◌}
use Rattle.outside.specs.Sink.{AppendsSoFar}
use Rattle.kernel_print.specs.Text.{lists_text}
use Rattle.kernel_print.proofs.kernels.put_lists.Given as goal

abbrev pub invariant-loop-list : goal.invariant-loop-list
invariant-loop-list g l =
    AppendsSoFar (g.S.Sink.state l.fn.sink) (g.S.Sink.state l.sink) (lists_text 0 l.count) (lists_text l.list (l.count - l.list))
