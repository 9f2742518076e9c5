use Rattle.std.specs.Prelude.{drop}
use Rattle.outside.specs.Sink.{AppendsSoFar}
use Rattle.kernel_print.specs.Text.{depth_of, statements_text}
use Rattle.kernel_print.proofs.statements.+statements.Given as goal

abbrev pub invariant-put_statements-loop-s : goal.invariant-put_statements-loop-s
invariant-put_statements-loop-s g l =
    AppendsSoFar (g.S.Sink.state l.fn.sink) (g.S.Sink.state l.sink) (statements_text (depth_of l.indent) l.statements)
    (statements_text (depth_of l.indent) (drop l.s-index l.statements))
