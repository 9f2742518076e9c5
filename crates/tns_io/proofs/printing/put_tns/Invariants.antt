use Rattle.std.proofs.Common.{drop}
use Rattle.outside.specs.Sink.{AppendsSoFar}
use Rattle.tns_io.specs.Text.{entries_text}
use Rattle.tns_io.proofs.printing.put_tns.Given as goal

abbrev pub invariant-loop-i : goal.invariant-loop-i
invariant-loop-i g l =
    AppendsSoFar (g.K.Sink.state l.fn.sink) (g.K.Sink.state l.sink)
    (entries_text g.S.Semiring.arithmetic g.S.Semiring.is_signed l.entries.list)
    (entries_text g.S.Semiring.arithmetic g.S.Semiring.is_signed (drop l.i l.entries.list))
