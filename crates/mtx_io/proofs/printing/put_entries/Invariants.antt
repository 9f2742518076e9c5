use Rattle.std.specs.Prelude.{drop, filter}
use Rattle.outside.specs.Sink.{AppendsSoFar}
use Rattle.tensor_map.specs.Entries.{is_nonzero}
use Rattle.mtx_io.specs.Text.{entries_text}
use Rattle.mtx_io.proofs.printing.put_entries.Given as goal

abbrev pub invariant-loop-i : goal.invariant-loop-i
invariant-loop-i g l =
    AppendsSoFar (g.K.Sink.state l.fn.sink) (g.K.Sink.state l.sink)
    (entries_text g.S.Semiring.is_signed (filter (is_nonzero g.S.Semiring.arithmetic) l.entries.list))
    (entries_text g.S.Semiring.is_signed (filter (is_nonzero g.S.Semiring.arithmetic) (drop l.i l.entries.list)))
