use Rattle.std.specs.Prelude.{◌+◌, drop}
use Rattle.outside.specs.Sink.{AppendsSoFar}
use Rattle.storage_text.specs.StoreText.{lines_from, text_of}
use Rattle.storage_text.proofs.levels.put_levels.Given as goal

abbrev pub invariant-loop-i : goal.invariant-loop-i
invariant-loop-i g l =
    AppendsSoFar (g.S.Sink.state l.fn.sink) (g.S.Sink.state l.sink) (text_of (lines_from 1 l.levels))
    (text_of (lines_from (l.i + 1) (drop l.i l.levels)))
