use Rattle.std.proofs.Common.{length}
use Rattle.outside.specs.Sink.{AppendsSoFar}
use Rattle.text_lines.proofs.puts.put_all.Given as goal

-- what was put so far and what is left are the whole, and no count has moved
abbrev pub invariant-loop-rest : goal.invariant-loop-rest
invariant-loop-rest g l = AppendsSoFar (g.S.Sink.state l.fn.sink) (g.S.Sink.state l.sink) l.bytes l.rest

abbrev pub decreases-loop-rest : goal.decreases-loop-rest
decreases-loop-rest g l = length l.rest
