use Rattle.std.proofs.Common.{length}
use Rattle.notation_reader.proofs.Scanning.{Scans}
use Rattle.notation_reader.proofs.scanner.symbols_of.Given as goal

abbrev pub invariant-loop-first : goal.invariant-loop-first
invariant-loop-first l = Scans (length l.fn.text) l.fn.text l.symbols l.rest

abbrev pub decreases-loop-first : goal.decreases-loop-first
decreases-loop-first l = length l.rest
