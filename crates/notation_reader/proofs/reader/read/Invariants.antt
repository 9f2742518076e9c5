use Rattle.std.proofs.Common.{◌≤◌, ◌+◌, take}
use Rattle.limits.specs.Limits.{greatest_accesses}
use Rattle.notation_grammar.specs.Faults.{symbols_of}
use Rattle.notation_reader.proofs.ReadingSteps.{HasRead}
use Rattle.notation_reader.proofs.reader.read.Given as goal

abbrev pub invariant-loop-placed : goal.invariant-loop-placed
invariant-loop-placed l = record {
  has_read : HasRead (symbols_of (take l.placed-index l.symbols)) l.reader;
  levels : l.reader.position.levels ≤ l.placed-index;
  minuses : l.reader.position.minuses ≤ l.placed-index;
  reads : l.reader.builder.reads ≤ l.placed-index;
  ends : l.reader.builder.ends ≤ l.placed-index + greatest_accesses;
  built_minuses : l.reader.builder.frame.minuses ≤ l.placed-index;
}
