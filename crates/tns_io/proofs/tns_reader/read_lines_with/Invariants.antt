use Rattle.std.proofs.Common.{◌≡◌, length}
use Rattle.tns_io.specs.ReadSoFar.{ReadsPiece}
use Rattle.tns_io.proofs.tns_reader.read_lines_with.Given as goal

abbrev pub invariant-loop-taken : goal.invariant-loop-taken
invariant-loop-taken l = record {
  order : l.entries.order ≡ l.initial.entries.order;
  reads : ReadsPiece l.signed l.entries.order l.initial.lines.text l.piece l.lines l.rest l.entries.list;
}

abbrev pub decreases-loop-taken : goal.decreases-loop-taken
decreases-loop-taken l = length l.rest
