use Rattle.std.proofs.Common.{map}
use Rattle.bindings.specs.Tables.{paths_in}
use Rattle.operand_files.specs.Decoded.{operand_of}
use Rattle.operand_files.specs.Reads.{OnlyReads, HaveRead}
use Rattle.operand_files.proofs.operands.read_operands.Given as goal

-- files are only read, and the operands so far are read
abbrev pub invariant-loop-n : goal.invariant-loop-n
invariant-loop-n g l = record {
  only : OnlyReads (g.F.Folder.state l.fn.files) (g.F.Folder.state l.files);
  have : HaveRead (operand_of g.S.Semiring.arithmetic g.S.Semiring.has_minus g.S.Semiring.is_signed) (g.F.Folder.state l.fn.files)
      (g.F.Folder.state l.files)
      l.fn.orders (paths_in l.fn.sources) l.n l.operands.entries.items (map (λ bounds. bounds.items) l.operands.bounds.items);
}
