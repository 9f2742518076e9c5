use Rattle.std.specs.Prelude.{◌≡◌, Some, drop}
use Rattle.kernel_read.specs.Brackets.{open_behind}
use Rattle.kernel_read.proofs.brackets.open_behind.Given as goal

abbrev pub invariant-loop-byte : goal.invariant-loop-byte
invariant-loop-byte l = open_behind (Some l.initial.depth) l.line ≡ open_behind (Some l.depth) (drop l.byte-index l.line)
