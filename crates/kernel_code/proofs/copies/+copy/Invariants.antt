use Rattle.std.proofs.Common.{◌≡◌, take}
use Rattle.kernel_code.proofs.copies.+copy.Given as goal

abbrev pub invariant-copy_statements-loop-s : goal.invariant-copy_statements-loop-s
invariant-copy_statements-loop-s l = l.copies ≡ take l.s-index l.statements
