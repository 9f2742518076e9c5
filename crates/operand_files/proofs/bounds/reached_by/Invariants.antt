use Rattle.std.proofs.Common.{◌≡◌}
use Rattle.operand_files.specs.Decoded.{reached}
use Rattle.operand_files.proofs.bounds.reached_by.Given as goal

-- the modes so far
abbrev pub invariant-loop-mode : goal.invariant-loop-mode
invariant-loop-mode l = l.bounds.items ≡ reached l.mode l.fn.entries.list
