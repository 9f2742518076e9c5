use Rattle.std.specs.Prelude.{◌≡◌, ◌≤◌, ◌++◌, length, drop}
use Rattle.kernel_print.specs.Text.{indentation}
use Rattle.kernel_read.proofs.lines.behind_blanks.Given as goal

abbrev pub invariant-loop-level : goal.invariant-loop-level
invariant-loop-level l = (l.at ≤ length l.line) × (l.line ≡ indentation l._level ++ drop l.at l.line)
