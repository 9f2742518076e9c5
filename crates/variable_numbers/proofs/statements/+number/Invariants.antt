use Rattle.std.proofs.Common.{take}
use Rattle.dead_code.specs.Follows.{Follows}
use Rattle.variable_numbers.specs.Numbers.{Renamed}
use Rattle.variable_numbers.proofs.statements.+number.Given as goal

abbrev pub invariant-number_code-loop-s : goal.invariant-number_code-loop-s
invariant-number_code-loop-s l = Follows (Renamed l.numbers.names) (take l.s-index l.code) l.numbered (Renamed l.numbers.names)
