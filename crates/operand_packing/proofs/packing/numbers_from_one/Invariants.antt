use Rattle.std.specs.Prelude.{◌≡◌}
use Rattle.std.specs.List.{range_with_len}
use Rattle.operand_packing.proofs.packing.numbers_from_one.Given as goal

abbrev pub invariant-loop-number : goal.invariant-loop-number
invariant-loop-number l = l.numbers.items ≡ range_with_len 1 l.number
