use Rattle.std.specs.Prelude.{◌≡◌}
use Rattle.std.specs.List.{range_with_len}
use Rattle.tensor_storage.proofs.places.own_numbers.Given as goal

abbrev pub invariant-loop-number : goal.invariant-loop-number
invariant-loop-number l = l.numbers.items ≡ range_with_len 0 l.number
