use Rattle.variable_numbers.proofs.table.Numbers.make_room.Given as goal

abbrev pub invariant-loop-n : goal.invariant-loop-n
invariant-loop-n l = Unit {0}
