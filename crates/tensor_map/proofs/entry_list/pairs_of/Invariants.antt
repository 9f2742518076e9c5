use Rattle.std.proofs.Common.{◌≡◌, take}
use Rattle.tensor_map.proofs.entry_list.pairs_of.Given as goal

abbrev pub invariant-loop-i : goal.invariant-loop-i
invariant-loop-i l = l.pairs.items ≡ take l.i l.columns.list
