use Rattle.std.proofs.Common.{◌≡◌, take}
use Rattle.tensor_map.proofs.entry_list.whole.Given as goal

abbrev pub invariant-loop-pair : goal.invariant-loop-pair
invariant-loop-pair l = l.rows.items ≡ take l.pair-index l.pairs
