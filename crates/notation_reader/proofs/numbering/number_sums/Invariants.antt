use Rattle.std.proofs.Common.{◌≡◌, take, map}
use Rattle.notation_reader.specs.Sums.{numbered_sum}
use Rattle.notation_reader.proofs.numbering.number_sums.Given as goal

abbrev pub invariant-loop-sum : goal.invariant-loop-sum
invariant-loop-sum l = l.found ≡ map (numbered_sum l.vars l.count) (take l.sum-index l.sums)
