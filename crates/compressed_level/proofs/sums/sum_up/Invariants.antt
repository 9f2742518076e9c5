use Rattle.std.specs.Prelude.{◌≡◌, true}
use Rattle.compressed_level.specs.SumLaws.{Summing}
use Rattle.compressed_level.proofs.sums.sum_up.Given as goal

abbrev pub invariant-loop-i : goal.invariant-loop-i
invariant-loop-i l =
    Summing l.initial.numbers.items l.numbers.items l.i l.sum × (l.numbers.spare ≡ l.initial.numbers.spare) × (l.numbers.wide ≡ true)
