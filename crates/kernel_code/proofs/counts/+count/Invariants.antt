use Rattle.std.proofs.Common.{◌≡◌, ◌+◌, ◌^◌, ◌<◌, drop}
use Rattle.kernel_code.specs.Arrays.{word_count}
use Rattle.kernel_code.specs.Meaning.{statements_in_list}
use Rattle.kernel_code.proofs.counts.+count.Given as goal

abbrev pub invariant-count_statements-loop-s : goal.invariant-count_statements-loop-s
invariant-count_statements-loop-s l =
    (l.count < 2 ^ 64)
    × (word_count (l.count + statements_in_list (drop l.s-index l.statements)) ≡ word_count (statements_in_list l.statements))
