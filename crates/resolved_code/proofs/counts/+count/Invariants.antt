use Rattle.std.proofs.Common.{◌≡◌, ◌+◌, ◌^◌, ◌<◌, drop, map}
use Rattle.kernel_code.specs.Arrays.{word_count}
use Rattle.kernel_code.specs.Meaning.{statements_in_list}
use Rattle.resolved_code.specs.Erase.{erase}
use Rattle.resolved_code.proofs.counts.+count.Given as goal

abbrev pub invariant-count_resolved-loop-s : goal.invariant-count_resolved-loop-s
invariant-count_resolved-loop-s l =
    (l.count < 2 ^ 64)
    × (word_count (l.count + statements_in_list (drop l.s-index (map erase l.statements)))
    ≡ word_count (statements_in_list (map erase l.statements)))
