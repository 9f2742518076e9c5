use Rattle.std.proofs.Common.{◌≡◌, drop}
use Rattle.expr_terms.specs.Ranges.{first_other}
use Rattle.expr_terms.proofs.range.first_other.Given as goal

abbrev pub invariant-loop-other : goal.invariant-loop-other
invariant-loop-other l = first_other l.range (drop l.other-index l.ranges) ≡ first_other l.range l.ranges
