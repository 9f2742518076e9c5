use Rattle.std.specs.Prelude.{Ok}
use Rattle.std.proofs.Common.{◌≡◌}
use Rattle.index_notation.specs.Statement.{numbers_from}
use Rattle.expr_terms.specs.Ranges.{range_of, ranges_or_first}
use Rattle.expr_terms.specs.Told.{bound_at, given_at}
use Rattle.expr_terms.proofs.range.ranges.Given as goal

abbrev pub invariant-loop-var : goal.invariant-loop-var
invariant-loop-var l = ranges_or_first (range_of l.statement (given_at l.given) (bound_at l.bounds)) (numbers_from 0 l.var) ≡ Ok l.ranges
