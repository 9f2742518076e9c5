use Rattle.std.specs.Prelude.{◌≡◌, filter}
use Rattle.index_notation.specs.Statement.{numbers_from}
use Rattle.expr_terms.specs.Nested.{is_free}
use Rattle.expr_terms.proofs.nested.sum_access.Given as goal

abbrev pub invariant-loop-var : goal.invariant-loop-var
invariant-loop-var l = l.free ≡ filter (is_free l.accesses l.sum) (numbers_from 0 l.var)
