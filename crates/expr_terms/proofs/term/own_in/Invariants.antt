use Rattle.std.specs.Prelude.{◌≡◌, filter}
use Rattle.index_notation.specs.Statement.{numbers_from}
use Rattle.expr_terms.specs.Terms.{is_own}
use Rattle.expr_terms.proofs.term.own_in.Given as goal

abbrev pub invariant-loop-var : goal.invariant-loop-var
invariant-loop-var l = l.own ≡ filter (is_own l.statement l.expr) (numbers_from 0 l.var)
