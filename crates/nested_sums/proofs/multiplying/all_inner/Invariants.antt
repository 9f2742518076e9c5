use Rattle.std.specs.Prelude.{◌≡◌, true}
use Rattle.std.specs.List.{list_all}
use Rattle.index_notation.specs.Statement.{numbers_from}
use Rattle.nested_sums.specs.Inner.{is_inner}
use Rattle.nested_sums.proofs.multiplying.all_inner.Given as goal

abbrev pub invariant-loop-sum : goal.invariant-loop-sum
invariant-loop-sum l = list_all (is_inner l.statement l.order) (numbers_from 0 l.sum) ≡ true
