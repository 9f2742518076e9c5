use Rattle.std.specs.Prelude.{◌≡◌, ◌+◌, true, length, slice_get}
use Rattle.std.specs.List.{list_all}
use Rattle.index_notation.specs.Statement.{numbers_from}
use Rattle.nested_sums.specs.Inner.{standing_or_none, standings}
use Rattle.nested_sums.proofs.inner_sums.inner.Given as goal

abbrev pub invariant-loop-var : goal.invariant-loop-var
invariant-loop-var l =
    list_all (λ var. (standing_or_none (slice_get (standings l.statement l.statement.sums l.order var)
    (length l.statement.accesses + l.sum))).fits) (numbers_from 0 l.var) ≡ true
