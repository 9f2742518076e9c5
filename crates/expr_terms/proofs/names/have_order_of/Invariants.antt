use Rattle.std.specs.Prelude.{◌↔◌, drop}
use Rattle.lists.specs.Each.{Each}
use Rattle.index_notation.specs.Statement.{HaveOneOrder}
use Rattle.expr_terms.proofs.names.have_order_of.Given as goal

abbrev pub invariant-loop-other : goal.invariant-loop-other
invariant-loop-other l =
    Each (λ other. HaveOneOrder other l.access) (drop l.other-index l.earlier) ↔ Each (λ other. HaveOneOrder other l.access) l.earlier
