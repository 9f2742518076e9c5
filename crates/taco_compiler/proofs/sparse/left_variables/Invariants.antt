use Rattle.std.specs.Prelude.{◌≡◌, filter, take}
use Rattle.expr_terms.specs.Terms.{contains}
use Rattle.taco_compiler.proofs.sparse.left_variables.Given as goal

-- the left variables among those so far
abbrev pub invariant-loop-var : goal.invariant-loop-var
invariant-loop-var l = l.keys ≡ filter (contains l.statement.left.vars) (take l.var-index l.order)
