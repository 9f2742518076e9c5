use Rattle.std.specs.Prelude.{refl}
use Rattle.std.proofs.Common.{sym, subst}
use Rattle.concrete_notation.specs.declared.concrete.Concrete.{Forall}
use Rattle.concrete_notation.specs.Nesting.{IsNest}
use Rattle.concrete_notation.proofs.Trees.{nest_inside}
use Rattle.concrete_notation.proofs.nesting.+nest.Goals as goal

pub returns : goal.returns
returns t c =
    subst (λ b. IsNest c.args.loops.now c.args.term (Forall c.in-Some.var.now b)) (sym c.in_ok-body-2.ensures)
    (nest_inside c.in-Some.var.now c.in-Some.var.now c.in-Some.inner.now c.args.loops.now c.args.term c.in_ok-body.body
    c.in-Some.ensures.cases.0 refl c.in_ok-body.ensures)
