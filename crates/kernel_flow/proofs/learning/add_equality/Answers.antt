use Rattle.std.proofs.Common.{refl}
use Rattle.kernel_flow.proofs.ChoiceLemmas.{equality_holds}
use Rattle.kernel_flow.proofs.FactLemmas.{pushed_after}
use Rattle.kernel_flow.proofs.learning.add_equality.Goals as goal

pub returns-then-is_none : goal.returns-then-is_none
returns-then-is_none c =
    let x = c.args.x in
    let e = c.args.e.now in
    pushed_after c.add_fact.result c.args.facts.now c.add_fact.new.facts x e _ c.add_fact.ensures
    (λ s v is.
    equality_holds x v e c.in_ok-right.right _ s (c.is_steady.ensures c.if-is_steady.true) is c.in_ok-left.ensures c.in_ok-right.ensures
    refl)
