use Rattle.std.specs.Prelude.{not}
use Rattle.std.proofs.Common.{◌∙◌, sym, ap}
use Rattle.iteration_graph.specs.Graphs.{is_among}
use Rattle.iteration_graph.proofs.Firsts.{first_later}
use Rattle.iteration_graph.proofs.first.first_left.Goals as goal

pub loop-variable-preserved : goal.loop-variable-preserved
loop-variable-preserved c =
    sym (first_later c.args.vars (λ v. not (is_among c.args.placed.now v)) c.loop-variable.variable-counter c.loop-variable-test.true
    (ap not (sym c.contains.ensures.value ∙ c.if-not-contains.false))) ∙ c.loop-variable.invariant
