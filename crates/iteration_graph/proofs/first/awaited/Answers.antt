use Rattle.std.proofs.Common.{◌∙◌, sym}
use Rattle.iteration_graph.specs.Graphs.{waits_for}
use Rattle.iteration_graph.proofs.Firsts.{first_later}
use Rattle.iteration_graph.proofs.first.awaited.Goals as goal

pub loop-other-preserved : goal.loop-other-preserved
loop-other-preserved c =
    sym (first_later c.args.vars (waits_for c.args.edges.now c.args.placed.now c.args.variable) c.loop-other.other c.loop-other-test.true
    (sym c.waits.ensures ∙ c.if-waits.false)) ∙ c.loop-other.invariant
