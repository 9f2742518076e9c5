use Rattle.std.proofs.Common.{◌∙◌, sym}
use Rattle.iteration_graph.specs.Graphs.{is_free}
use Rattle.iteration_graph.proofs.Firsts.{first_later}
use Rattle.iteration_graph.proofs.first.next_to_place.Goals as goal

pub loop-variable-preserved : goal.loop-variable-preserved
loop-variable-preserved c =
    sym (first_later c.args.vars
    (is_free c.args.vars c.args.edges.now c.args.placed.now) c.loop-variable.variable c.loop-variable-test.true
    (sym c.can_be_placed.ensures ∙ c.if-can_be_placed.false)) ∙ c.loop-variable.invariant
