use Rattle.std.specs.Prelude.{Err, length}
use Rattle.std.proofs.Common.{◌∙◌, subst}
use Rattle.iteration_graph.specs.Edges.{statement_edges}
use Rattle.iteration_graph.specs.Graphs.{IsLoopOrder, NamesCycle}
use Rattle.iteration_graph.specs.Answers.{Answers}
use Rattle.iteration_graph.specs.declared.loops.OrderFault.TheVariants.{Cycle}
use Rattle.iteration_graph.proofs.OrderLaws.{no_order}
use Rattle.std.proofs.lemmas.Result.{IfOk-weaker}
use Rattle.mode_planner.specs.Plans.{IsPlan}
use Rattle.mode_planner.proofs.plans.plan.Goals as goal

pub returns-in-Ok : goal.returns-in-Ok
returns-in-Ok c =
    let found : IsLoopOrder (length c.args.statement.now.vars) (statement_edges c.args.statement.now c.args.formats.now) c.in-Ok.field-0 =
    subst (λ n. IsLoopOrder n (statement_edges c.args.statement.now c.args.formats.now) c.in-Ok.field-0) c.len.ensures
    (subst (λ edges. IsLoopOrder c.len.result edges c.in-Ok.field-0) (c.as_slice.ensures ∙ c.in_ok-edges.ensures.edges) c.in-Ok.ensures) in
    record {
      ordered = λ loops is. c.new.ensures;
      cyclic = λ cycle is. absurd (no_order _ _ cycle c.in-Ok.field-0 is found);
    }

pub returns-in-Err-Cycle : goal.returns-in-Err-Cycle
returns-in-Err-Cycle c =
    let answer : Answers c.len.result c.as_slice.result.now (Err (Cycle c.in-Err-Cycle.field-0-0)) =
    subst (λ why. Answers c.len.result c.as_slice.result.now (Err why)) c.in-Err-Cycle.field-0-is c.in-Err-Cycle.ensures in
    let found : NamesCycle (length c.args.statement.now.vars) (statement_edges c.args.statement.now c.args.formats.now)
    c.in-Err-Cycle.field-0-0 =
    subst (λ n. NamesCycle n (statement_edges c.args.statement.now c.args.formats.now) c.in-Err-Cycle.field-0-0) c.len.ensures
    (subst (λ edges. NamesCycle c.len.result edges c.in-Err-Cycle.field-0-0) (c.as_slice.ensures ∙ c.in_ok-edges.ensures.edges) answer) in
    IfOk-weaker c.repacks.result _ (IsPlan c.args.statement.now c.args.formats.now) (λ made told. record {
      ordered = λ loops is. absurd (no_order _ _ c.in-Err-Cycle.field-0-0 loops found is);
      cyclic = λ cycle is. told;
    }) c.repacks.ensures
