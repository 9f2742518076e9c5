-- A cycle of storage orders is told only where an order of loops is needed, and nothing is planned where there is one.
use Rattle.std.specs.Prelude.{◌≡◌, ℕ, List, length, map, Option, None, Some, String, string_bytes, true, refl}
use Rattle.std.proofs.Common.{◌∙◌, sym, ap, subst}
use Rattle.std.specs.declared.alloc.Global.{Global}
use Rattle.outside.specs.Folder.{FolderState}
use Rattle.outside.specs.Sink.{SinkState}
use Rattle.format_spec.specs.declared.format.FormatLevel.{FormatLevel}
use Rattle.index_notation.specs.declared.syntax.Statement.{Statement}
use Rattle.iteration_graph.specs.Edges.{statement_edges}
use Rattle.iteration_graph.proofs.OrderLaws.{no_order}
use Rattle.mode_planner.specs.Planned.{Answers, HaveOrder}
use Rattle.mode_planner.specs.declared.planned.Planned.{Planned}
use Rattle.command_line.specs.declared.Task.TheVariants as task
use Rattle.refusals.specs.declared.fault.Fault.TheVariants.{Named}
use Rattle.refusals.specs.declared.fault.NamedFault.TheVariants.{Cycle}
use Rattle.taco_top.specs.Values.{values_in}
use Rattle.taco_top.specs.Asked.{needs_order}
use Rattle.taco_top.specs.Run.{Request, AsksFor}
use Rattle.taco_top.specs.Written.{HasResult}
use Rattle.taco_top.specs.Told.{IsComputed}
use Rattle.taco_top.specs.Ends.{Ends, Refused, Cause}
use Rattle.taco_top.proofs.WholeLaws.{one_request}

needs_none : needs_order task.Auto ≡ true → ⊥
needs_none needs = cc

pub auto_has_no_cycle : (words : List (String Global)) (r : Request) (files files' : FolderState) (out out' err err' : SinkState)
    (status : ℕ) (s : Statement) (cycle : List ℕ) → AsksFor (map string_bytes words) r → r.task ≡ task.Auto
    → (ends : Ends words files files' out out' err err' status) → ends.ended ≡ Refused (Named s (Cycle cycle)) → ⊥
auto_has_no_cycle words r files files' out out' err err' status s cycle asks task_is ends is =
    let refused : Cause (values_in (map string_bytes words)) (map string_bytes words) files files' out out' (Refused (Named s
    (Cycle cycle))) =
    subst (Cause (values_in (map string_bytes words)) (map string_bytes words) files files' out out') is ends.cause in
    let told = refused.stops.1 in
    needs_none (sym (ap (λ x. needs_order x.task) (one_request (map string_bytes words) told.request r told.asks asks)
    ∙ ap needs_order task_is) ∙ told.needs)

-- a statement whose loops have an order has no plan
unplanned : (s : Statement) (formats : List (List FormatLevel)) (plan : Option Planned) → HaveOrder s formats → Answers s formats plan
    → plan ≡ None
unplanned s formats None order answers = refl
unplanned s formats (Some plan) order answers =
    absurd (no_order (length s.vars) (statement_edges s formats) answers.cycle order.loops answers.names_cycle order.is)

pub order_needs_no_plan : (words : List (List ℕ)) (files between : FolderState) (values : HasResult (values_in words) words files between)
    → HaveOrder values.request.statement values.request.formats → (computed : IsComputed (values_in words) words files between values)
    → computed.plan ≡ None
order_needs_no_plan words files between values order computed =
    unplanned values.request.statement values.request.formats computed.plan order computed.is_plan
