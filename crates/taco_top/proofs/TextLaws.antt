-- Where a kernel, a plan or a workload is asked for, a command ends with its text.
use Rattle.std.specs.Prelude.{◌≡◌, ℕ, ◌⊎◌, List, Option, None, Some, true, length, map, String, string_bytes, refl}
use Rattle.std.specs.Option.{option_map}
use denote.Ref.{Bor}
use Rattle.std.proofs.Common.{◌∙◌, sym, ap, subst, inl, inr}
use Rattle.std.specs.declared.alloc.Global.{Global}
use Rattle.outside.specs.Count.{Rose}
use Rattle.outside.specs.Folder.{FolderState}
use Rattle.outside.specs.Sink.{SinkState}
use Rattle.notation_grammar.specs.declared.fault.NotationFault.{NotationFault}
use Rattle.index_notation.specs.declared.syntax.Statement.{Statement}
use Rattle.expr_terms.specs.declared.names.NameFault.{NameFault}
use Rattle.bindings.specs.declared.fault.BindingFault.{BindingFault}
use Rattle.iteration_graph.specs.Edges.{statement_edges}
use Rattle.iteration_graph.proofs.OrderLaws.{no_order}
use Rattle.taco_compiler.specs.Compiled.{HasCycle}
use Rattle.command_line.specs.CommandLine.{Statement as StatementLine, Workload as WorkloadLine, command_line_of}
use Rattle.command_line.specs.declared.Over.{Over}
use Rattle.command_line.specs.declared.Task.{Task}
use Rattle.command_line.specs.declared.Task.TheVariants as task
use Rattle.refusals.specs.Lines.{status_of}
use Rattle.refusals.specs.declared.fault.NamedFault.TheVariants as named
use Rattle.refusals.specs.declared.fault.Fault.{Fault}
use Rattle.refusals.specs.declared.fault.Fault.TheVariants as fault
use Rattle.mode_planner.specs.Planned.{HaveOrder}
use Rattle.taco_top.specs.Values.{Values, values_in}
use Rattle.taco_top.specs.Asked.{IsRefusedByWords, IsWant, needs_files, needs_order, writes_result}
use Rattle.taco_top.proofs.OneRequest as request
use Rattle.taco_top.specs.Run.{Request, AsksFor}
use Rattle.taco_top.specs.Written.{IsAccepted}
use Rattle.taco_top.specs.Refused.{HasCycleFault, FailsToWrite, Refuses}
use Rattle.taco_top.specs.Ends.{Ends, Ending, Written, Printed, Refused, Executed, Unexecuted, Cause, status_of_end}
use Rattle.taco_top.proofs.ExecLines.{no_execution, no_workload, refuses_line}
use Rattle.taco_top.proofs.WholeLaws.{one_request}

-- ---- a kernel or a plan: what is asked for reads no file, and no cycle refuses it
module _ (over : Values) (words : List (List ℕ)) (files files' : FolderState) (out out' : SinkState) (r : Request) (asks : AsksFor words r)
    (no_files : needs_files r.task ≡ true → ⊥) (no_writing : writes_result r.task ≡ true → ⊥)
    (no_cycle : (s : Statement) (cycle : List ℕ) → HasCycleFault words s cycle → ⊥) (no_out : Rose out.faults out'.faults → ⊥) where
  -- nothing else is asked for
  reads_none : (q : Request) → AsksFor words q → needs_files q.task ≡ true → ⊥
  reads_none q asks' reads = no_files (sym (ap (λ x. needs_files x.task) (one_request words q r asks' asks)) ∙ reads)

  writes_none : (q : Request) → AsksFor words q → writes_result q.task ≡ true → ⊥
  writes_none q asks' writes = no_writing (sym (ap (λ x. writes_result x.task) (one_request words q r asks' asks)) ∙ writes)

  never_by_words : (why : Fault) → IsRefusedByWords words why → IsWant why
  never_by_words why is = request.never_both words r.task r.over r.statement r.formats r.files r.given why asks is

  not_failed : (path : Option (List ℕ)) → FailsToWrite over words files files' out out' path → ⊥
  not_failed path (inl is) = writes_none is.values.request is.values.operands.accepted.asks is.task_writes
  not_failed path (inr is) = no_out is.1.puts.cause.0.rose

  text_refused : (why : Fault) → Refuses over words files files' out out' why → why ≡ fault.Memory
  text_refused fault.Usage is = absurd (never_by_words fault.Usage is.stops.refused)
  text_refused (fault.Notation why) is = absurd (never_by_words (fault.Notation why) is.stops.refused)
  text_refused (fault.NoMinus name) is = absurd (never_by_words (fault.NoMinus name) is.stops.refused)
  text_refused (fault.Named s (named.Name why)) is = absurd (never_by_words (fault.Named s (named.Name why)) is.stops.refused)
  text_refused (fault.Named s (named.Binding why)) is = absurd (never_by_words (fault.Named s (named.Binding why)) is.stops.refused)
  text_refused (fault.Named s (named.Cycle cycle)) is = absurd (no_cycle s cycle is.stops.1)
  text_refused (fault.Named s (named.Range why)) is =
      absurd (reads_none is.stops.request is.stops.operands.accepted.asks is.stops.operands.reads)
  text_refused (fault.Named s (named.SizeLimit large)) is =
      absurd (reads_none is.stops.request is.stops.operands.accepted.asks is.stops.operands.reads)
  text_refused (fault.WorkspaceLimit count) is =
      absurd (reads_none is.stops.request is.stops.operands.accepted.asks is.stops.operands.reads)
  text_refused (fault.ReadFault path) is = absurd (reads_none is.stops.request is.stops.accepted.asks is.stops.reads)
  text_refused (fault.FileBytes path) is = absurd (reads_none is.stops.request is.stops.accepted.asks is.stops.reads)
  text_refused (fault.BadFile path line kind) is = absurd (reads_none is.stops.request is.stops.accepted.asks is.stops.reads)
  text_refused (fault.Kernel why) is = absurd (never_by_words (fault.Kernel why) is.stops.refused)
  text_refused (fault.WriteFault path) is = absurd (not_failed (option_map (λ p. p.now) path) is)
  text_refused fault.Memory is = refl

  text_ends_well : (ended : Ending) → Cause over words files files' out out' ended → (status_of_end ended ≡ 0) ⊎ (status_of_end ended ≡ 5)
  text_ends_well (Written turns) cause = inl refl
  text_ends_well Printed cause = inl refl
  text_ends_well (Refused why) cause = inr (ap status_of (text_refused why cause))
  text_ends_well (Executed turns) cause = inl refl
  text_ends_well (Unexecuted why) cause =
      absurd (no_execution words asks.names.line (refuses_line words files files' out out' why cause))

-- a kernel whose statement has a loop order
module _ (words : List (List ℕ)) (r : Request) (accepted : IsAccepted words r) (task_is : r.task ≡ task.Kernel) where
  kernel_reads_none : needs_files r.task ≡ true → ⊥
  kernel_reads_none reads = never (sym (ap needs_files task_is) ∙ reads)
    where
      never : needs_files task.Kernel ≡ true → ⊥
      never e = cc

  kernel_writes_none : writes_result r.task ≡ true → ⊥
  kernel_writes_none writes = never (sym (ap writes_result task_is) ∙ writes)
    where
      never : writes_result task.Kernel ≡ true → ⊥
      never e = cc

  kernel_has_no_cycle : (s : Statement) (cycle : List ℕ) → HasCycleFault words s cycle → ⊥
  kernel_has_no_cycle s cycle is =
      no_order (length r.statement.vars) (statement_edges r.statement r.formats) cycle order.loops
      (subst (λ q. HasCycle q.statement q.formats cycle) (one_request words is.request r is.asks accepted.asks)
      (subst (λ u. HasCycle u is.request.formats cycle) (sym is.statement_is) is.is))
      order.is
    where
      order : HaveOrder r.statement r.formats
      order = accepted.ordered (ap needs_order task_is)

-- a plan
module _ (words : List (List ℕ)) (r : Request) (asks : AsksFor words r) (task_is : r.task ≡ task.Plan) where
  plan_reads_none : needs_files r.task ≡ true → ⊥
  plan_reads_none reads = never (sym (ap needs_files task_is) ∙ reads)
    where
      never : needs_files task.Plan ≡ true → ⊥
      never e = cc

  plan_writes_none : writes_result r.task ≡ true → ⊥
  plan_writes_none writes = never (sym (ap writes_result task_is) ∙ writes)
    where
      never : writes_result task.Plan ≡ true → ⊥
      never e = cc

  plan_has_no_cycle : (s : Statement) (cycle : List ℕ) → HasCycleFault words s cycle → ⊥
  plan_has_no_cycle s cycle is =
      never (sym (ap (λ x. needs_order x.task) (one_request words is.request r is.asks asks) ∙ ap needs_order task_is) ∙ is.needs)
    where
      never : needs_order task.Plan ≡ true → ⊥
      never e = cc

-- ---- another line than that of a statement
module _ (over : Values) (words : List (List ℕ)) (files files' : FolderState) (out out' : SinkState)
    (no_line : (t : Task) (o : Over) (expr : List ℕ) (rest : List (List ℕ))
    → command_line_of words ≡ Some (StatementLine t o expr rest) → ⊥)
    (some : command_line_of words ≡ None → ⊥) (no_out : Rose out.faults out'.faults → ⊥) where
  no_statement : {t : Task} {o : Over} {expr : List ℕ} {rest : List (List ℕ)}
      → command_line_of words ≡ Some (StatementLine t o expr rest) → ⊥
  no_statement {t} {o} {expr} {rest} is = no_line t o expr rest is

  by_notation : (why : NotationFault) → IsRefusedByWords words (fault.Notation why) → ⊥
  by_notation why (t, o, text, rest, is, other) = no_statement is

  by_name : (s : Statement) (why : NameFault) → IsRefusedByWords words (fault.Named s (named.Name why)) → ⊥
  by_name s why (t, o, text, rest, is, other) = no_statement is

  by_minus : (name : Bor (List ℕ)) → IsRefusedByWords words (fault.NoMinus name) → ⊥
  by_minus name (t, o, text, rest, is, s, names, other) = no_statement is

  by_binding : (s : Statement) (why : BindingFault) → IsRefusedByWords words (fault.Named s (named.Binding why)) → ⊥
  by_binding s why (t, o, rest, names, other) = no_statement names.line

  unfailed : (path : Option (List ℕ)) → FailsToWrite over words files files' out out' path → ⊥
  unfailed path (inl is) = no_statement is.values.operands.accepted.asks.names.line
  unfailed path (inr is) = no_out is.1.puts.cause.0.rose

  pub other_refused : (why : Fault) → Refuses over words files files' out out' why → why ≡ fault.Memory
  other_refused fault.Usage is = absurd (some is.stops.refused)
  other_refused (fault.Notation why) is = absurd (by_notation why is.stops.refused)
  other_refused (fault.NoMinus name) is = absurd (by_minus name is.stops.refused)
  other_refused (fault.Named s (named.Name why)) is = absurd (by_name s why is.stops.refused)
  other_refused (fault.Named s (named.Binding why)) is = absurd (by_binding s why is.stops.refused)
  other_refused (fault.Named s (named.Cycle cycle)) is = absurd (no_statement is.stops.1.asks.names.line)
  other_refused (fault.Named s (named.Range why)) is = absurd (no_statement is.stops.operands.accepted.asks.names.line)
  other_refused (fault.Named s (named.SizeLimit large)) is =
      absurd (no_statement is.stops.operands.accepted.asks.names.line)
  other_refused (fault.WorkspaceLimit count) is = absurd (no_statement is.stops.operands.accepted.asks.names.line)
  other_refused (fault.ReadFault path) is = absurd (no_statement is.stops.accepted.asks.names.line)
  other_refused (fault.FileBytes path) is = absurd (no_statement is.stops.accepted.asks.names.line)
  other_refused (fault.BadFile path bad kind) is = absurd (no_statement is.stops.accepted.asks.names.line)
  other_refused (fault.Kernel why) is = absurd is.stops.refused
  other_refused (fault.WriteFault path) is = absurd (unfailed (option_map (λ p. p.now) path) is)
  other_refused fault.Memory is = refl

-- ---- a workload
module _ (over : Values) (words : List (List ℕ)) (files files' : FolderState) (out out' : SinkState) (size : ℕ)
    (line : command_line_of words ≡ Some (WorkloadLine size)) (no_out : Rose out.faults out'.faults → ⊥) where
  -- no statement is asked for, and the words are a command line
  no_line : (t : Task) (o : Over) (expr : List ℕ) (rest : List (List ℕ)) → command_line_of words ≡ Some (StatementLine t o expr rest) → ⊥
  no_line t o expr rest is = never (sym line ∙ is)
    where
      never : Some (WorkloadLine size) ≡ Some (StatementLine t o expr rest) → ⊥
      never e = cc

  some : command_line_of words ≡ None → ⊥
  some is = never (sym line ∙ is)
    where
      never : Some (WorkloadLine size) ≡ None → ⊥
      never e = cc

  workload_ends_well : (ended : Ending) → Cause over words files files' out out' ended
      → (status_of_end ended ≡ 0) ⊎ (status_of_end ended ≡ 5)
  workload_ends_well (Written turns) cause = inl refl
  workload_ends_well Printed cause = inl refl
  workload_ends_well (Refused why) cause =
      inr (ap status_of (other_refused over words files files' out out' no_line some no_out why cause))
  workload_ends_well (Executed turns) cause = inl refl
  workload_ends_well (Unexecuted why) cause =
      absurd (no_workload words size line (refuses_line words files files' out out' why cause))

pub kernel_ends : (words : List (String Global)) (request : Request) (files files' : FolderState) (out out' err err' : SinkState)
    (status : ℕ) → IsAccepted (map string_bytes words) request → request.task ≡ task.Kernel → (Rose out.faults out'.faults → ⊥)
    → Ends words files files' out out' err err' status → (status ≡ 0) ⊎ (status ≡ 5)
kernel_ends words request files files' out out' err err' status accepted task_is no_out ends =
    let ws = map string_bytes words in
    subst (λ n. (n ≡ 0) ⊎ (n ≡ 5)) (sym ends.status_is)
    (text_ends_well (values_in ws) ws files files' out out' request accepted.asks (kernel_reads_none ws request accepted task_is)
    (kernel_writes_none ws request accepted task_is) (kernel_has_no_cycle ws request accepted task_is) no_out ends.ended ends.cause)

pub plan_ends : (words : List (String Global)) (request : Request) (files files' : FolderState) (out out' err err' : SinkState)
    (status : ℕ) → AsksFor (map string_bytes words) request → request.task ≡ task.Plan → (Rose out.faults out'.faults → ⊥)
    → Ends words files files' out out' err err' status → (status ≡ 0) ⊎ (status ≡ 5)
plan_ends words request files files' out out' err err' status asks task_is no_out ends =
    let ws = map string_bytes words in
    subst (λ n. (n ≡ 0) ⊎ (n ≡ 5)) (sym ends.status_is)
    (text_ends_well (values_in ws) ws files files' out out' request asks (plan_reads_none ws request asks task_is)
    (plan_writes_none ws request asks task_is) (plan_has_no_cycle ws request asks task_is) no_out ends.ended ends.cause)

pub workload_ends : (words : List (String Global)) (size : ℕ) (files files' : FolderState) (out out' err err' : SinkState)
    (status : ℕ) → command_line_of (map string_bytes words) ≡ Some (WorkloadLine size) → (Rose out.faults out'.faults → ⊥)
    → Ends words files files' out out' err err' status → (status ≡ 0) ⊎ (status ≡ 5)
workload_ends words size files files' out out' err err' status line no_out ends =
    subst (λ n. (n ≡ 0) ⊎ (n ≡ 5)) (sym ends.status_is)
    (workload_ends_well (values_in (map string_bytes words))
    (map string_bytes words) files files' out out' size line no_out ends.ended ends.cause)
