-- Where all input is whole, a run ends with its result.
use Rattle.std.specs.Prelude.{◌≡◌, ℕ, zero, suc, ◌-◌, ◌⊎◌, List, [], ◌∷◌, length, map, Option, Some, None, Result, Ok, Err}
use Rattle.std.specs.Prelude.{Bool, true, false, Vec, String, string_bytes, slice_get, refl}
use Rattle.std.specs.List.{list_any}
use Rattle.std.specs.Option.{option_map}
use Rattle.std.proofs.Common.{◌∙◌, sym, ap, subst, inl, inr}
use Rattle.std.proofs.lemmas.List.FromFn.{length-map-range_with_len}
use Rattle.std.specs.declared.alloc.Global.{Global}
use Rattle.numbers.specs.Arithmetic.{Laws}
use Rattle.numbers.specs.RingLaws.{ring_laws}
use Rattle.semirings.specs.MinPlus.{length_laws}
use Rattle.semirings.specs.Bits.{flag_laws}
use Rattle.command_line.specs.CommandLine.{CommandLine, Exec, Statement as StatementLine, Workload, command_line_of}
use Rattle.command_line.specs.declared.Over.{Over}
use Rattle.command_line.specs.declared.Over.TheVariants as semiring
use Rattle.outside.specs.Count.{Rose}
use Rattle.outside.specs.Folder.{FolderState}
use Rattle.outside.specs.Sink.{SinkState}
use Rattle.tensor_map.specs.Entries.{Entries}
use Rattle.kernel_code.specs.declared.syntax.Kernel.{Kernel}
use Rattle.index_notation.specs.declared.syntax.Statement.{Statement}
use Rattle.expr_terms.specs.Ranges.{ranges_of}
use Rattle.expr_terms.specs.Told.{given_at, bound_at, bound_or_none, modes_of}
use Rattle.expr_terms.specs.declared.bound.Bound.{Bound}
use Rattle.expr_terms.specs.declared.range_fault.RangeFault.{RangeFault}
use Rattle.bindings.specs.Bindings.{order_of}
use Rattle.operand_files.specs.Laws.{AreTold, told_operands}
use Rattle.operand_files.specs.Reads.{RefusedAtFault, RefusedAtLength, RefusedAtLine}
use Rattle.operand_files.specs.declared.fault.OperandFault.TheVariants as operand
use Rattle.operand_files.proofs.ToldLaws.{told_answer, told_bad_line, told_others}
use Rattle.iteration_graph.specs.Edges.{statement_edges}
use Rattle.iteration_graph.proofs.OrderLaws.{no_order}
use Rattle.kernel_correctness.specs.Kernels.{looped}
use Rattle.row_orders.specs.Heads.{result_levels}
use Rattle.row_orders.specs.Takings.{calls_for_workspace, is_unordered}
use Rattle.taco_compiler.specs.Compiled.{HasCycle, IsOrder}
use Rattle.operand_packing.specs.Runnable.{told_ranges}
use Rattle.mode_planner.specs.Planned.{HaveOrder}
use Rattle.mode_planner.specs.declared.planned.Planned.{Planned}
use Rattle.kernel_runs.specs.Runs.{LevelsFit, SizesFit}
use Rattle.operand_packing.specs.declared.large_level.LargeLevel.{LargeLevel}
use Rattle.kernel_runs.specs.declared.fault.RunFault.{RunFault}
use Rattle.kernel_runs.specs.declared.fault.RunFault.TheVariants.{SizeLimit, Workspace}
use Rattle.kernel_runs.proofs.Fits.{none_refused, planned_none_refused}
use Rattle.result_files.specs.ResultText.{IsResultText}
use Rattle.result_files.specs.Writes.{PutsPart}
use Rattle.result_files.specs.declared.refusal.WriteRefusal.TheVariants as write
use Rattle.result_files.proofs.OneText.{one_text}
use Rattle.refusals.specs.declared.fault.NamedFault.TheVariants as named
use Rattle.refusals.specs.declared.fault.Fault.{Fault}
use Rattle.refusals.specs.declared.fault.Fault.TheVariants as fault
use Rattle.refusals.specs.Lines.{status_of}
use Rattle.taco_top.specs.Values.{Values, values_of, values_of_line, values_in}
use Rattle.taco_top.specs.Asked.{IsRefusedByWords, IsWant, needs_order}
use Rattle.taco_compiler.specs.Tails.{HasLargeKey}
use Rattle.taco_top.proofs.Called.{heads_fit, large_by_ranges}
use Rattle.taco_top.proofs.ExecLines.{no_execution, refuses_line}
use Rattle.taco_top.proofs.OneRequest as request
use Rattle.taco_top.specs.Run.{Request, AsksFor, operand_path, path_of}
use Rattle.taco_top.specs.Stored.{IsRunBy, IsLargeStoredLevel, NeedsStoredPairs, NeedsStoredWorkspace}
use Rattle.taco_top.specs.Stored.{stored_statement, stored_formats, stored_entries}
use Rattle.taco_top.specs.Prepared.{MayRefuseStored}
use Rattle.taco_top.specs.Written.{means, asked_orders, asked_paths, HasOperands, HasResult, result_ranges, result_value, IsWritten}
use Rattle.taco_top.specs.Refused.{StopsReading, HasCycleFault, HasRangeFault, HasLargeLevel}
use Rattle.taco_top.specs.Refused.{HasManyPairs, Stops, IsUnwritten, FailsToWrite}
use Rattle.taco_top.specs.Ends.{Ends, Ending, Written, Printed, Refused, Executed, Unexecuted, Cause, status_of_end}
use Rattle.taco_top.specs.Whole.{IsWhole, WorkspacesFit, modes_told, bound_told}

-- ---- bounds that are lent say what they hold
modes_same : (bounds : List (Vec Bound Global)) (tensor : ℕ) → modes_of bounds tensor ≡ modes_told (map (λ b. b.items) bounds) tensor
modes_same bounds zero = refl
modes_same [] (suc n) = refl
modes_same (modes ∷ bounds) (suc zero) = refl
modes_same (modes ∷ bounds) (suc (suc n)) = modes_same bounds (suc n)

pub bounds_same : (bounds : List (Vec Bound Global)) → bound_at bounds ≡ bound_told (map (λ b. b.items) bounds)
bounds_same bounds = λ i tensor mode. bound_or_none (slice_get (modes_same bounds tensor i) mode)

abbrev pub ok_of : {A B : Type 0} → A → Result A B → A
ok_of d (Ok x) = x
ok_of d (Err y) = d

pub apart : {A B : Type 0} {x : A} {y : B} → Ok x ≡ Err y → ⊥
apart h = cc

-- a refused writing counted a fault
pub fault_rose : (path : Option (List ℕ)) (text : List ℕ) (between files' : FolderState) (out out' : SinkState)
    → PutsPart path text between files' out out' write.Fault
    → Rose between.write_faults files'.write_faults ⊎ Rose out.faults out'.faults
fault_rose None text between files' out out' puts = inr puts.1.cause.0.rose
fault_rose (Some name) text between files' out out' puts = inl puts.0.cause.0.rose

-- the words ask for one thing
pub one_request : (words : List (List ℕ)) (r q : Request) → AsksFor words r → AsksFor words q → r ≡ q
one_request words r q asks other =
    let t = request.same_task words r.task q.task r.over q.over r.statement q.statement r.formats q.formats r.files q.files r.given
    q.given asks other in
    let o = request.same_over words r.task q.task r.over q.over r.statement q.statement r.formats q.formats r.files q.files r.given
    q.given asks
    other in
    let s = request.same_statement words r.task q.task r.over q.over r.statement q.statement r.formats q.formats r.files q.files r.given
    q.given asks
    other in
    let formats = request.same_formats words r.task q.task r.over q.over r.statement q.statement r.formats q.formats r.files q.files
    r.given q.given asks
    other in
    let fs = request.same_files words r.task q.task r.over q.over r.statement q.statement r.formats q.formats r.files q.files r.given
    q.given asks
    other in
    let gs = request.same_ranges words r.task q.task r.over q.over r.statement q.statement r.formats q.formats r.files q.files r.given
    q.given asks
    other in
    λ i. record { task = t i; over = o i; statement = s i; formats = formats i; files = fs i; given = gs i }

module _ (over : Values) (words : List (List ℕ)) (files : FolderState) (whole : IsWhole over words files.holds) where
  as_many : length (asked_orders whole.request) ≡ length (asked_paths whole.request)
  as_many = length-map-range_with_len (order_of whole.request.statement) 1 (length whole.request.statement.tensors - 1)
      ∙ sym (length-map-range_with_len (operand_path whole.request.statement whole.request.files) 1
      (length whole.request.statement.tensors - 1))

  -- another reading of the same words asks for the same
  request_is : (r : Request) → AsksFor words r → r ≡ whole.request
  request_is r asks = one_request words r whole.request asks whole.accepted.asks

  reading_at : (Why : (orders : List ℕ) (paths : List (List ℕ)) → Type 0) → StopsReading words Why
      → Why (asked_orders whole.request) (asked_paths whole.request)
  reading_at Why is = subst (λ r. Why (asked_orders r) (asked_paths r)) (request_is is.request is.accepted.asks) is.why

  -- ---- the operands that were read are those that the folder tells
  module _ (new : FolderState) (entries : List Entries) (bounds : List (Vec Bound Global))
      (operands : HasOperands over words files new whole.request entries bounds) where
    operands_are : operands.read.operands ≡ whole.operands
    operands_are = ap (ok_of [])
        (sym (told_answer (means over) files new (asked_orders whole.request) (asked_paths whole.request) entries (map
        (λ b. b.items) bounds)
        whole.told as_many operands.read)
        ∙ whole.operands_are)

    entries_are : entries ≡ map (λ operand. operand.entries) whole.operands
    entries_are = operands.read.entries_are ∙ ap (map (λ operand. operand.entries)) operands_are

    bounds_are : map (λ b. b.items) bounds ≡ map (λ operand. operand.bounds) whole.operands
    bounds_are = operands.read.bounds_are ∙ ap (map (λ operand. operand.bounds)) operands_are

    told_there : told_ranges whole.request.statement whole.request.given bounds ≡ Ok whole.ranges
    told_there = ap (ranges_of whole.request.statement (given_at whole.request.given)) (bounds_same bounds ∙ ap bound_told bounds_are)
        ∙ whole.ranges_are

    -- no size passes a limit, as the operands are stored
    levels_fit : (plan : Option Planned) → IsRunBy whole.request plan
        → LevelsFit over.arithmetic (stored_statement whole.request.statement plan) (stored_formats whole.request.formats plan)
        whole.ranges (stored_entries entries plan)
    levels_fit plan is_plan =
        subst (λ es. LevelsFit over.arithmetic (stored_statement whole.request.statement plan)
        (stored_formats whole.request.formats plan) whole.ranges
        (stored_entries es plan)) (sym entries_are) (whole.levels_fit plan is_plan)

    pairs_fit : (plan : Option Planned) → IsRunBy whole.request plan → (order : List ℕ)
        → IsOrder (stored_statement whole.request.statement plan) (stored_formats whole.request.formats plan) order
        → calls_for_workspace (looped over.arithmetic (stored_statement whole.request.statement plan) order)
        (stored_formats whole.request.formats plan) order ≡ true
        → HasLargeKey (looped over.arithmetic (stored_statement whole.request.statement plan) order)
        (stored_formats whole.request.formats plan) order whole.ranges
        → WorkspacesFit over.arithmetic (stored_statement whole.request.statement plan) (stored_formats whole.request.formats plan) order
        whole.ranges (stored_entries entries plan)
    pairs_fit plan is_plan order is_order called large =
        subst (λ es. WorkspacesFit over.arithmetic (stored_statement whole.request.statement plan)
        (stored_formats whole.request.formats plan) order whole.ranges
        (stored_entries es plan)) (sym entries_are) (whole.pairs_fit plan is_plan order is_order called large)

    no_size_fault : (plan : Option Planned) (kernel : Kernel) (why : RunFault)
        → MayRefuseStored over whole.request.statement whole.request.formats plan kernel whole.request.given entries bounds why
        → SizesFit over.arithmetic (stored_statement whole.request.statement plan) (stored_formats whole.request.formats plan)
        whole.ranges (stored_entries entries plan) why → ⊥
    no_size_fault None kernel why may fit =
        none_refused over.arithmetic whole.request.statement whole.request.formats kernel whole.request.given entries bounds
        whole.ranges why told_there may fit
    no_size_fault (Some plan) kernel why may fit =
        planned_none_refused over.arithmetic whole.request.statement plan kernel whole.request.given entries bounds whole.ranges why
        told_there may fit

  operands_at : (new : FolderState) (r : Request) (entries : List Entries) (bounds : List (Vec Bound Global))
      → HasOperands over words files new r entries bounds → HasOperands over words files new whole.request entries bounds
  operands_at new r entries bounds operands =
      subst (λ q. HasOperands over words files new q entries bounds) (request_is r operands.accepted.asks) operands

  -- what is too large, as the run's refusal
  large_stored : (plan : Option Planned) (kernel : Kernel) (entries : List Entries) (bounds : List (Vec Bound Global))
      (large : LargeLevel)
      → IsLargeStoredLevel over whole.request.statement whole.request.formats plan kernel whole.request.given entries bounds large
      → MayRefuseStored over whole.request.statement whole.request.formats plan kernel whole.request.given entries bounds
      (SizeLimit large)
  large_stored None kernel entries bounds large is = is
  large_stored (Some plan) kernel entries bounds large is = is

  pairs_stored : (plan : Option Planned) (kernel : Kernel) (entries : List Entries) (bounds : List (Vec Bound Global)) (count : ℕ)
      → NeedsStoredPairs over whole.request.statement whole.request.formats plan kernel whole.request.given entries bounds count
      → MayRefuseStored over whole.request.statement whole.request.formats plan kernel whole.request.given entries bounds
      (Workspace count)
  pairs_stored None kernel entries bounds count is = is
  pairs_stored (Some plan) kernel entries bounds count is = is

  -- ---- no stage has a cause
  module _ (new : FolderState) (no_fault : Rose files.read_faults new.read_faults → ⊥) where
    never_by_words : (why : Fault) → IsRefusedByWords words why → IsWant why
    never_by_words why is =
        request.never_both words whole.request.task whole.request.over whole.request.statement whole.request.formats whole.request.files
        whole.request.given
        why whole.accepted.asks is

    no_range_fault : (s : Statement) (why : RangeFault) → HasRangeFault over words files new s why → ⊥
    no_range_fault s why is =
        let r = request_is is.request is.operands.accepted.asks in
        let there = told_there new is.entries is.bounds (operands_at new is.request is.entries is.bounds is.operands) in
        let here : told_ranges is.request.statement is.request.given is.bounds ≡ Ok whole.ranges =
        subst (λ q. told_ranges q.statement q.given is.bounds ≡ Ok whole.ranges) (sym r) there in
        apart (sym here ∙ ap (λ u. told_ranges u is.request.given is.bounds) is.statement_is ∙ is.is)

    no_level_fault : (s : Statement) (large : LargeLevel) → HasLargeLevel over words files new s large → ⊥
    no_level_fault s large is =
        let same = request_is is.request is.operands.accepted.asks in
        let operands = operands_at new is.request is.entries is.bounds is.operands in
        no_size_fault new is.entries is.bounds operands is.plan is.kernel (SizeLimit large)
        (large_stored is.plan is.kernel is.entries is.bounds large
        (subst (λ q. IsLargeStoredLevel over q.statement q.formats is.plan is.kernel q.given is.entries is.bounds large) same is.is))
        (levels_fit new is.entries is.bounds operands is.plan (subst (λ q. IsRunBy q is.plan) same is.is_plan))

    no_pairs_fault : (count : ℕ) → HasManyPairs over words files new count → ⊥
    no_pairs_fault count is =
        by (list_any is_unordered (result_levels (stored_statement whole.request.statement is.plan)
        (stored_formats whole.request.formats is.plan))) refl
      where
        same : is.request ≡ whole.request
        same = request_is is.request is.operands.accepted.asks

        operands : HasOperands over words files new whole.request is.entries is.bounds
        operands = operands_at new is.request is.entries is.bounds is.operands

        needs : NeedsStoredWorkspace over whole.request.statement whole.request.formats is.plan is.order is.kernel whole.request.given
            is.entries is.bounds count
        needs =
            subst (λ q. NeedsStoredWorkspace over q.statement q.formats is.plan is.order is.kernel q.given is.entries is.bounds count) same
            is.needs

        fit : WorkspacesFit over.arithmetic (stored_statement whole.request.statement is.plan)
            (stored_formats whole.request.formats is.plan) is.order whole.ranges (stored_entries is.entries is.plan)
        fit =
            pairs_fit new is.entries is.bounds operands is.plan (subst (λ q. IsRunBy q is.plan) same is.is_plan) is.order
            (subst (λ q. IsOrder (stored_statement q.statement is.plan) (stored_formats q.formats is.plan) is.order) same
            is.is_kernel.is_order)
            (subst (λ q. calls_for_workspace (looped over.arithmetic (stored_statement q.statement is.plan) is.order)
            (stored_formats q.formats is.plan) is.order ≡ true) same is.called)
            (large_by_ranges over whole.request.statement whole.request.formats is.plan is.order is.kernel whole.request.given is.entries
            is.bounds count whole.ranges (told_there new is.entries is.bounds operands) needs)

        by : (b : Bool) → list_any is_unordered (result_levels (stored_statement whole.request.statement is.plan)
            (stored_formats whole.request.formats is.plan)) ≡ b → ⊥
        by true unordered =
            no_size_fault new is.entries is.bounds operands is.plan is.kernel (Workspace count)
            (pairs_stored is.plan is.kernel is.entries is.bounds count needs.pairs) (fit.pairs unordered)
        by false sorted =
            heads_fit over whole.request.statement whole.request.formats is.plan is.order is.kernel whole.request.given is.entries is.bounds
            count whole.ranges (told_there new is.entries is.bounds operands) needs sorted (fit.heads sorted)

    -- a graph with a loop order has no cycle
    no_cycle_fault : (s : Statement) (cycle : List ℕ) → HasCycleFault words s cycle → ⊥
    no_cycle_fault s cycle is =
        no_order (length whole.request.statement.vars) (statement_edges whole.request.statement whole.request.formats) cycle
        order.loops
        (subst (λ q. HasCycle q.statement q.formats cycle) (request_is is.request is.asks)
        (subst (λ u. HasCycle u is.request.formats cycle) (sym is.statement_is) is.is))
        order.is
      where
        order : HaveOrder whole.request.statement whole.request.formats
        order = whole.accepted.ordered (sym (ap (λ q. needs_order q.task) (request_is is.request is.asks)) ∙ is.needs)

    never_stops : (why : Fault) → Stops over words files new why → why ≡ fault.Memory
    never_stops fault.Usage is = absurd (never_by_words fault.Usage is.refused)
    never_stops (fault.Notation why) is = absurd (never_by_words (fault.Notation why) is.refused)
    never_stops (fault.NoMinus name) is = absurd (never_by_words (fault.NoMinus name) is.refused)
    never_stops (fault.Named s (named.Name why)) is = absurd (never_by_words (fault.Named s (named.Name why)) is.refused)
    never_stops (fault.Named s (named.Binding why)) is = absurd (never_by_words (fault.Named s (named.Binding why)) is.refused)
    never_stops (fault.Named s (named.Cycle cycle)) (same, is) = absurd (no_cycle_fault s cycle is)
    never_stops (fault.Named s (named.Range why)) is = absurd (no_range_fault s why is)
    never_stops (fault.Named s (named.SizeLimit large)) is = absurd (no_level_fault s large is)
    never_stops (fault.WorkspaceLimit count) is = absurd (no_pairs_fault count is)
    never_stops (fault.ReadFault path) is =
        absurd (told_others (means over) files new (asked_orders whole.request) (asked_paths whole.request)
        (operand.ReadFault path) whole.told
        no_fault (reading_at (λ orders paths. RefusedAtFault (means over) files new orders paths path.now) is))
    never_stops (fault.FileBytes path) is =
        absurd (told_others (means over) files new (asked_orders whole.request) (asked_paths whole.request)
        (operand.FileBytes path) whole.told
        no_fault (reading_at (λ orders paths. RefusedAtLength (means over) files new orders paths path.now) is))
    never_stops (fault.BadFile path line kind) is =
        absurd (apart (sym whole.operands_are
        ∙ told_bad_line (means over) files new (asked_orders whole.request) (asked_paths whole.request) path.now line kind whole.told
        (reading_at (λ orders paths. RefusedAtLine (means over) files new orders paths path.now line kind) is)))
    never_stops (fault.Kernel why) is = absurd (never_by_words (fault.Kernel why) is.refused)
    never_stops (fault.WriteFault path) is = absurd is
    never_stops fault.Memory is = refl

  never_written_off : (files' : FolderState) (out out' : SinkState) (path : Option (List ℕ))
      → (Rose files.write_faults files'.write_faults → ⊥) → (Rose out.faults out'.faults → ⊥)
      → IsUnwritten over words files files' out out' path write.Fault → ⊥
  never_written_off files' out out' path no_write no_out is =
      by (fault_rose path is.refuses.text is.between files' out out' is.refuses.puts)
    where
      by : Rose is.between.write_faults files'.write_faults ⊎ Rose out.faults out'.faults → ⊥
      by (inl rose) = no_write (subst (λ n. Rose n files'.write_faults) is.only_reads.keeps_writing.write_faults_are rose)
      by (inr rose) = no_out rose

  never_failed : (files' : FolderState) (out out' : SinkState) (path : Option (List ℕ))
      → (Rose files.write_faults files'.write_faults → ⊥) → (Rose out.faults out'.faults → ⊥)
      → FailsToWrite over words files files' out out' path → ⊥
  never_failed files' out out' path no_write no_out (inl is) = never_written_off files' out out' path no_write no_out is
  never_failed files' out out' path no_write no_out (inr is) = no_out is.1.puts.cause.0.rose

  pub ends_well : (files' : FolderState) (out out' : SinkState) (ended : Ending) → (Rose files.read_faults files'.read_faults → ⊥)
      → (Rose files.write_faults files'.write_faults → ⊥) → (Rose out.faults out'.faults → ⊥)
      → Cause over words files files' out out' ended → (status_of_end ended ≡ 0) ⊎ (status_of_end ended ≡ 5)
  ends_well files' out out' (Written turns) no_read no_write no_out cause = inl refl
  ends_well files' out out' Printed no_read no_write no_out cause = inl refl
  ends_well files' out out' (Refused fault.Memory) no_read no_write no_out cause = inr refl
  ends_well files' out out' (Refused (fault.WriteFault path)) no_read no_write no_out cause =
      absurd (never_failed files' out out' (option_map (λ p. p.now) path) no_write no_out cause)
  ends_well files' out out' (Refused fault.Usage) no_read no_write no_out cause =
      inr (ap status_of (never_stops files' no_read fault.Usage cause.stops))
  ends_well files' out out' (Refused (fault.Notation why)) no_read no_write no_out cause =
      inr (ap status_of (never_stops files' no_read (fault.Notation why) cause.stops))
  ends_well files' out out' (Refused (fault.NoMinus name)) no_read no_write no_out cause =
      inr (ap status_of (never_stops files' no_read (fault.NoMinus name) cause.stops))
  ends_well files' out out' (Refused (fault.Named s why)) no_read no_write no_out cause =
      inr (ap status_of (never_stops files' no_read (fault.Named s why) cause.stops))
  ends_well files' out out' (Refused (fault.Kernel why)) no_read no_write no_out cause =
      inr (ap status_of (never_stops files' no_read (fault.Kernel why) cause.stops))
  ends_well files' out out' (Executed turns) no_read no_write no_out cause = inl refl
  ends_well files' out out' (Unexecuted why) no_read no_write no_out cause =
      absurd (no_execution words whole.accepted.asks.names.line (refuses_line words files files' out out' why cause))
  ends_well files' out out' (Refused (fault.WorkspaceLimit count)) no_read no_write no_out cause =
      inr (ap status_of (never_stops files' no_read (fault.WorkspaceLimit count) cause.stops))
  ends_well files' out out' (Refused (fault.ReadFault path)) no_read no_write no_out cause =
      inr (ap status_of (never_stops files' no_read (fault.ReadFault path) cause.stops))
  ends_well files' out out' (Refused (fault.FileBytes path)) no_read no_write no_out cause =
      inr (ap status_of (never_stops files' no_read (fault.FileBytes path) cause.stops))
  ends_well files' out out' (Refused (fault.BadFile path line kind)) no_read no_write no_out cause =
      inr (ap status_of (never_stops files' no_read (fault.BadFile path line kind) cause.stops))

  -- ---- the text is that of the values over the operands that the folder tells
  text_at : (new : FolderState) (c : HasResult over words files new) (text : List ℕ)
      → IsResultText over.arithmetic over.is_signed (path_of c.request.files 0) (result_ranges c.request.statement c.ranges)
      (result_value over c.request.statement c.entries c.ranges) text
      → IsResultText over.arithmetic over.is_signed (path_of whole.request.files 0) (result_ranges whole.request.statement whole.ranges)
      (result_value over whole.request.statement (map (λ operand. operand.entries) whole.operands) whole.ranges) text
  text_at new c text is =
      let r = request_is c.request c.operands.accepted.asks in
      let here = operands_at new c.request c.entries c.bounds c.operands in
      let told : told_ranges whole.request.statement whole.request.given c.bounds ≡ Ok c.ranges =
      subst (λ q. told_ranges q.statement q.given c.bounds ≡ Ok c.ranges) r c.ranges_are in
      let ranges : c.ranges ≡ whole.ranges = ap (ok_of []) (sym told ∙ told_there new c.entries c.bounds here) in
      subst (λ q. IsResultText over.arithmetic over.is_signed (path_of q.files 0) (result_ranges q.statement whole.ranges)
      (result_value over q.statement (map (λ operand. operand.entries) whole.operands) whole.ranges) text) r
      (subst (λ rs. IsResultText over.arithmetic over.is_signed (path_of c.request.files 0) (result_ranges c.request.statement rs)
      (result_value over c.request.statement (map (λ operand. operand.entries) whole.operands) rs) text) ranges
      (subst (λ xs. IsResultText over.arithmetic over.is_signed (path_of c.request.files 0) (result_ranges c.request.statement c.ranges)
      (result_value over c.request.statement xs c.ranges) text) (entries_are new c.entries c.bounds here) is))

-- sums and products keep the laws, whatever semiring the words name
values_keep_laws : (over : Over) → Laws (values_of over).arithmetic
values_keep_laws semiring.Ring = ring_laws
values_keep_laws semiring.MinPlus = length_laws
values_keep_laws semiring.Bits = flag_laws

line_keeps_laws : (line : Option CommandLine) → Laws (values_of_line line).arithmetic
line_keeps_laws None = ring_laws
line_keeps_laws (Some (StatementLine task over expr words)) = values_keep_laws over
line_keeps_laws (Some (Workload size)) = ring_laws
line_keeps_laws (Some (Exec path budget expr words)) = ring_laws

pub whole_ends : (words : List (String Global)) (files files' : FolderState) (out out' err err' : SinkState) (status : ℕ)
    → IsWhole (values_in (map string_bytes words)) (map string_bytes words) files.holds → (Rose files.read_faults files'.read_faults → ⊥)
    → (Rose files.write_faults files'.write_faults → ⊥) → (Rose out.faults out'.faults → ⊥)
    → Ends words files files' out out' err err' status → (status ≡ 0) ⊎ (status ≡ 5)
whole_ends words files files' out out' err err' status whole no_read no_write no_out ends =
    subst (λ n. (n ≡ 0) ⊎ (n ≡ 5)) (sym ends.status_is)
    (ends_well (values_in (map string_bytes words)) (map string_bytes words) files whole files' out out' ends.ended no_read no_write no_out
    ends.cause)

pub whole_text : (words : List (List ℕ)) (files files' others others' : FolderState) (out out' away away' : SinkState)
    → IsWhole (values_in words) words files.holds → others.holds ≡ files.holds
    → (first : IsWritten (values_in words) words files files' out out')
    → (second : IsWritten (values_in words) words others others' away away') → first.writes.text ≡ second.writes.text
whole_text words files files' others others' out out' away away' whole holds first second =
    one_text (values_in words).arithmetic (values_in words).is_signed (line_keeps_laws (command_line_of words))
    (path_of whole.request.files 0)
    (result_ranges whole.request.statement whole.ranges)
    (result_value (values_in words) whole.request.statement (map (λ operand. operand.entries) whole.operands) whole.ranges)
    first.writes.text second.writes.text
    (text_at (values_in words) words files whole first.between first.values first.writes.text first.writes.text_is)
    (text_at (values_in words) words others there second.between second.values second.writes.text second.writes.text_is)
  where
    there : IsWhole (values_in words) words others.holds
    there = record {
      request = whole.request;
      operands = whole.operands;
      ranges = whole.ranges;
      accepted = whole.accepted;
      reads = whole.reads;
      told = subst (λ h. AreTold h (asked_paths whole.request)) (sym holds) whole.told;
      operands_are = subst (λ h. told_operands (means (values_in words)) h (asked_orders whole.request) (asked_paths whole.request)
          ≡ Ok whole.operands) (sym holds) whole.operands_are;
      ranges_are = whole.ranges_are;
      levels_fit = whole.levels_fit;
      pairs_fit = whole.pairs_fit;
    }
