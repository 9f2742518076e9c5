-- How a command ends, from how its parts do.
use Rattle.std.specs.Prelude.{◌≡◌, ℕ, ◌≤◌, true, List, ◌++◌, Option, Some, Vec, Result, Ok, Err, OnOk, IfErr, refl}
use Rattle.std.proofs.Common.{◌∙◌, sym, ap, subst, inl, inr, arith}
use Rattle.std.proofs.lemmas.List.{append-nil}
use Rattle.std.specs.declared.alloc.Global.{Global}
use Rattle.outside.specs.Folder.{FolderState}
use Rattle.outside.specs.Sink.{SinkState, Appends}
use Rattle.outside.specs.declared.refusal.Refusal.{Refusal}
use Rattle.text_lines.specs.Puts.{AppendsPart}
use Rattle.tensor_map.specs.Entries.{Entries, value_at}
use Rattle.format_spec.specs.declared.format.FormatLevel.{FormatLevel}
use Rattle.kernel_code.specs.declared.syntax.Kernel.{Kernel}
use Rattle.expr_terms.specs.declared.bound.Bound.{Bound}
use Rattle.bindings.specs.Tables.{path_to}
use Rattle.operand_files.specs.Reads.{OnlyReads}
use Rattle.kernel_runs.specs.Steps.{ListsNonzero}
use Rattle.result_files.specs.Writes.{Puts, PutsAll, PutsFront, WritesResult, RefusesResult}
use Rattle.result_files.specs.ResultText.{IsResultText}
use Rattle.result_files.specs.declared.refusal.WriteRefusal.{WriteRefusal}
use Rattle.result_files.specs.declared.refusal.WriteRefusal.TheVariants as write
use Rattle.result_files.proofs.ResultTexts.{same_text}
use Rattle.refusals.specs.declared.fault.NamedFault.TheVariants as named
use Rattle.refusals.specs.declared.fault.Fault.{Fault}
use Rattle.refusals.specs.declared.fault.Fault.TheVariants as fault
use Rattle.taco_top.specs.Values.{Values}
use Rattle.taco_top.specs.Asked.{IsRefusedByWords, writes_result}
use Rattle.taco_top.specs.Written.{HasOperands, result_ranges, result_value, IsAccepted}
use Rattle.mode_planner.specs.Plans.{IsPlan}
use Rattle.mode_planner.specs.declared.planned.Planned.{Planned}
use Rattle.mode_planner.specs.declared.plans.Repack.{Repack}
use Rattle.reports.specs.Plans.{plan_text}
use Rattle.taco_top.specs.Told.{IsKernelOf, IsTextOf, IsWrittenIn, Tells}
use Rattle.taco_top.specs.Refused.{OpensOperands, Stops, IsUnwritten, IsUnprinted, Refuses}
use Rattle.operand_packing.specs.Runnable.{told_ranges}
use Rattle.command_line.specs.CommandLine.{Workload as WorkloadLine, command_line_of}
use Rattle.command_line.specs.declared.Task.{Task}
use Rattle.command_line.specs.declared.Task.TheVariants as task
use Rattle.reports.specs.declared.workload.Workload.{Workload}
use Rattle.generated_runs.specs.Workloads.{IsWorkload}
use Rattle.reports.specs.Reports.{workload_line, kernel_report, run_report}
use Rattle.taco_top.specs.Ends.{Cause, PutsLine}
use Rattle.taco_top.specs.Run.{Request, AsksFor}
use Rattle.taco_top.specs.Stored.{IsRunBy, stored_statement, stored_formats}
use Rattle.taco_top.specs.declared.computing.Computed.{Computed}
use Rattle.taco_top.specs.declared.ending.Done.{Done}
use Rattle.taco_top.specs.Prepared.{IsPrepared, IsUncomputed, end_of, end_of_printing}
use Rattle.taco_top.proofs.Called.{pairs_called, workspace_needed}

module _ (over : Values) where
  -- the words are refused, and no file was opened
  pub stops_by_words : (words : List (List ℕ)) (why : Fault) (files : FolderState) → IsRefusedByWords words why
      → Stops over words files files why
  stops_by_words words fault.Usage files is = record { folder_is = refl; refused = is }
  stops_by_words words (fault.Notation why) files is = record { folder_is = refl; refused = is }
  stops_by_words words (fault.NoMinus name) files is = record { folder_is = refl; refused = is }
  stops_by_words words (fault.Named s (named.Name why)) files is = record { folder_is = refl; refused = is }
  stops_by_words words (fault.Named s (named.Binding why)) files is = record { folder_is = refl; refused = is }
  stops_by_words words (fault.Named s (named.Cycle cycle)) files is = absurd is
  stops_by_words words (fault.Named s (named.Range why)) files is = absurd is
  stops_by_words words (fault.Named s (named.SizeLimit large)) files is = absurd is
  stops_by_words words (fault.WorkspaceLimit count) files is = absurd is
  stops_by_words words (fault.ReadFault path) files is = absurd is
  stops_by_words words (fault.FileBytes path) files is = absurd is
  stops_by_words words (fault.BadFile path line kind) files is = absurd is
  stops_by_words words (fault.Kernel why) files is = absurd is
  stops_by_words words (fault.WriteFault path) files is = absurd is
  stops_by_words words fault.Memory files is = inl refl

  -- operands that were read were opened
  opened : (words : List (List ℕ)) (old new : FolderState) (r : Request) (entries : List Entries) (bounds : List (Vec Bound Global))
      → HasOperands over words old new r entries bounds → OpensOperands words old new
  opened words old new r entries bounds operands = record {
    request = r;
    accepted = operands.accepted;
    reads = operands.reads;
    opens = record {
      files = operands.read.read.files;
      given_is = operands.read.read.given_is ∙ ap (λ fs. old.given ++ fs) (append-nil operands.read.read.files);
      in_order = operands.read.read.in_order;
    };
    no_fault = record { read_faults_are = operands.read.quiet.read_faults_are; faulted_is = operands.read.quiet.faulted_is };
  }

  -- what the words ask for isn't computed over its operands, by the kernel of what is run of it
  module _ (words : List (List ℕ)) (old new : FolderState) (r : Request) (plan : Option Planned) (is_plan : IsRunBy r plan)
      (order : List ℕ) (kernel : Kernel)
      (is_kernel : IsKernelOf over (stored_statement r.statement plan) (stored_formats r.formats plan) order kernel)
      (entries : List Entries) (bounds : List (Vec Bound Global)) (operands : HasOperands over words old new r entries bounds) where
    pub stops_uncomputed : (why : Fault) → IsUncomputed over r.statement r.formats plan kernel r.given entries bounds why
        → Stops over words old new why
    stops_uncomputed (fault.Named t (named.Range why)) (same, is) =
        record {
          request = r;
          statement_is = sym same;
          entries = entries;
          bounds = bounds;
          operands = operands;
          is = subst (λ u. told_ranges u r.given bounds ≡ Err why) (sym same) is;
        }
    stops_uncomputed (fault.Named t (named.SizeLimit large)) (same, is) =
        record {
          request = r;
          plan = plan;
          is_plan = is_plan;
          statement_is = sym same;
          order = order;
          kernel = kernel;
          is_kernel = is_kernel;
          entries = entries;
          bounds = bounds;
          operands = operands;
          is = is;
        }
    stops_uncomputed (fault.WorkspaceLimit count) needs =
        record {
          request = r;
          plan = plan;
          is_plan = is_plan;
          order = order;
          kernel = kernel;
          is_kernel = is_kernel;
          called = pairs_called over r.statement r.formats plan order kernel r.given entries bounds count is_kernel needs;
          entries = entries;
          bounds = bounds;
          operands = operands;
          needs = workspace_needed over r.statement r.formats plan order kernel r.given entries bounds count is_kernel needs;
        }
    stops_uncomputed (fault.Named t (named.Name why)) is = absurd is
    stops_uncomputed (fault.Named t (named.Binding why)) is = absurd is
    stops_uncomputed (fault.Named t (named.Cycle cycle)) is = absurd is
    stops_uncomputed fault.Usage is = absurd is
    stops_uncomputed (fault.NoMinus name) is = absurd is
    stops_uncomputed (fault.Notation why) is = absurd is
    stops_uncomputed (fault.ReadFault path) is = absurd is
    stops_uncomputed (fault.FileBytes path) is = absurd is
    stops_uncomputed (fault.BadFile path line kind) is = absurd is
    stops_uncomputed (fault.Kernel why) is = absurd is
    stops_uncomputed (fault.WriteFault path) is = absurd is
    stops_uncomputed fault.Memory is = inr (opened words old new r entries bounds operands)

  -- a command stops before it writes
  pub stopped : (words : List (List ℕ)) (files files' : FolderState) (out : SinkState) (why : Fault) → OnlyReads files files'
      → Stops over words files files' why → Refuses over words files files' out out why
  stopped words files files' out fault.Usage reads is = record { only_reads = reads; stops = is; out_is = refl }
  stopped words files files' out (fault.Notation why) reads is = record { only_reads = reads; stops = is; out_is = refl }
  stopped words files files' out (fault.NoMinus name) reads is = record { only_reads = reads; stops = is; out_is = refl }
  stopped words files files' out (fault.Named s why) reads is = record { only_reads = reads; stops = is; out_is = refl }
  stopped words files files' out (fault.WorkspaceLimit count) reads is = record { only_reads = reads; stops = is; out_is = refl }
  stopped words files files' out (fault.ReadFault path) reads is = record { only_reads = reads; stops = is; out_is = refl }
  stopped words files files' out (fault.FileBytes path) reads is = record { only_reads = reads; stops = is; out_is = refl }
  stopped words files files' out (fault.BadFile path line kind) reads is = record { only_reads = reads; stops = is; out_is = refl }
  stopped words files files' out (fault.Kernel why) reads is = record { only_reads = reads; stops = is; out_is = refl }
  stopped words files files' out (fault.WriteFault path) reads is = absurd is
  stopped words files files' out fault.Memory reads is = inl (record { only_reads = reads; stops = is; out_is = refl })

-- a folder that nothing was done with
pub reads_nothing : (files : FolderState) → OnlyReads files files
reads_nothing files = record {
  keeps_writing = record {
    holds_is = refl;
    writing_is = refl;
    unfinished_is = refl;
    write_faults_are = refl;
  };
  read_faults_grow = omega arith;
  wants_grow = omega arith;
}

module _ (over : Values) where
  -- ---- the writing of a result that was computed
  module _ (words : List (List ℕ)) (task : Task) (writes_task : writes_result task ≡ true) (files between files' : FolderState)
      (out out' : SinkState) (kept : Computed) (reads : OnlyReads files between) (is : IsPrepared over words task files between kept) where
    path : Option (List ℕ)
    path = path_to kept.file

    -- the text of the result's entries is that of the statement's values
    text_of_values : (text : List ℕ) → IsResultText over.arithmetic over.is_signed path kept.result.shape
        (value_at over.arithmetic kept.result.entries.list) text
        → IsResultText over.arithmetic over.is_signed path (result_ranges is.values.request.statement is.values.ranges)
        (result_value over is.values.request.statement is.values.entries is.values.ranges) text
    unfolding path
    text_of_values text text_is =
        subst (λ ranges. IsResultText over.arithmetic over.is_signed path ranges
        (result_value over is.values.request.statement is.values.entries is.values.ranges) text) is.tensor.shape_is
        (same_text over.arithmetic over.is_signed path kept.result.shape (value_at over.arithmetic kept.result.entries.list)
        (result_value over is.values.request.statement is.values.entries is.values.ranges) text
        is.tensor.values_are text_is)

    -- and that of the storage which the kernel's run leaves
    text_of_storage : (text : List ℕ) → IsResultText over.arithmetic over.is_signed path kept.result.shape
        (value_at over.arithmetic kept.result.entries.list) text
        → IsTextOf over.arithmetic over.is_signed path (result_ranges is.values.request.statement is.values.ranges) is.computed.tensor text
    unfolding path
    text_of_storage text text_is = record {
      entries = kept.result.entries;
      lists = subst (λ storage. ListsNonzero over.arithmetic storage kept.result.entries) (sym is.storage_is) is.lists;
      text_is = subst (λ ranges. IsResultText over.arithmetic over.is_signed path ranges
          (value_at over.arithmetic kept.result.entries.list) text) is.tensor.shape_is text_is;
    }

    pub written : WritesResult over.arithmetic over.is_signed (path_to kept.file) kept.result.shape
        (value_at over.arithmetic kept.result.entries.list)
        between files' out out' → IsWrittenIn over words files files' out out' kept.result.turns
    unfolding path
    written writes = record {
      written = record {
        between = between;
        only_reads = reads;
        values = is.values;
        task_writes = ap writes_result is.task_is ∙ writes_task;
        writes = record {
          text = writes.text;
          text_is = subst (λ p. IsResultText over.arithmetic over.is_signed p (result_ranges is.values.request.statement is.values.ranges)
              (result_value over is.values.request.statement is.values.entries is.values.ranges) writes.text) (sym is.path_is)
              (text_of_values writes.text writes.text_is);
          puts = subst (λ p. Puts p writes.text between files' out out') (sym is.path_is) writes.puts;
        };
      };
      computed = is.computed;
      turns_are = is.turns_are;
      text_is = subst (λ p. IsTextOf over.arithmetic over.is_signed p (result_ranges is.values.request.statement is.values.ranges)
          is.computed.tensor writes.text) (sym is.path_is) (text_of_storage writes.text writes.text_is);
    }

    pub unwritten : (why : WriteRefusal) → RefusesResult over.arithmetic over.is_signed (path_to kept.file) kept.result.shape
        (value_at over.arithmetic kept.result.entries.list) between files' out out' why
        → IsUnwritten over words files files' out out' (path_to kept.file) why
    unfolding path
    unwritten why refuses = record {
      between = between;
      only_reads = reads;
      values = is.values;
      computed = is.computed;
      task_writes = ap writes_result is.task_is ∙ writes_task;
      path_is = is.path_is;
      refuses = record {
        text = refuses.text;
        text_is = text_of_values refuses.text refuses.text_is;
        puts = refuses.puts;
      };
      text_is = text_of_storage refuses.text refuses.text_is;
    }

  -- ---- the printing of a text
  module _ (words : List (List ℕ)) (files files' : FolderState) (out out' : SinkState) (text : List ℕ) (reads : OnlyReads files files')
      (tells : Tells over words files files' text) where
    unprinted : (why : WriteRefusal) → PutsFront out out' text why → IsUnprinted over words files files' out out' why
    unprinted why puts = record { text = text; only_reads = reads; tells = tells; puts = puts }

    by_answer : (answer : Result (Unit {0}) WriteRefusal) → OnOk answer (PutsAll out out' text) → IfErr answer (PutsFront out out' text)
        → Cause over words files files' out out' (end_of_printing answer)
    by_answer (Ok done) whole part = record { text = text; only_reads = reads; tells = tells; puts = whole }
    by_answer (Err write.Fault) whole part = inr (refl, unprinted write.Fault part)
    by_answer (Err (write.Memory error)) whole part = inr (inr (error, unprinted (write.Memory error) part))

    pub cause_of_printing : (answer : Result (Unit {0}) WriteRefusal) (ended : Result Done Fault) → end_of ended ≡ end_of_printing answer
        → OnOk answer (PutsAll out out' text) → IfErr answer (PutsFront out out' text)
        → Cause over words files files' out out' (end_of ended)
    cause_of_printing answer ended is whole part =
        subst (Cause over words files files' out out') (sym is) (by_answer answer whole part)

  -- the text of a kernel
  pub tells_kernel : (words : List (List ℕ)) (files : FolderState) (r : Request) (order : List ℕ) (kernel : Kernel) → IsAccepted words r
      → r.task ≡ task.Kernel → IsKernelOf over r.statement r.formats order kernel
      → (told : List ℕ) (formats : List (List FormatLevel)) → told ≡ order
      → formats ≡ r.formats → Tells over words files files (kernel_report r.statement told formats kernel)
  tells_kernel words files r order kernel accepted task_is is_kernel told formats told_is formats_are = inl (record {
    request = r;
    accepted = accepted;
    task_is = task_is;
    order = order;
    kernel = kernel;
    is_kernel = is_kernel;
    folder_is = refl;
    text_is = λ i. kernel_report r.statement (told_is i) (formats_are i) kernel;
  })

  -- the text of a run that was computed
  pub tells_run : (words : List (List ℕ)) (old new : FolderState) (kept : Computed) → IsPrepared over words task.Report old new kept
      → (told : List ℕ) (formats : List (List FormatLevel)) → told ≡ kept.compiled.order → formats ≡ kept.formats.items
      → Tells over words old new
      (run_report over.is_signed kept.statement told formats kept.compiled.kernel kept.result.turns kept.result.tensor)
  tells_run words old new kept is told formats told_is formats_are =
      let order : told ≡ is.computed.order = told_is ∙ sym is.order_is in
      let layouts : formats ≡ is.values.request.formats = formats_are ∙ sym is.formats_are in
      inr (inl (record {
        values = is.values;
        computed = is.computed;
        task_is = is.task_is;
        text_is = λ i. run_report over.is_signed (sym is.statement_is i) (order i) (layouts i) (sym is.kernel_is i) (sym is.turns_are i)
            (sym is.storage_is i);
      }))

  -- the line of a workload
  pub tells_workload : (words : List (List ℕ)) (files : FolderState) (size : ℕ) (workload : Workload)
      → command_line_of words ≡ Some (WorkloadLine size) → IsWorkload size workload → workload.turns.merge ≤ workload.cost
      → Tells over words files files (workload_line workload)
  tells_workload words files size workload line is few = inr (inr (inl (record {
    size = size;
    line = line;
    workload = workload;
    is = is;
    few = few;
    folder_is = refl;
    text_is = refl;
  })))

  -- the lines of a plan
  pub tells_plan : (words : List (List ℕ)) (files : FolderState) (r : Request) (plan : List Repack) → AsksFor words r → r.task ≡ task.Plan
      → (formats : List (List FormatLevel)) → formats ≡ r.formats → IsPlan r.statement formats plan
      → Tells over words files files (plan_text r.statement plan)
  tells_plan words files r plan asks task_is formats formats_are is = inr (inr (inr (record {
    request = r;
    asks = asks;
    task_is = task_is;
    plan = plan;
    is_plan = subst (λ layouts. IsPlan r.statement layouts plan) formats_are is;
    folder_is = refl;
    text_is = refl;
  })))

-- a line that was put, or a part of it
module _ {A : Type 0} where
  pub line_put : (r : Result A Refusal) (old new : SinkState) (line : List ℕ) → OnOk r (Appends old new line)
      → IfErr r (AppendsPart old new line) → PutsLine old new line
  line_put (Ok done) old new line whole part = inl whole
  line_put (Err why) old new line whole part = inr (why, part)
