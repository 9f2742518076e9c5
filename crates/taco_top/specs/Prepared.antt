-- What is told between the parts of a command: how it ends, why a statement isn't computed, and what was computed.
use Rattle.std.specs.Prelude.{◌≡◌, ℕ, List, Option, None, Some, Result, Ok, Err, Vec, length, slice_index}
use Rattle.std.specs.declared.alloc.Global.{Global}
use Rattle.outside.specs.Folder.{FolderState}
use Rattle.tensor_map.specs.Entries.{Entries}
use Rattle.format_spec.specs.declared.format.FormatLevel.{FormatLevel}
use Rattle.index_notation.specs.declared.syntax.Statement.{Statement}
use Rattle.expr_terms.specs.declared.bound.Bound.{Bound}
use Rattle.operand_packing.specs.Runnable.{told_ranges}
use Rattle.kernel_code.specs.declared.syntax.Kernel.{Kernel}
use Rattle.kernel_code.specs.declared.syntax.Turns.{Turns}
use Rattle.tensor_storage.specs.Storages.{Storage}
use Rattle.mode_planner.specs.declared.planned.Planned.{Planned}
use Rattle.kernel_runs.specs.Planned.{IsPlannedRun, MayRefusePlanned}
use Rattle.kernel_runs.specs.Runs.{IsTensorOf, IsRun, MayRefuseRun}
use Rattle.kernel_runs.specs.Steps.{ListsNonzero}
use Rattle.kernel_runs.specs.declared.fault.RunFault.{RunFault}
use Rattle.bindings.specs.Tables.{path_to}
use Rattle.result_files.specs.EntriesText.{MayBeWritten}
use Rattle.result_files.specs.ResultText.{asks_matrix}
use Rattle.storage_arrays.specs.Arrays.{AreDone}
use Rattle.result_files.specs.declared.refusal.WriteRefusal.{WriteRefusal}
use Rattle.result_files.specs.declared.refusal.WriteRefusal.TheVariants as write
use Rattle.command_line.specs.declared.Task.{Task}
use Rattle.refusals.specs.declared.fault.NamedFault.TheVariants as named
use Rattle.refusals.specs.declared.fault.Fault.{Fault}
use Rattle.refusals.specs.declared.fault.Fault.TheVariants as fault
use Rattle.taco_top.specs.Values.{Values}
use Rattle.taco_top.specs.Written.{HasResult}
use Rattle.taco_top.specs.Told.{IsComputed}
use Rattle.taco_top.specs.Ends.{Ending, Written, Printed, Refused}
use Rattle.taco_top.specs.Run.{path_of}
use Rattle.taco_top.specs.Stored.{stored_statement, IsLargeStoredLevel, NeedsStoredPairs}
use Rattle.taco_top.specs.declared.computing.Computed.{Computed}
use Rattle.taco_top.specs.declared.ending.Done.{Done}
use Rattle.taco_top.specs.declared.ending.Done.TheVariants as done

-- how a command ends
abbrev pub end_of : Result Done Fault → Ending
end_of (Ok (done.Written turns)) = Written turns
end_of (Ok done.Printed) = Printed
end_of (Err why) = Refused why

-- and one that prints a text: it goes to the output, not to a path
abbrev pub end_of_printing : Result (Unit {0}) WriteRefusal → Ending
end_of_printing (Ok done) = Printed
end_of_printing (Err write.Fault) = Refused (fault.WriteFault None)
end_of_printing (Err (write.Memory error)) = Refused fault.Memory

-- the kernel of a statement, as it is stored, runs over these operands
abbrev pub IsStoredRun : Values → Statement → List (List FormatLevel) → Option Planned → Kernel → List (Option ℕ) → List Entries
    → List (Vec Bound Global) → List ℕ → Entries → Storage → Turns → Type 0
IsStoredRun over s formats None kernel given entries bounds shape result tensor turns =
    IsRun over.arithmetic s formats kernel given entries bounds shape result tensor turns
IsStoredRun over s formats (Some plan) kernel given entries bounds shape result tensor turns =
    IsPlannedRun over.arithmetic s plan kernel given entries bounds shape result tensor turns

-- why it doesn't
abbrev pub MayRefuseStored : Values → Statement → List (List FormatLevel) → Option Planned → Kernel → List (Option ℕ) → List Entries
    → List (Vec Bound Global) → RunFault → Type 0
MayRefuseStored over s formats None kernel given entries bounds why = MayRefuseRun over.arithmetic s formats kernel given entries bounds why
MayRefuseStored over s formats (Some plan) kernel given entries bounds why =
    MayRefusePlanned over.arithmetic s plan kernel given entries bounds why

-- and that as the program's fault
abbrev pub IsUncomputed : Values → Statement → List (List FormatLevel) → Option Planned → Kernel → List (Option ℕ) → List Entries
    → List (Vec Bound Global) → Fault → Type 0
IsUncomputed over s formats plan kernel given entries bounds (fault.Named t (named.Range why)) =
    (t ≡ s) × (told_ranges s given bounds ≡ Err why)
IsUncomputed over s formats plan kernel given entries bounds (fault.Named t (named.SizeLimit large)) =
    (t ≡ stored_statement s plan) × IsLargeStoredLevel over s formats plan kernel given entries bounds large
IsUncomputed over s formats plan kernel given entries bounds (fault.WorkspaceLimit count) =
    NeedsStoredPairs over s formats plan kernel given entries bounds count
IsUncomputed over s formats plan kernel given entries bounds fault.Memory = Unit {0}
IsUncomputed over s formats plan kernel given entries bounds _ = ⊥

-- what the words ask for was computed, for this task, and this is kept of it
pub record IsPrepared (over : Values) (words : List (List ℕ)) (task : Task) (old new : FolderState) (kept : Computed) : Type 0 where
  pub values : HasResult over words old new
  pub computed : IsComputed over words old new values
  pub task_is : values.request.task ≡ task
  pub path_is : path_of values.request.files 0 ≡ path_to kept.file
  pub statement_is : values.request.statement ≡ kept.statement
  pub formats_are : values.request.formats ≡ kept.formats.items
  pub each_format : length kept.formats.items ≡ length kept.statement.tensors
  pub order_is : computed.order ≡ kept.compiled.order
  pub kernel_is : computed.kernel ≡ kept.compiled.kernel
  pub storage_is : computed.tensor ≡ kept.result.tensor
  pub turns_are : computed.turns ≡ kept.result.turns
  pub lists : ListsNonzero over.arithmetic kept.result.tensor kept.result.entries
  pub tensor : IsTensorOf over.arithmetic values.request.statement values.entries (slice_index values.ranges) kept.result.shape
      kept.result.entries
  pub written : MayBeWritten (asks_matrix (path_to kept.file)) kept.result.shape kept.result.entries
  pub finished : AreDone 1 kept.result.tensor.levels
