-- What a kernel's turns and storage say. Second of the three parts of what a command ends with (`Ends.antt`): which kernel computes a
-- statement's values, how its run ends, and the texts that tell of kernels and runs.
use Rattle.std.specs.Prelude.{◌≡◌, ℕ, ◌≤◌, ◌⊎◌, Bool, List, Option, Some}
use Rattle.outside.specs.Folder.{FolderState}
use Rattle.outside.specs.Sink.{SinkState}
use Rattle.numbers.specs.Arithmetic.{Arithmetic}
use Rattle.tensor_map.specs.Entries.{Entries, value_at}
use Rattle.operand_files.specs.Reads.{OnlyReads}
use Rattle.kernel_code.specs.Semirings.{semiring_of}
use Rattle.kernel_code.specs.declared.syntax.Kernel.{Kernel}
use Rattle.kernel_code.specs.declared.syntax.Turns.{Turns}
use Rattle.tensor_storage.specs.Storages.{Storage}
use Rattle.format_spec.specs.declared.format.FormatLevel.{FormatLevel}
use Rattle.index_notation.specs.declared.syntax.Statement.{Statement}
use Rattle.kernel_correctness.specs.Kernels.{IsRightFor, looped}
use Rattle.kernel_correctness.specs.Stores.{Store}
use Rattle.taco_compiler.specs.Compiled.{IsOrder, IsCompiled}
use Rattle.kernel_runs.specs.Runs.{IsStoreFor, RunsKernel}
use Rattle.kernel_runs.specs.Steps.{ListsNonzero}
use Rattle.result_files.specs.ResultText.{IsResultText}
use Rattle.result_files.specs.Writes.{PutsAll}
use Rattle.command_line.specs.CommandLine.{Workload as WorkloadLine, command_line_of}
use Rattle.command_line.specs.declared.Task.TheVariants as task
use Rattle.reports.specs.declared.workload.Workload.{Workload}
use Rattle.generated_runs.specs.Workloads.{IsWorkload}
use Rattle.mode_planner.specs.Plans.{IsPlan}
use Rattle.mode_planner.specs.declared.planned.Planned.{Planned}
use Rattle.mode_planner.specs.declared.plans.Repack.{Repack}
use Rattle.reports.specs.Plans.{plan_text}
use Rattle.reports.specs.Reports.{workload_line, kernel_report, run_report}
use Rattle.taco_top.specs.Values.{Values}
use Rattle.taco_top.specs.Run.{Request, AsksFor, path_of}
use Rattle.taco_top.specs.Stored.{IsRunBy, stored_statement, stored_formats, stored_entries}
use Rattle.taco_top.specs.Written.{IsAccepted, HasResult, IsWritten, result_ranges}

-- a kernel that is right for the statement and its formats, in their loop order, and names the semiring. What is promised of its loops is
-- said of the statement multiplied out
pub record IsKernelOf (over : Values) (s : Statement) (formats : List (List FormatLevel)) (order : List ℕ) (kernel : Kernel) : Type 0 where
  pub is_order : IsOrder s formats order
  pub right : IsRightFor over.arithmetic s formats kernel
  pub compiled : IsCompiled over.arithmetic (looped over.arithmetic s order) formats order kernel
  pub over_is : kernel.semiring ≡ semiring_of over.is_ring over.name

-- a kernel that is right for the statement, as it is stored, runs on the operands, packed in their formats. It leaves the storage that
-- stands for the statement's values, named by its support
pub record IsComputed (over : Values) (words : List (List ℕ)) (old new : FolderState) (values : HasResult over words old new) : Type 0 where
  pub plan : Option Planned
  pub is_plan : IsRunBy values.request plan
  pub order : List ℕ
  pub kernel : Kernel
  pub is_kernel : IsKernelOf over (stored_statement values.request.statement plan) (stored_formats values.request.formats plan) order kernel
  pub store : Store
  pub is_store : IsStoreFor over.arithmetic (stored_statement values.request.statement plan) (stored_formats values.request.formats plan)
      values.ranges (stored_entries values.entries plan) store
  pub tensor : Storage
  pub turns : Turns
  pub runs : RunsKernel over.arithmetic (stored_statement values.request.statement plan) kernel store tensor turns

-- the text of what a storage holds: of the values at its paths that aren't zero
pub record IsTextOf (a : Arithmetic) (signed : Bool) (path : Option (List ℕ)) (ranges : List ℕ) (storage : Storage)
    (text : List ℕ) : Type 0 where
  pub entries : Entries
  pub lists : ListsNonzero a storage entries
  pub text_is : IsResultText a signed path ranges (value_at a entries.list) text

-- the result of `run` or `auto` was written, of a kernel's run of so many turns: the text is that of the storage which this run leaves
pub record IsWrittenIn (over : Values) (words : List (List ℕ)) (files files' : FolderState) (out out' : SinkState)
    (turns : Turns) : Type 0 where
  pub written : IsWritten over words files files' out out'
  pub computed : IsComputed over words files written.between written.values
  pub turns_are : computed.turns ≡ turns
  pub text_is : IsTextOf over.arithmetic over.is_signed (path_of written.values.request.files 0)
      (result_ranges written.values.request.statement written.values.ranges) computed.tensor written.writes.text

-- `kernel`: that of a kernel which is right for the statement and its formats; no file is opened
pub record TellsKernel (over : Values) (words : List (List ℕ)) (old new : FolderState) (text : List ℕ) : Type 0 where
  pub request : Request
  pub accepted : IsAccepted words request
  pub task_is : request.task ≡ task.Kernel
  pub order : List ℕ
  pub kernel : Kernel
  pub is_kernel : IsKernelOf over request.statement request.formats order kernel
  pub folder_is : new ≡ old
  pub text_is : text ≡ kernel_report request.statement order request.formats kernel

-- `report`: that of a kernel, the turns of its run on the operands, and the storage that this run leaves
pub record TellsRun (over : Values) (words : List (List ℕ)) (old new : FolderState) (text : List ℕ) : Type 0 where
  pub values : HasResult over words old new
  pub computed : IsComputed over words old new values
  pub task_is : values.request.task ≡ task.Report
  pub text_is : text ≡ run_report over.is_signed values.request.statement computed.order values.request.formats computed.kernel
      computed.turns
      computed.tensor

-- `plan`: the accesses of the statement that have to be stored in another order of their modes; no file is opened
pub record TellsPlan (words : List (List ℕ)) (old new : FolderState) (text : List ℕ) : Type 0 where
  pub request : Request
  pub asks : AsksFor words request
  pub task_is : request.task ≡ task.Plan
  pub plan : List Repack
  pub is_plan : IsPlan request.statement request.formats plan
  pub folder_is : new ≡ old
  pub text_is : text ≡ plan_text request.statement plan

-- `gen`: the line of the generated workload of this size, whose merged loops turn no more often than it costs; no file is opened
pub record TellsWorkload (words : List (List ℕ)) (old new : FolderState) (text : List ℕ) : Type 0 where
  pub size : ℕ
  pub line : command_line_of words ≡ Some (WorkloadLine size)
  pub workload : Workload
  pub is : IsWorkload size workload
  pub few : workload.turns.merge ≤ workload.cost
  pub folder_is : new ≡ old
  pub text_is : text ≡ workload_line workload

abbrev pub Tells : Values → List (List ℕ) → FolderState → FolderState → List ℕ → Type 0
Tells over words old new text =
    TellsKernel over words old new text ⊎ TellsRun over words old new text ⊎ TellsWorkload words old new text ⊎ TellsPlan words old new text

-- the text was printed; no file is written
pub record IsPrinted (over : Values) (words : List (List ℕ)) (files files' : FolderState) (out out' : SinkState) : Type 0 where
  pub text : List ℕ
  pub only_reads : OnlyReads files files'
  pub tells : Tells over words files files' text
  pub puts : PutsAll out out' text
