-- What is told between the parts of `exec`: what the kernel's run left, why there is nothing, and how the command ends.
use Rattle.std.specs.Prelude.{◌≡◌, ℕ, List, Result, Ok, Err}
use Rattle.outside.specs.Folder.{FolderState}
use Rattle.outside.specs.Sink.{SinkState}
use Rattle.index_notation.specs.declared.syntax.Statement.{Statement}
use Rattle.kernel_runs.specs.declared.fault.GivenFault.{GivenFault}
use Rattle.kernel_runs.specs.declared.fault.GivenFault.TheVariants as given
use Rattle.kernel_runs.specs.declared.fault.RunFault.TheVariants as run
use Rattle.bindings.specs.Tables.{path_to}
use Rattle.result_files.specs.EntriesText.{MayBeWritten}
use Rattle.result_files.specs.ResultText.{asks_matrix}
use Rattle.refusals.specs.declared.fault.KernelFault.TheVariants as kernels
use Rattle.refusals.specs.declared.fault.NamedFault.TheVariants as named
use Rattle.refusals.specs.declared.fault.Fault.{Fault}
use Rattle.refusals.specs.declared.fault.Fault.TheVariants as fault
use Rattle.taco_top.specs.Executed.{IsExecuted, IsExecution, RefusesExec, kernel_values}
use Rattle.taco_top.specs.Run.{path_of}
use Rattle.taco_top.specs.Values.{Values}
use Rattle.taco_top.specs.declared.ending.Done.{Done}
use Rattle.taco_top.specs.declared.ending.Done.TheVariants as done
use Rattle.taco_top.specs.declared.executing.Ready.{Ready}

-- the refusal of a kernel's run, which was given so many turns, as the program's fault
abbrev pub fault_of_run : Statement → ℕ → GivenFault → Fault
fault_of_run s budget (given.Run (run.Range why)) = fault.Named s (named.Range why)
fault_of_run s budget (given.Run (run.SizeLimit large)) = fault.Named s (named.SizeLimit large)
fault_of_run s budget (given.Run (run.Workspace count)) = fault.WorkspaceLimit count
fault_of_run s budget (given.Run (run.Memory error)) = fault.Memory
fault_of_run s budget (given.Trap statement) = fault.Kernel (kernels.Trap statement)
fault_of_run s budget given.Budget = fault.Kernel (kernels.Budget budget)
fault_of_run s budget given.BadStore = fault.Kernel kernels.BadStore

-- the kernel ran, over these values, and this is kept of it
pub record IsReady (over : Values) (words : List (List ℕ)) (old new : FolderState) (kept : Ready) : Type 0 where
  pub execution : IsExecution words old new
  pub over_is : kernel_values execution.kernel ≡ over
  pub path_is : path_of execution.request.files 0 ≡ path_to kept.file
  pub shape_is : execution.shape ≡ kept.result.shape
  pub result_is : execution.result ≡ kept.result.entries
  pub turns_are : execution.turns ≡ kept.result.turns
  pub written : MayBeWritten (asks_matrix (path_to kept.file)) kept.result.shape kept.result.entries

-- how `exec` ends: it prints no text but that of what the kernel left
abbrev pub EndsExec : List (List ℕ) → FolderState → FolderState → SinkState → SinkState → Result Done Fault → Type 0
EndsExec words files files' out out' (Ok (done.Written turns)) = IsExecuted words files files' out out' turns
EndsExec words files files' out out' (Ok done.Printed) = ⊥
EndsExec words files files' out out' (Err why) = RefusesExec words files files' out out' why
