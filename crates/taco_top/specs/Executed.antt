-- How `exec` ends: what is written of what a given kernel leaves, what stands after a refusal, and why.
use Rattle.std.specs.Prelude.{◌≡◌, ℕ, ◌∷◌, ◌⊎◌, List, Option, codes, if◌then◌else◌, length, map, Vec}
use Rattle.std.specs.Str.{bytes_eq}
use Rattle.std.specs.declared.alloc.Global.{Global}
use Rattle.std.specs.declared.alloc.AllocError.{AllocError}
use Rattle.std.specs.Option.{option_map}
use Rattle.outside.specs.Folder.{FolderState}
use Rattle.outside.specs.Sink.{SinkState}
use Rattle.tensor_map.specs.Entries.{Entries, value_at}
use Rattle.index_notation.specs.declared.syntax.Statement.{Statement}
use Rattle.expr_terms.specs.declared.bound.Bound.{Bound}
use Rattle.kernel_code.specs.declared.syntax.Kernel.{Kernel}
use Rattle.kernel_code.specs.declared.syntax.KernelSemiring.{KernelSemiring}
use Rattle.kernel_code.specs.declared.syntax.KernelSemiring.TheVariants as semiring
use Rattle.kernel_code.specs.declared.syntax.Turns.{Turns}
use Rattle.tensor_storage.specs.Storages.{Storage}
use Rattle.operand_files.specs.KernelFiles.{IsKernelRefused, ReadsKernel}
use Rattle.operand_files.specs.Reads.{HaveRead, IsRefused, NoReadFails, OnlyReads, OpensFirst}
use Rattle.operand_files.specs.declared.fault.OperandFault.{OperandFault}
use Rattle.operand_files.specs.declared.fault.OperandFault.TheVariants as operand
use Rattle.operand_files.specs.declared.kernel_file.KernelFileFault.{KernelFileFault}
use Rattle.operand_files.specs.declared.kernel_file.KernelFileFault.TheVariants as file
use Rattle.kernel_runs.specs.Given.{IsGivenRun, MayRefuseGiven}
use Rattle.kernel_runs.specs.declared.fault.GivenFault.{GivenFault}
use Rattle.kernel_runs.specs.declared.fault.GivenFault.TheVariants as given
use Rattle.kernel_runs.specs.declared.fault.RunFault.TheVariants as run
use Rattle.result_files.specs.Writes.{RefusesResult, WritesResult}
use Rattle.result_files.specs.declared.refusal.WriteRefusal.{WriteRefusal}
use Rattle.result_files.specs.declared.refusal.WriteRefusal.TheVariants as write
use Rattle.command_line.specs.declared.Over.{Over}
use Rattle.command_line.specs.declared.Over.TheVariants as over
use Rattle.refusals.specs.declared.fault.KernelFault.TheVariants as kernels
use Rattle.refusals.specs.declared.fault.NamedFault.TheVariants as named
use Rattle.refusals.specs.declared.fault.Fault.{Fault}
use Rattle.refusals.specs.declared.fault.Fault.TheVariants as fault
use Rattle.taco_top.specs.Exec.{AsksExec, ExecRequest, IsExecRefused, exec_orders, exec_paths}
use Rattle.taco_top.specs.Run.{path_of}
use Rattle.taco_top.specs.Values.{Values, values_of}
use Rattle.taco_top.specs.Written.{means}

-- the semiring of this name; a kernel that is read has no other
abbrev pub over_named : List ℕ → Over
over_named name =
    if bytes_eq name (codes "minplus") then over.MinPlus else (if bytes_eq name (codes "bits") then over.Bits else over.Ring)

-- the semiring of a kernel; the ring goes without a name
abbrev pub over_of : KernelSemiring → Over
over_of semiring.Ring = over.Ring
over_of (semiring.Named name) = over_named name

abbrev pub kernel_values : Kernel → Values
kernel_values kernel = values_of (over_of kernel.semiring)

-- the file of this path was read to its end, with nothing else done, and behind comments it is the text of this kernel
pub record HasKernel (path : List ℕ) (old between : FolderState) (kernel : Kernel) : Type 0 where
  pub only_reads : OnlyReads old between
  pub reads : ReadsKernel path old between kernel

-- the kernel's file was read, and then, over the kernel's semiring, those of the operands: these are their entries, and what their modes
-- give
pub record HasInput (words : List (List ℕ)) (old new : FolderState) (r : ExecRequest) (kernel : Kernel) (entries : List Entries)
    (bounds : List (Vec Bound Global)) : Type 0 where
  pub asks : AsksExec words r
  pub between : FolderState
  pub has_kernel : HasKernel r.path old between kernel
  pub reads : HaveRead (means (kernel_values kernel)) between new (exec_orders r) (exec_paths r) (length (exec_paths r)) entries
      (map (λ b. b.items) bounds)

-- the kernel's run on the store of these operands ends within its turns, and leaves a storage of the result's format; the entries are the
-- values at the paths of that storage that aren't zero, below the ranges of the left variables, which are the shape
pub record IsExecution (words : List (List ℕ)) (old new : FolderState) : Type 0 where
  pub request : ExecRequest
  pub kernel : Kernel
  pub entries : List Entries
  pub bounds : List (Vec Bound Global)
  pub input : HasInput words old new request kernel entries bounds
  pub shape : List ℕ
  pub result : Entries
  pub tensor : Storage
  pub turns : Turns
  pub runs : IsGivenRun (kernel_values kernel).arithmetic request.statement request.formats kernel request.given entries bounds
      request.budget
      shape result tensor turns

-- the text of the tensor with these entries was written; `between` is the folder as it was when the writing began
pub record IsExecuted (words : List (List ℕ)) (files files' : FolderState) (out out' : SinkState) (turns : Turns) : Type 0 where
  pub between : FolderState
  pub only_reads : OnlyReads files between
  pub execution : IsExecution words files between
  pub writes : WritesResult (kernel_values execution.kernel).arithmetic (kernel_values execution.kernel).is_signed
      (path_of execution.request.files 0) execution.shape
      (value_at (kernel_values execution.kernel).arithmetic execution.result.list) between files' out out'
  pub turns_are : execution.turns ≡ turns

-- ---- the refusals, stage by stage

-- no file was opened, and the words are refused so
pub record RefusesExecWords (words : List (List ℕ)) (old new : FolderState) (why : Fault) : Type 0 where
  pub folder_is : new ≡ old
  pub refused : IsExecRefused words why

-- no kernel is read from the file of this path, which is the one that the words give
pub record StopsAtKernel (words : List (List ℕ)) (old new : FolderState) (path : List ℕ) (why : KernelFileFault) : Type 0 where
  pub request : ExecRequest
  pub asks : AsksExec words request
  pub path_is : path ≡ request.path
  pub refused : IsKernelRefused request.path old new why

-- behind the kernel's file the operands aren't read
pub record StopsAtOperands (words : List (List ℕ)) (old new : FolderState) (why : OperandFault) : Type 0 where
  pub request : ExecRequest
  pub asks : AsksExec words request
  pub kernel : Kernel
  pub between : FolderState
  pub has_kernel : HasKernel request.path old between kernel
  pub refused : IsRefused (means (kernel_values kernel)) between new (exec_orders request) (exec_paths request) why

-- the ranges don't agree, a level is too large, or the kernel's run has no result
pub record StopsAtRun (words : List (List ℕ)) (old new : FolderState) (why : GivenFault) : Type 0 where
  pub request : ExecRequest
  pub kernel : Kernel
  pub entries : List Entries
  pub bounds : List (Vec Bound Global)
  pub input : HasInput words old new request kernel entries bounds
  pub refused : MayRefuseGiven (kernel_values kernel).arithmetic request.statement request.formats kernel request.given entries bounds
      request.budget why

-- told by the names of this statement
pub record StopsAtNamed (words : List (List ℕ)) (old new : FolderState) (s : Statement) (why : GivenFault) : Type 0 where
  pub stops : StopsAtRun words old new why
  pub statement_is : stops.request.statement ≡ s

-- the turns that the words give aren't enough
pub record UsesBudget (words : List (List ℕ)) (old new : FolderState) (turns : ℕ) : Type 0 where
  pub stops : StopsAtRun words old new given.Budget
  pub turns_are : turns ≡ stops.request.budget

-- no more was opened than the kernel's file and then the first of the operands' files, in order
pub record OpensInput (words : List (List ℕ)) (old new : FolderState) : Type 0 where
  pub request : ExecRequest
  pub asks : AsksExec words request
  pub opens : OpensFirst old new (request.path ∷ exec_paths request)
  pub no_fault : NoReadFails old new

-- why nothing is computed, and what of the folder was opened then
abbrev pub StopsExec : List (List ℕ) → FolderState → FolderState → Fault → Type 0
StopsExec words old new fault.Usage = ⊥
StopsExec words old new (fault.Notation why) = RefusesExecWords words old new (fault.Notation why)
StopsExec words old new (fault.Named s (named.Name why)) = RefusesExecWords words old new (fault.Named s (named.Name why))
StopsExec words old new (fault.Named s (named.Binding why)) = RefusesExecWords words old new (fault.Named s (named.Binding why))
StopsExec words old new (fault.Named s (named.Cycle cycle)) = ⊥
StopsExec words old new (fault.Named s (named.Range why)) = StopsAtNamed words old new s (given.Run (run.Range why))
StopsExec words old new (fault.Named s (named.SizeLimit large)) = StopsAtNamed words old new s (given.Run (run.SizeLimit large))
StopsExec words old new (fault.NoMinus name) = ⊥
StopsExec words old new (fault.WorkspaceLimit count) = StopsAtRun words old new (given.Run (run.Workspace count))
StopsExec words old new (fault.ReadFault path) =
    StopsAtKernel words old new path.now file.ReadFault ⊎ StopsAtOperands words old new (operand.ReadFault path)
StopsExec words old new (fault.FileBytes path) =
    StopsAtKernel words old new path.now file.FileBytes ⊎ StopsAtOperands words old new (operand.FileBytes path)
StopsExec words old new (fault.BadFile path line kind) = StopsAtOperands words old new (operand.BadFile path line kind)
StopsExec words old new (fault.Kernel (kernels.KernelDepth path line)) = StopsAtKernel words old new path.now (file.KernelDepth line)
StopsExec words old new (fault.Kernel (kernels.BadKernel path line)) = StopsAtKernel words old new path.now (file.BadKernel line)
StopsExec words old new (fault.Kernel (kernels.Trap statement)) = StopsAtRun words old new (given.Trap statement)
StopsExec words old new (fault.Kernel (kernels.Budget turns)) = UsesBudget words old new turns
StopsExec words old new (fault.Kernel kernels.BadStore) = StopsAtRun words old new given.BadStore
StopsExec words old new (fault.WriteFault path) = ⊥
StopsExec words old new fault.Memory = RefusesExecWords words old new fault.Memory ⊎ OpensInput words old new

-- nothing was written, and why
pub record IsExecStopped (words : List (List ℕ)) (files files' : FolderState) (out out' : SinkState) (why : Fault) : Type 0 where
  pub only_reads : OnlyReads files files'
  pub stops : StopsExec words files files' why
  pub out_is : out' ≡ out

-- the writing of what the kernel left was refused
pub record IsExecUnwritten (words : List (List ℕ)) (files files' : FolderState) (out out' : SinkState) (path : Option (List ℕ))
    (why : WriteRefusal) : Type 0 where
  pub between : FolderState
  pub only_reads : OnlyReads files between
  pub execution : IsExecution words files between
  pub path_is : path_of execution.request.files 0 ≡ path
  pub refuses : RefusesResult (kernel_values execution.kernel).arithmetic (kernel_values execution.kernel).is_signed path execution.shape
      (value_at (kernel_values execution.kernel).arithmetic execution.result.list) between files' out out' why

-- why `exec` ends with a fault
abbrev pub RefusesExec : List (List ℕ) → FolderState → FolderState → SinkState → SinkState → Fault → Type 0
RefusesExec words files files' out out' (fault.WriteFault path) =
    IsExecUnwritten words files files' out out' (option_map (λ path. path.now) path) write.Fault
RefusesExec words files files' out out' fault.Memory = IsExecStopped words files files' out out' fault.Memory
    ⊎ ((path : Option (List ℕ)) × (error : AllocError) × IsExecUnwritten words files files' out out' path (write.Memory error))
RefusesExec words files files' out out' why = IsExecStopped words files files' out out' why
