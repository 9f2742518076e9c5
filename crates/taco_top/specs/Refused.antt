-- What stands after a refusal, and why. Third of the three parts of what a command ends with (`Ends.antt`): each stage has causes of its
-- own: the words, the loop order, the operands' files, the ranges and sizes, the writing of a result or the printing of a text.
use Rattle.std.specs.Prelude.{◌≡◌, ℕ, ◌⊎◌, List, Option, None, Err, true, Vec}
use Rattle.std.specs.declared.alloc.Global.{Global}
use Rattle.std.specs.declared.alloc.AllocError.{AllocError}
use Rattle.std.specs.Option.{option_map}
use Rattle.outside.specs.Folder.{FolderState}
use Rattle.outside.specs.Sink.{SinkState}
use Rattle.tensor_map.specs.Entries.{Entries}
use Rattle.kernel_code.specs.declared.syntax.Kernel.{Kernel}
use Rattle.index_notation.specs.declared.syntax.Statement.{Statement}
use Rattle.expr_terms.specs.declared.bound.Bound.{Bound}
use Rattle.expr_terms.specs.declared.range_fault.RangeFault.{RangeFault}
use Rattle.operand_files.specs.Reads.{OnlyReads, RefusedAtFault, RefusedAtLength, RefusedAtLine, OpensFirst, NoReadFails}
use Rattle.kernel_correctness.specs.Kernels.{looped}
use Rattle.row_orders.specs.Takings.{calls_for_workspace}
use Rattle.taco_compiler.specs.Compiled.{HasCycle}
use Rattle.operand_packing.specs.Runnable.{told_ranges}
use Rattle.operand_packing.specs.declared.large_level.LargeLevel.{LargeLevel}
use Rattle.result_files.specs.Writes.{PutsFront, RefusesResult}
use Rattle.result_files.specs.declared.refusal.WriteRefusal.{WriteRefusal}
use Rattle.result_files.specs.declared.refusal.WriteRefusal.TheVariants as write
use Rattle.refusals.specs.declared.fault.NamedFault.TheVariants as named
use Rattle.refusals.specs.declared.fault.Fault.{Fault}
use Rattle.refusals.specs.declared.fault.Fault.TheVariants as fault
use Rattle.mode_planner.specs.declared.planned.Planned.{Planned}
use Rattle.taco_top.specs.Values.{Values}
use Rattle.taco_top.specs.Asked.{IsRefusedByWords, needs_files, needs_order, writes_result}
use Rattle.taco_top.specs.Run.{Request, AsksFor, path_of}
use Rattle.taco_top.specs.Stored.{IsRunBy, stored_statement, stored_formats, IsLargeStoredLevel, NeedsStoredWorkspace}
use Rattle.taco_top.specs.Written.{means, IsAccepted, asked_orders, asked_paths, HasOperands, HasResult, result_ranges, result_value}
use Rattle.taco_top.specs.Told.{IsComputed, IsKernelOf, IsTextOf, Tells}

-- a statement is accepted, and no more was opened of its operands' files than the first of them, in order
pub record OpensOperands (words : List (List ℕ)) (old new : FolderState) : Type 0 where
  pub request : Request
  pub accepted : IsAccepted words request
  pub reads : needs_files request.task ≡ true
  pub opens : OpensFirst old new (asked_paths request)
  pub no_fault : NoReadFails old new

-- an order of loops is needed, and the storage orders of the tensors have this cycle
pub record HasCycleFault (words : List (List ℕ)) (s : Statement) (cycle : List ℕ) : Type 0 where
  pub request : Request
  pub statement_is : request.statement ≡ s
  pub asks : AsksFor words request
  pub needs : needs_order request.task ≡ true
  pub is : HasCycle s request.formats cycle

-- why the operands of what the words ask for aren't read
pub record StopsReading (words : List (List ℕ)) (Why : (orders : List ℕ) (paths : List (List ℕ)) → Type 0) : Type 0 where
  pub request : Request
  pub accepted : IsAccepted words request
  pub reads : needs_files request.task ≡ true
  pub why : Why (asked_orders request) (asked_paths request)

-- why the ranges of this statement don't agree
pub record HasRangeFault (over : Values) (words : List (List ℕ)) (old new : FolderState) (s : Statement) (why : RangeFault) : Type 0 where
  pub request : Request
  pub statement_is : request.statement ≡ s
  pub entries : List Entries
  pub bounds : List (Vec Bound Global)
  pub operands : HasOperands over words old new request entries bounds
  pub is : told_ranges s request.given bounds ≡ Err why

-- this level of a tensor of the statement that is run by this kernel has too many positions
pub record HasLargeLevel (over : Values) (words : List (List ℕ)) (old new : FolderState) (s : Statement) (large : LargeLevel) : Type 0 where
  pub request : Request
  pub plan : Option Planned
  pub is_plan : IsRunBy request plan
  pub statement_is : stored_statement request.statement plan ≡ s
  pub order : List ℕ
  pub kernel : Kernel
  pub is_kernel : IsKernelOf over (stored_statement request.statement plan) (stored_formats request.formats plan) order kernel
  pub entries : List Entries
  pub bounds : List (Vec Bound Global)
  pub operands : HasOperands over words old new request entries bounds
  pub is : IsLargeStoredLevel over request.statement request.formats plan kernel request.given entries bounds large

-- the statement that is run calls for a workspace, in the order of its loops, and this kernel's run is refused it: it needs too many pairs,
-- at one head where each level of the result has an order. Where its key is one variable alone, that one's range is too large for marks
pub record HasManyPairs (over : Values) (words : List (List ℕ)) (old new : FolderState) (count : ℕ) : Type 0 where
  pub request : Request
  pub plan : Option Planned
  pub is_plan : IsRunBy request plan
  pub order : List ℕ
  pub kernel : Kernel
  pub is_kernel : IsKernelOf over (stored_statement request.statement plan) (stored_formats request.formats plan) order kernel
  pub called : calls_for_workspace (looped over.arithmetic (stored_statement request.statement plan) order)
      (stored_formats request.formats plan) order ≡ true
  pub entries : List Entries
  pub bounds : List (Vec Bound Global)
  pub operands : HasOperands over words old new request entries bounds
  pub needs : NeedsStoredWorkspace over request.statement request.formats plan order kernel request.given entries bounds count

-- no file was opened, and the words are refused so
pub record RefusesWords (words : List (List ℕ)) (old new : FolderState) (why : Fault) : Type 0 where
  pub folder_is : new ≡ old
  pub refused : IsRefusedByWords words why

-- why nothing is computed, and what of the folder was opened then
abbrev pub Stops : Values → List (List ℕ) → FolderState → FolderState → Fault → Type 0
Stops over words old new (fault.ReadFault path) = StopsReading words (λ orders paths. RefusedAtFault
    (means over) old new orders paths path.now)
Stops over words old new (fault.FileBytes path) = StopsReading words (λ orders paths. RefusedAtLength
    (means over) old new orders paths path.now)
Stops over words old new (fault.BadFile path line kind) =
    StopsReading words (λ orders paths. RefusedAtLine (means over) old new orders paths path.now line kind)
Stops over words old new (fault.Named s (named.Cycle cycle)) = (new ≡ old) × HasCycleFault words s cycle
Stops over words old new (fault.Named s (named.Range why)) = HasRangeFault over words old new s why
Stops over words old new (fault.Named s (named.SizeLimit large)) = HasLargeLevel over words old new s large
Stops over words old new (fault.WorkspaceLimit count) = HasManyPairs over words old new count
Stops over words old new (fault.WriteFault path) = ⊥
Stops over words old new fault.Memory = (new ≡ old) ⊎ OpensOperands words old new
Stops over words old new why = RefusesWords words old new why

-- the writing of a result that was computed was refused: of the text of the storage that the kernel's run leaves
pub record IsUnwritten (over : Values) (words : List (List ℕ)) (files files' : FolderState) (out out' : SinkState) (path : Option (List ℕ))
    (why : WriteRefusal) : Type 0 where
  pub between : FolderState
  pub only_reads : OnlyReads files between
  pub values : HasResult over words files between
  pub computed : IsComputed over words files between values
  pub task_writes : writes_result values.request.task ≡ true
  pub path_is : path_of values.request.files 0 ≡ path
  pub refuses : RefusesResult over.arithmetic over.is_signed path (result_ranges values.request.statement values.ranges)
      (result_value over values.request.statement values.entries values.ranges) between files' out out' why
  pub text_is : IsTextOf over.arithmetic over.is_signed path (result_ranges values.request.statement values.ranges) computed.tensor
      refuses.text

-- its printing was refused
pub record IsUnprinted (over : Values) (words : List (List ℕ)) (files files' : FolderState) (out out' : SinkState)
    (why : WriteRefusal) : Type 0 where
  pub text : List ℕ
  pub only_reads : OnlyReads files files'
  pub tells : Tells over words files files' text
  pub puts : PutsFront out out' text why

-- nothing was written, and why
pub record IsStopped (over : Values) (words : List (List ℕ)) (files files' : FolderState) (out out' : SinkState)
    (why : Fault) : Type 0 where
  pub only_reads : OnlyReads files files'
  pub stops : Stops over words files files' why
  pub out_is : out' ≡ out

-- the writing of a result failed, to its path or to the output; or the printing of a text did, to the output
abbrev pub FailsToWrite : Values → List (List ℕ) → FolderState → FolderState → SinkState → SinkState → Option (List ℕ) → Type 0
FailsToWrite over words files files' out out' path = IsUnwritten over words files files' out out' path write.Fault
    ⊎ ((path ≡ None) × IsUnprinted over words files files' out out' write.Fault)

-- memory was wanted, before anything was written or in the writing
abbrev pub WantsMemory : Values → List (List ℕ) → FolderState → FolderState → SinkState → SinkState → Type 0
WantsMemory over words files files' out out' = IsStopped over words files files' out out' fault.Memory
    ⊎ ((path : Option (List ℕ)) × (error : AllocError) × IsUnwritten over words files files' out out' path (write.Memory error))
    ⊎ ((error : AllocError) × IsUnprinted over words files files' out out' (write.Memory error))

-- why a command ends with a fault
abbrev pub Refuses : Values → List (List ℕ) → FolderState → FolderState → SinkState → SinkState → Fault → Type 0
Refuses over words files files' out out' (fault.WriteFault path) = FailsToWrite over words files files' out out' (option_map
    (λ path. path.now) path)
Refuses over words files files' out out' fault.Memory = WantsMemory over words files files' out out'
Refuses over words files files' out out' why = IsStopped over words files files' out out' why
