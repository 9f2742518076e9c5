-- A command line that asks to run a given kernel asks for nothing else.
use Rattle.std.specs.Prelude.{◌≡◌, ℕ, ◌⊎◌, List, Option, None, Some}
use Rattle.std.proofs.Common.{◌∙◌, sym, subst, inl, inr}
use Rattle.outside.specs.Folder.{FolderState}
use Rattle.outside.specs.Sink.{SinkState}
use Rattle.command_line.specs.CommandLine.{CommandLine, Exec, Statement, Workload, command_line_of}
use Rattle.command_line.specs.declared.Over.{Over}
use Rattle.command_line.specs.declared.Task.{Task}
use Rattle.operand_files.specs.declared.fault.OperandFault.{OperandFault}
use Rattle.operand_files.specs.declared.kernel_file.KernelFileFault.{KernelFileFault}
use Rattle.kernel_runs.specs.declared.fault.GivenFault.{GivenFault}
use Rattle.result_files.specs.declared.refusal.WriteRefusal.{WriteRefusal}
use Rattle.result_files.specs.declared.refusal.WriteRefusal.TheVariants as write
use Rattle.refusals.specs.declared.fault.KernelFault.TheVariants as kernel
use Rattle.refusals.specs.declared.fault.NamedFault.TheVariants as named
use Rattle.refusals.specs.declared.fault.Fault.{Fault}
use Rattle.refusals.specs.declared.fault.Fault.TheVariants as fault
use Rattle.taco_top.specs.Exec.{AsksExec, AsksExecOf, ExecRequest, IsExecRefused}
use Rattle.taco_top.specs.Executed.{IsExecUnwritten, OpensInput, RefusesExec, RefusesExecWords, StopsAtKernel, StopsAtOperands}
use Rattle.taco_top.specs.Executed.{StopsAtRun, StopsExec}

abbrev pub IsExecLine : List (List ℕ) → Type 0
IsExecLine words = (path : List ℕ) × (budget : ℕ) × (text : List ℕ) × (rest : List (List ℕ)) × AsksExecOf words path budget text rest

-- no other line is one
abbrev IsOther : Option CommandLine → Type 0
IsOther None = Unit {0}
IsOther (Some (Statement task over expr words)) = Unit {0}
IsOther (Some (Workload size)) = Unit {0}
IsOther (Some (Exec path budget expr words)) = ⊥

pub no_execution : (words : List (List ℕ)) {task : Task} {over : Over} {expr : List ℕ} {rest : List (List ℕ)}
    → command_line_of words ≡ Some (Statement task over expr rest) → IsExecLine words → ⊥
no_execution words is (path, budget, text, others, be) = subst IsOther (sym is ∙ be) tt

pub no_workload : (words : List (List ℕ)) (size : ℕ) → command_line_of words ≡ Some (Workload size) → IsExecLine words → ⊥
no_workload words size is (path, budget, text, others, be) = subst IsOther (sym is ∙ be) tt

-- ---- every end of `exec` is of such a line

line_of : (words : List (List ℕ)) (r : ExecRequest) → AsksExec words r → IsExecLine words
line_of words r asks = (r.path, r.budget, asks.names.text, asks.rest, asks.names.line)

pub refused_line : (words : List (List ℕ)) (why : Fault) → IsExecRefused words why → IsExecLine words
refused_line words fault.Usage is = absurd is
refused_line words (fault.Notation why) (path, budget, text, rest, line, is) = (path, budget, text, rest, line)
refused_line words (fault.Named s (named.Name why)) (path, budget, text, rest, line, is) = (path, budget, text, rest, line)
refused_line words (fault.Named s (named.Binding why)) (path, budget, rest, names, is) = (path, budget, names.text, rest, names.line)
refused_line words (fault.Named s (named.Cycle cycle)) is = absurd is
refused_line words (fault.Named s (named.Range why)) is = absurd is
refused_line words (fault.Named s (named.SizeLimit large)) is = absurd is
refused_line words (fault.NoMinus name) is = absurd is
refused_line words (fault.WorkspaceLimit count) is = absurd is
refused_line words (fault.ReadFault path) is = absurd is
refused_line words (fault.FileBytes path) is = absurd is
refused_line words (fault.BadFile path number kind) is = absurd is
refused_line words (fault.Kernel why) is = absurd is
refused_line words (fault.WriteFault path) is = absurd is
refused_line words fault.Memory is = is

module _ (words : List (List ℕ)) (old new : FolderState) where
  at_kernel : (path : List ℕ) (why : KernelFileFault) → StopsAtKernel words old new path why → IsExecLine words
  at_kernel path why is = line_of words is.request is.asks

  at_operands : (why : OperandFault) → StopsAtOperands words old new why → IsExecLine words
  at_operands why is = line_of words is.request is.asks

  at_run : (why : GivenFault) → StopsAtRun words old new why → IsExecLine words
  at_run why is = line_of words is.request is.input.asks

  at_file : (path : List ℕ) (why : KernelFileFault) (other : OperandFault)
      → StopsAtKernel words old new path why ⊎ StopsAtOperands words old new other → IsExecLine words
  at_file path why other (inl is) = at_kernel path why is
  at_file path why other (inr is) = at_operands other is

  in_memory : RefusesExecWords words old new fault.Memory ⊎ OpensInput words old new → IsExecLine words
  in_memory (inl is) = is.refused
  in_memory (inr is) = line_of words is.request is.asks

  stops_line : (why : Fault) → StopsExec words old new why → IsExecLine words
  stops_line fault.Usage is = absurd is
  stops_line (fault.Notation why) is = refused_line words (fault.Notation why) is.refused
  stops_line (fault.Named s (named.Name why)) is = refused_line words (fault.Named s (named.Name why)) is.refused
  stops_line (fault.Named s (named.Binding why)) is = refused_line words (fault.Named s (named.Binding why)) is.refused
  stops_line (fault.Named s (named.Cycle cycle)) is = absurd is
  stops_line (fault.Named s (named.Range why)) is = at_run _ is.stops
  stops_line (fault.Named s (named.SizeLimit large)) is = at_run _ is.stops
  stops_line (fault.NoMinus name) is = absurd is
  stops_line (fault.WorkspaceLimit count) is = at_run _ is
  stops_line (fault.ReadFault path) is = at_file _ _ _ is
  stops_line (fault.FileBytes path) is = at_file _ _ _ is
  stops_line (fault.BadFile path number kind) is = at_operands _ is
  stops_line (fault.Kernel (kernel.KernelDepth path number)) is = at_kernel _ _ is
  stops_line (fault.Kernel (kernel.BadKernel path number)) is = at_kernel _ _ is
  stops_line (fault.Kernel (kernel.Trap statement)) is = at_run _ is
  stops_line (fault.Kernel (kernel.Budget turns)) is = at_run _ is.stops
  stops_line (fault.Kernel kernel.BadStore) is = at_run _ is
  stops_line (fault.WriteFault path) is = absurd is
  stops_line fault.Memory is = in_memory is

module _ (words : List (List ℕ)) (files files' : FolderState) (out out' : SinkState) where
  unwritten_line : (path : Option (List ℕ)) (why : WriteRefusal) → IsExecUnwritten words files files' out out' path why → IsExecLine words
  unwritten_line path why is = line_of words is.execution.request is.execution.input.asks

  wants_line : RefusesExec words files files' out out' fault.Memory → IsExecLine words
  wants_line (inl is) = stops_line words files files' fault.Memory is.stops
  wants_line (inr (path, error, is)) = unwritten_line path (write.Memory error) is

  pub refuses_line : (why : Fault) → RefusesExec words files files' out out' why → IsExecLine words
  refuses_line fault.Usage is = stops_line words files files' fault.Usage is.stops
  refuses_line (fault.Notation why) is = stops_line words files files' (fault.Notation why) is.stops
  refuses_line (fault.Named s why) is = stops_line words files files' (fault.Named s why) is.stops
  refuses_line (fault.NoMinus name) is = stops_line words files files' (fault.NoMinus name) is.stops
  refuses_line (fault.WorkspaceLimit count) is = stops_line words files files' (fault.WorkspaceLimit count) is.stops
  refuses_line (fault.ReadFault path) is = stops_line words files files' (fault.ReadFault path) is.stops
  refuses_line (fault.FileBytes path) is = stops_line words files files' (fault.FileBytes path) is.stops
  refuses_line (fault.BadFile path number kind) is = stops_line words files files' (fault.BadFile path number kind) is.stops
  refuses_line (fault.Kernel why) is = stops_line words files files' (fault.Kernel why) is.stops
  refuses_line (fault.WriteFault path) is = unwritten_line _ _ is
  refuses_line fault.Memory is = wants_line is
