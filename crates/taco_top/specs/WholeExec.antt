-- Where all input of `exec` is whole: then it ends with what it is to give, unless a fault occurs or memory is wanted.
use Rattle.std.specs.Prelude.{◌≡◌, ◌≤◌, ℕ, List, length, map, Ok, Err, slice_index, ⊤}
use Rattle.limits.specs.Limits.{greatest_file_bytes}
use Rattle.outside.specs.Told.{Told, Bytes}
use Rattle.tensor_map.specs.Entries.{Entries}
use Rattle.kernel_code.specs.declared.syntax.Kernel.{Kernel}
use Rattle.kernel_read.specs.Answers.{IsAnswer}
use Rattle.kernel_read.specs.declared.fault.KernelFault.{KernelFault}
use Rattle.kernel_read.specs.declared.fault.KernelFault.TheVariants as reading
use Rattle.kernel_correctness.specs.Stores.{Store}
use Rattle.kernel_machine.specs.Checked.{IsCheckedFault}
use Rattle.kernel_machine.specs.declared.checked_fault.CheckedFault.{CheckedFault}
use Rattle.kernel_machine.specs.declared.checked_fault.CheckedFault.TheVariants as checked
use Rattle.operand_files.specs.Decoded.{Operand}
use Rattle.operand_files.specs.Laws.{AreTold, told_operands}
use Rattle.operand_packing.specs.Packed.{OperandsFit}
use Rattle.kernel_runs.specs.Given.{IsPackedStore}
use Rattle.taco_top.specs.Exec.{AsksExec, ExecRequest, exec_orders, exec_paths}
use Rattle.taco_top.specs.Executed.{kernel_values}
use Rattle.taco_top.specs.Whole.{ranges_told}
use Rattle.taco_top.specs.Written.{means}

abbrev pub entries_in : List Operand → List Entries
entries_in operands = map (λ operand. operand.entries) operands

-- over the semiring of this kernel every operand's file stands for entries; the ranges agree; no level of an operand has more positions
-- than may be; and on the store of the packed operands the kernel's run has no other fault than want of memory
pub record RunsWhole (r : ExecRequest) (holds : List ℕ → Told) (kernel : Kernel) : Type 0 where
  pub operands : List Operand
  pub ranges : List ℕ
  pub operands_are : told_operands (means (kernel_values kernel)) holds (exec_orders r) (exec_paths r) ≡ Ok operands
  pub ranges_are : ranges_told r.statement r.given operands ≡ Ok ranges
  pub fits : OperandsFit (kernel_values kernel).arithmetic r.statement r.formats (slice_index ranges) (entries_in operands)
  pub ends : (store : Store) → IsPackedStore (kernel_values kernel).arithmetic r.statement r.formats ranges (entries_in operands) store
      → (why : CheckedFault) → IsCheckedFault (kernel_values kernel).arithmetic kernel store r.budget why → why ≡ checked.Memory

abbrev pub IsKernelWant : KernelFault → Type 0
IsKernelWant (reading.KernelDepth line) = ⊥
IsKernelWant (reading.BadKernel line) = ⊥
IsKernelWant (reading.Memory error) = ⊤

-- the words of `exec` pass; the kernel's file is there, is no longer than may be, and has no bad line; every operand's file is there; and
-- with the kernel that is read the rest is whole
pub record IsWholeExec (words : List (List ℕ)) (holds : List ℕ → Told) : Type 0 where
  pub request : ExecRequest
  pub asks : AsksExec words request
  pub text : List ℕ
  pub text_is : holds request.path ≡ Bytes text
  pub short : length text ≤ greatest_file_bytes
  pub no_fault : (why : KernelFault) → IsAnswer text (Err why) → IsKernelWant why
  pub told : AreTold holds (exec_paths request)
  pub runs : (kernel : Kernel) → IsAnswer text (Ok kernel) → RunsWhole request holds kernel
