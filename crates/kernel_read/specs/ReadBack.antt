-- That the text of each kernel is read as that kernel.
use Rattle.std.specs.Prelude.{◌≡◌, ◌≢◌, ℕ, ◌⊎◌, List, ◌++◌, None, Some, Result, Ok, Err}
use Rattle.std.specs.declared.alloc.AllocError.{AllocError}
use Rattle.kernel_code.specs.declared.syntax.Kernel.{Kernel}
use Rattle.kernel_print.specs.Text.{kernel_text}
use Rattle.kernel_read.specs.Answers.{IsAnswer}
use Rattle.kernel_read.specs.Brackets.{open_behind}
use Rattle.kernel_read.specs.Kernels.{AreComments, IsReadable}
use Rattle.kernel_read.specs.declared.fault.KernelFault.{KernelFault}
use Rattle.kernel_read.specs.declared.fault.KernelFault.TheVariants as f

-- Behind any comments, what is answered to the text of a kernel that may be read, and that opens no bracket while 4,096 are open, is
-- that kernel, or that memory is wanted.
abbrev pub KernelsAreReadBack : Type 0
KernelsAreReadBack = (kernel : Kernel) (lines : ℕ) (comments : List ℕ) (answer : Result Kernel KernelFault) → IsReadable kernel
    → open_behind (Some 0) (kernel_text kernel) ≢ None → AreComments lines comments
    → IsAnswer (comments ++ kernel_text kernel) answer
    → (answer ≡ Ok kernel) ⊎ ((error : AllocError) × (answer ≡ Err (f.Memory error)))
