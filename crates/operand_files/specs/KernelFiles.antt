-- What a folder shows after a kernel was read from it, and why none is read.
use Rattle.std.specs.Prelude.{◌≡◌, ℕ, List, [], ◌∷◌, ◌++◌, Result, Ok, Err}
use Rattle.outside.specs.Folder.{FolderState}
use Rattle.kernel_code.specs.declared.syntax.Kernel.{Kernel}
use Rattle.kernel_read.specs.Answers.{IsAnswer}
use Rattle.kernel_read.specs.declared.fault.KernelFault.{KernelFault}
use Rattle.kernel_read.specs.declared.fault.KernelFault.TheVariants as text
use Rattle.operand_files.specs.Reads.{CountsNothing, FailsToRead, IsWholeFile, ReadsTooMuch, WantsMemory}
use Rattle.operand_files.specs.declared.kernel_file.KernelFileFault.{KernelFileFault}
use Rattle.operand_files.specs.declared.kernel_file.KernelFileFault.TheVariants.{ReadFault, FileBytes, KernelDepth, BadKernel, Memory}

-- reads gave the whole of the file of this path, and this is what the reader of kernels answers to its text
pub record ReadsText (path : List ℕ) (old new : FolderState) (answer : Result Kernel KernelFault) : Type 0 where
  pub bytes : List ℕ
  pub given_is : new.given ≡ old.given ++ (path, bytes) ∷ []
  pub whole : IsWholeFile (old.holds path) bytes
  pub is_answer : IsAnswer bytes answer
  pub quiet : CountsNothing old new

-- the file's text is that of this kernel
abbrev pub ReadsKernel : List ℕ → FolderState → FolderState → Kernel → Type 0
ReadsKernel path old new kernel = ReadsText path old new (Ok kernel)

-- why no kernel is read, and what was opened until then
abbrev pub IsKernelRefused : List ℕ → FolderState → FolderState → KernelFileFault → Type 0
IsKernelRefused path old new ReadFault = FailsToRead path old new
IsKernelRefused path old new FileBytes = ReadsTooMuch path old new
IsKernelRefused path old new (KernelDepth line) = ReadsText path old new (Err (text.KernelDepth line))
IsKernelRefused path old new (BadKernel line) = ReadsText path old new (Err (text.BadKernel line))
IsKernelRefused path old new Memory = WantsMemory path old new

-- the answer for a text that was read whole
abbrev pub AnswersText : List ℕ → Result Kernel KernelFileFault → Type 0
AnswersText bytes (Ok kernel) = IsAnswer bytes (Ok kernel)
AnswersText bytes (Err ReadFault) = ⊥
AnswersText bytes (Err FileBytes) = ⊥
AnswersText bytes (Err (KernelDepth line)) = IsAnswer bytes (Err (text.KernelDepth line))
AnswersText bytes (Err (BadKernel line)) = IsAnswer bytes (Err (text.BadKernel line))
AnswersText bytes (Err Memory) = Unit {0}
