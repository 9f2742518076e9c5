-- A kernel's file that was fed whole, and what its text is answered with.
use Rattle.std.specs.Prelude.{◌≡◌, ℕ, List, [], ◌++◌, Result, Ok, Err, IfOk, IfErr}
use Rattle.std.proofs.Common.{◌∙◌, ap, subst}
use Rattle.outside.specs.Folder.{FolderState}
use Rattle.kernel_code.specs.declared.syntax.Kernel.{Kernel}
use Rattle.kernel_read.specs.Answers.{IsAnswer}
use Rattle.kernel_read.specs.declared.fault.KernelFault.{KernelFault}
use Rattle.operand_files.specs.KernelFiles.{AnswersText, IsKernelRefused, ReadsKernel, ReadsText}
use Rattle.operand_files.specs.Reads.{FeedsFile}
use Rattle.operand_files.proofs.FileLaws.{wants_behind}
use Rattle.operand_files.specs.declared.kernel_file.KernelFileFault.{KernelFileFault}
use Rattle.operand_files.specs.declared.kernel_file.KernelFileFault.TheVariants.{ReadFault, FileBytes, KernelDepth, BadKernel, Memory}

module _ (path : List ℕ) (old new : FolderState) (empty text bytes : List ℕ) (none : empty ≡ []) (fed : FeedsFile path old new empty text)
    (bytes_are : bytes ≡ text) where
  -- what the text of the whole file is answered with
  text_read : (answer : Result Kernel KernelFault) → IsAnswer bytes answer → ReadsText path old new answer
  text_read answer is = record {
    bytes = fed.bytes;
    given_is = fed.given_is;
    whole = fed.whole;
    is_answer = subst (λ bs. IsAnswer bs answer) (bytes_are ∙ fed.eaten_is ∙ ap (λ front. front ++ fed.bytes) none) is;
    quiet = fed.quiet;
  }

  pub kernel_read : (answer : Result Kernel KernelFileFault) → AnswersText bytes answer
      → IfOk answer (ReadsKernel path old new) × IfErr answer (IsKernelRefused path old new)
  kernel_read (Ok kernel) is = (text_read _ is, tt)
  kernel_read (Err ReadFault) is = absurd is
  kernel_read (Err FileBytes) is = absurd is
  kernel_read (Err (KernelDepth line)) is = (tt, text_read _ is)
  kernel_read (Err (BadKernel line)) is = (tt, text_read _ is)
  kernel_read (Err Memory) is = (tt, wants_behind path fed.bytes old new fed.given_is fed.whole fed.quiet)
