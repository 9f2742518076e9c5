-- What the reader of a kernel answers.
use Rattle.std.specs.Prelude.{◌≡◌, ◌≢◌, ℕ, ◌+◌, ◌-◌, ◌^◌, ◌≤◌, List, ◌++◌, length, take, min, None, Some, Result, Ok, Err}
use Rattle.kernel_code.specs.declared.syntax.Kernel.{Kernel}
use Rattle.kernel_print.specs.Text.{kernel_text}
use Rattle.kernel_read.specs.Brackets.{open_behind}
use Rattle.kernel_read.specs.Drafts.{ProgressFits, progress_text}
use Rattle.kernel_read.specs.Kernels.{AreComments, HasNoComment, IsBad, IsDeep, IsPiece, IsReadable}
use Rattle.kernel_read.specs.Lines.{IsLine}
use Rattle.kernel_read.specs.declared.fault.KernelFault.{KernelFault}
use Rattle.kernel_read.specs.declared.fault.KernelFault.TheVariants as f
use Rattle.kernel_read.specs.declared.progress.Progress.{Progress}
use Rattle.kernel_read.specs.declared.steps.Step.{Step}
use Rattle.kernel_read.specs.declared.steps.Step.TheVariants as s

-- the number of the line behind so many, as a word
abbrev pub line_number : ℕ → ℕ
line_number lines = min (lines + 1) (2 ^ 64 - 1)

-- A text behind so many lines of comments is that of the kernel that is answered, and opens no bracket too deep; or it has a fault at
-- the line that is told.
abbrev pub IsAnswerFrom : ℕ → List ℕ → Result Kernel KernelFault → Type 0
IsAnswerFrom skipped text (Ok kernel) =
    IsReadable kernel × ((kernel_text kernel ≡ text) × (open_behind (Some 0) text ≢ None))
IsAnswerFrom skipped text (Err (f.KernelDepth line)) =
    (lines : ℕ) × ((line ≡ line_number (skipped + lines)) × IsDeep text lines)
IsAnswerFrom skipped text (Err (f.BadKernel line)) =
    (lines : ℕ) × ((line ≡ line_number (skipped + lines)) × IsBad text lines)
IsAnswerFrom skipped text (Err (f.Memory error)) = Unit {0}

-- Behind the comments in front stands such a text.
abbrev pub IsAnswer : List ℕ → Result Kernel KernelFault → Type 0
IsAnswer bytes answer =
    (comments : List ℕ) × ((text : List ℕ) × ((skipped : ℕ) × ((bytes ≡ comments ++ text) × (AreComments skipped comments
    × (HasNoComment text × IsAnswerFrom skipped text answer)))))

-- What stands in front of a text, where a kernel is read so far and so many brackets are open: a line that follows, a piece that opens
-- a bracket too deep, or one with which no kernel's text goes on.
abbrev pub StepFinds : Progress → ℕ → List ℕ → Step → Type 0
StepFinds before depth text (s.Line next inside count) =
    (count ≤ length text) × (IsLine (take count text) × (ProgressFits next × ((progress_text next ≡ progress_text before ++ take count text)
    × (open_behind (Some depth) (take count text) ≡ Some inside))))
StepFinds before depth text s.Deep =
    (piece : List ℕ) × ((behind : List ℕ) × ((text ≡ piece ++ behind) × (IsPiece piece behind × (open_behind (Some depth) piece ≡ None))))
StepFinds before depth text s.Bad =
    (piece : List ℕ) × ((behind : List ℕ) × ((text ≡ piece ++ behind) × (IsPiece piece behind × ((open_behind (Some depth) piece ≢ None)
    × ((IsLine piece → (kernel : Kernel) (more : List ℕ) → IsReadable kernel
    → kernel_text kernel ≡ progress_text before ++ (piece ++ more) → ⊥)
    × ((kernel : Kernel) → IsReadable kernel → kernel_text kernel ≡ progress_text before ++ text → ⊥))))))

-- what a text without a line feed is, where so many brackets are open
abbrev pub EndFinds : ℕ → List ℕ → Step → Type 0
EndFinds depth text (s.Line next inside count) = ⊥
EndFinds depth text s.Deep = open_behind (Some depth) text ≡ None
EndFinds depth text s.Bad = open_behind (Some depth) text ≢ None
