-- What the files that a folder tells stand for together: an answer that depends on nothing else.
use Rattle.std.specs.Prelude.{ℕ, ◌≤◌, List, [], ◌∷◌, length, Result, Ok, Err}
use Rattle.limits.specs.Limits.{greatest_file_bytes}
use Rattle.outside.specs.Told.{Told, Untold, NoFile, Bytes}
use Rattle.mtx_io.specs.Matrix.{BadLine}
use Rattle.text_lines.specs.declared.line_kind.LineKind.{LineKind}
use Rattle.operand_files.specs.Decoded.{Operand}
use Rattle.operand_files.specs.Reads.{Decoding}
use Rattle.operand_files.specs.declared.fault.OperandFault.{OperandFault}
use Rattle.operand_files.specs.declared.fault.OperandFault.TheVariants.{ReadFault, FileBytes, BadFile, Memory}

-- the folder tells a file, with no more bytes than may be
abbrev pub IsTold : Told → Type 0
IsTold Untold = ⊥
IsTold NoFile = ⊥
IsTold (Bytes bytes) = length bytes ≤ greatest_file_bytes

-- and so of each of these paths
abbrev pub AreTold : (List ℕ → Told) → List (List ℕ) → Type 0
AreTold holds [] = Unit {0}
AreTold holds (path ∷ paths) = IsTold (holds path) × AreTold holds paths

-- the bytes that are told
abbrev pub bytes_in : Told → List ℕ
bytes_in Untold = []
bytes_in NoFile = []
bytes_in (Bytes bytes) = bytes

-- a bad line: its file, its number there, counted from 1, and what is wrong with it
pub record BadFileLine : Type 0 where
  pub path : List ℕ
  pub number : ℕ
  pub kind : LineKind

-- the operand of a file before those of others, or the first bad line
abbrev pub before_others : List ℕ → Result Operand BadLine → Result (List Operand) BadFileLine → Result (List Operand) BadFileLine
before_others path (Err bad) others = Err (record { path = path; number = bad.number; kind = bad.kind })
before_others path (Ok operand) (Err bad) = Err bad
before_others path (Ok operand) (Ok operands) = Ok (operand ∷ operands)

-- the operands of these files, or the first bad line of the first file that has one
abbrev pub told_operands : Decoding → (List ℕ → Told) → List ℕ → List (List ℕ) → Result (List Operand) BadFileLine
told_operands means holds [] paths = Ok []
told_operands means holds (order ∷ orders) [] = Ok []
told_operands means holds (order ∷ orders) (path ∷ paths) =
    before_others path (means order path (bytes_in (holds path))) (told_operands means holds orders paths)

-- a bad line, or want of memory
abbrev pub IsBadFileOrWant : OperandFault → Type 0
IsBadFileOrWant (ReadFault path) = ⊥
IsBadFileOrWant (FileBytes path) = ⊥
IsBadFileOrWant (BadFile path line kind) = Unit {0}
IsBadFileOrWant Memory = Unit {0}
