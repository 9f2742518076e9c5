-- What a folder shows after operands were read from it, and why a file is refused.
use Rattle.std.specs.Prelude.{◌≡◌, ℕ, ◌<◌, ◌≤◌, ◌⊎◌, List, [], ◌∷◌, ◌++◌}
use Rattle.std.specs.Prelude.{length, map, take, Some, slice_get, Result, Ok, Err, Vec}
use Rattle.std.specs.declared.alloc.Global.{Global}
use Rattle.limits.specs.Limits.{greatest_file_bytes}
use Rattle.outside.specs.Count.{Rose}
use Rattle.outside.specs.Folder.{FolderState, KeepsWriting}
use Rattle.outside.specs.Told.{Told, Untold, NoFile, Bytes, IfBytes}
use Rattle.tensor_map.specs.Entries.{Entries}
use Rattle.expr_terms.specs.declared.bound.Bound.{Bound}
use Rattle.mtx_io.specs.Matrix.{BadLine}
use Rattle.mtx_io.specs.Progress.{counted}
use Rattle.text_lines.specs.declared.line_kind.LineKind.{LineKind}
use Rattle.operand_files.specs.Decoded.{Operand}
use Rattle.operand_files.specs.declared.fault.FileStop.{FileStop}
use Rattle.operand_files.specs.declared.fault.FileStop.TheVariants as stop
use Rattle.operand_files.specs.declared.fault.OperandFault.{OperandFault}
use Rattle.operand_files.specs.declared.fault.OperandFault.TheVariants.{ReadFault, FileBytes, BadFile, Memory}

-- what the bytes of the file of a path stand for at an order
abbrev pub Decoding : Type 0
Decoding = ℕ → List ℕ → List ℕ → Result Operand BadLine

-- a file that was opened: its path, and the bytes that reads gave of it
abbrev pub Given : Type 0
Given = List ℕ × List ℕ

-- the bytes are the file's, where the folder tells it
abbrev pub IsToldText : Told → List ℕ → Type 0
IsToldText Untold bytes = Unit {0}
IsToldText NoFile bytes = ⊥
IsToldText (Bytes text) bytes = text ≡ bytes

-- the bytes are a front of the file's, where the folder tells it
abbrev pub IsToldFront : Told → List ℕ → Type 0
IsToldFront Untold bytes = Unit {0}
IsToldFront NoFile bytes = ⊥
IsToldFront (Bytes text) bytes = (rest : List ℕ) × (text ≡ bytes ++ rest)

-- all that belongs to writing is as before, and no count has fallen
pub record OnlyReads (old new : FolderState) : Type 0 where
  pub keeps_writing : KeepsWriting old new
  pub read_faults_grow : old.read_faults ≤ new.read_faults
  pub wants_grow : old.wants ≤ new.wants

-- nothing was counted: no read failed, and no memory was wanted by the folder
pub record CountsNothing (old new : FolderState) : Type 0 where
  pub read_faults_are : new.read_faults ≡ old.read_faults
  pub faulted_is : new.faulted ≡ old.faulted
  pub wants_are : new.wants ≡ old.wants

-- no read failed
pub record NoReadFails (old new : FolderState) : Type 0 where
  pub read_faults_are : new.read_faults ≡ old.read_faults
  pub faulted_is : new.faulted ≡ old.faulted

-- the bytes are the whole file, with no more bytes than may be
pub record IsWholeFile (told : Told) (bytes : List ℕ) : Type 0 where
  pub told_text : IsToldText told bytes
  pub short : length bytes ≤ greatest_file_bytes

-- the bytes are a front of the file, with more bytes than may be
pub record IsTooLong (told : Told) (bytes : List ℕ) : Type 0 where
  pub told_front : IsToldFront told bytes
  pub long : greatest_file_bytes < length bytes

-- the file has a bad line: the first has this kind and this number, as it is counted
pub record HasBadLine (what : Result Operand BadLine) (line : ℕ) (kind : LineKind) : Type 0 where
  pub number : ℕ
  pub line_is : line ≡ counted number
  pub bad : what ≡ Err (record { number = number; kind = kind })

-- reading this path failed in this call, or the folder tells that there is no such file
abbrev pub IsReadFault : FolderState → FolderState → List ℕ → Type 0
IsReadFault old new path = (Rose old.read_faults new.read_faults × (new.faulted ≡ Some path)) ⊎ (old.holds path ≡ NoFile)

-- the bytes are a front of what the folder tells, if it tells any
abbrev pub IsFront : Told → List ℕ → Type 0
IsFront told bytes = IfBytes told (λ text. (rest : List ℕ) × (text ≡ bytes ++ rest))

-- nothing was opened, or the file of this path alone
abbrev pub IsOpening : Told → List ℕ → List Given → Type 0
IsOpening told path last = (last ≡ []) ⊎ ((bytes : List ℕ) × (last ≡ (path, bytes) ∷ []) × IsFront told bytes)

-- each has no more bytes than may be
abbrev pub AreShort : List Given → Type 0
AreShort [] = Unit {0}
AreShort (file ∷ files) = (length file.1 ≤ greatest_file_bytes) × AreShort files

-- reads gave the whole of a file, and it stands for this operand
pub record IsOperand (means : Decoding) (order : ℕ) (told : Told) (path bytes : List ℕ) (operand : Operand) : Type 0 where
  pub whole : IsWholeFile told bytes
  pub stands_for : means order path bytes ≡ Ok operand

-- these operands, of these orders, are those of the files that reads gave, one for each
abbrev pub AreOperands : Decoding → (List ℕ → Told) → List ℕ → List Operand → List Given → Type 0
AreOperands means holds orders [] [] = Unit {0}
AreOperands means holds orders [] (file ∷ files) = ⊥
AreOperands means holds orders (operand ∷ operands) [] = ⊥
AreOperands means holds [] (operand ∷ operands) (file ∷ files) = ⊥
AreOperands means holds (order ∷ orders) (operand ∷ operands) (file ∷ files) =
    IsOperand means order (holds file.0) file.0 file.1 operand × AreOperands means holds orders operands files

-- the paths of files that were opened
abbrev pub paths_of : List Given → List (List ℕ)
paths_of files = map (λ file. file.0) files

-- the files that were opened are those of the first of these paths, in order, and their operands are these; what was opened
-- behind them is `last`
pub record AreRead (means : Decoding) (old new : FolderState) (orders : List ℕ) (paths : List (List ℕ)) (operands : List Operand)
    (last : List Given) : Type 0 where
  pub files : List Given
  pub given_is : new.given ≡ old.given ++ (files ++ last)
  pub in_order : paths_of files ≡ take (length files) paths
  pub are : AreOperands means old.holds orders operands files

-- so many operands were read, and these are their entries and their bounds
pub record HaveRead (means : Decoding) (old new : FolderState) (orders : List ℕ) (paths : List (List ℕ)) (count : ℕ)
    (entries : List Entries) (bounds : List (List Bound)) : Type 0 where
  pub operands : List Operand
  pub read : AreRead means old new orders paths operands []
  pub count_is : length operands ≡ count
  pub entries_are : entries ≡ map (λ operand. operand.entries) operands
  pub bounds_are : bounds ≡ map (λ operand. operand.bounds) operands
  pub quiet : CountsNothing old new

-- the operands before this path, of this order, are read, and it is the next; what was opened then is `last`
pub record IsNext (means : Decoding) (old new : FolderState) (orders : List ℕ) (paths : List (List ℕ)) (order : ℕ) (path : List ℕ)
    (last : List Given) : Type 0 where
  pub operands : List Operand
  pub read : AreRead means old new orders paths operands last
  pub next_order : slice_get orders (length operands) ≡ Some order
  pub next_path : slice_get paths (length operands) ≡ Some path

-- the files before this path are good, and reading it failed
pub record RefusedAtFault (means : Decoding) (old new : FolderState) (orders : List ℕ) (paths : List (List ℕ)) (path : List ℕ)
    : Type 0 where
  pub order : ℕ
  pub last : List Given
  pub next : IsNext means old new orders paths order path last
  pub last_is : IsOpening (old.holds path) path last
  pub short : AreShort last
  pub fault : IsReadFault old new path

-- the files before this path are good, and it has too many bytes
pub record RefusedAtLength (means : Decoding) (old new : FolderState) (orders : List ℕ) (paths : List (List ℕ))
    (path : List ℕ) : Type 0 where
  pub order : ℕ
  pub bytes : List ℕ
  pub next : IsNext means old new orders paths order path ((path, bytes) ∷ [])
  pub too_long : IsTooLong (old.holds path) bytes
  pub quiet : CountsNothing old new

-- the files before this path are good, it was read to its end, and this is its first bad line
pub record RefusedAtLine (means : Decoding) (old new : FolderState) (orders : List ℕ) (paths : List (List ℕ)) (path : List ℕ)
    (line : ℕ) (kind : LineKind) : Type 0 where
  pub order : ℕ
  pub bytes : List ℕ
  pub next : IsNext means old new orders paths order path ((path, bytes) ∷ [])
  pub whole : IsWholeFile (old.holds path) bytes
  pub bad : HasBadLine (means order path bytes) line kind
  pub quiet : CountsNothing old new

-- the files that were opened are those of the first of these paths, in order
pub record OpensFirst (old new : FolderState) (paths : List (List ℕ)) : Type 0 where
  pub files : List Given
  pub given_is : new.given ≡ old.given ++ files
  pub in_order : paths_of files ≡ take (length files) paths

-- why operands aren't read, and which files were opened until then
abbrev pub IsRefused : Decoding → FolderState → FolderState → List ℕ → List (List ℕ) → OperandFault → Type 0
IsRefused means old new orders paths (ReadFault path) = RefusedAtFault means old new orders paths path.now
IsRefused means old new orders paths (FileBytes path) = RefusedAtLength means old new orders paths path.now
IsRefused means old new orders paths (BadFile path line kind) = RefusedAtLine means old new orders paths path.now line kind
IsRefused means old new orders paths Memory = OpensFirst old new paths × NoReadFails old new

-- of one file: reads gave it whole, and it is an operand
pub record ReadsOperand (means : Decoding) (order : ℕ) (path : List ℕ) (old new : FolderState) (operand : Operand) : Type 0 where
  pub bytes : List ℕ
  pub given_is : new.given ≡ old.given ++ (path, bytes) ∷ []
  pub operand_is : IsOperand means order (old.holds path) path bytes operand
  pub quiet : CountsNothing old new

-- of one file: it was fed whole to an eater that had eaten nothing but what stands in front
pub record FeedsFile (path : List ℕ) (old new : FolderState) (eaten eaten' : List ℕ) : Type 0 where
  pub bytes : List ℕ
  pub eaten_is : eaten' ≡ eaten ++ bytes
  pub given_is : new.given ≡ old.given ++ (path, bytes) ∷ []
  pub whole : IsWholeFile (old.holds path) bytes
  pub quiet : CountsNothing old new

-- of one file: nothing was opened, or it alone
pub record MayOpen (path : List ℕ) (old new : FolderState) : Type 0 where
  pub last : List Given
  pub given_is : new.given ≡ old.given ++ last
  pub last_is : IsOpening (old.holds path) path last

-- of one file: reads gave more bytes than may be
pub record ReadsTooMuch (path : List ℕ) (old new : FolderState) : Type 0 where
  pub bytes : List ℕ
  pub given_is : new.given ≡ old.given ++ (path, bytes) ∷ []
  pub too_long : IsTooLong (old.holds path) bytes
  pub quiet : CountsNothing old new

-- of one file: reads gave it whole, and this is its first bad line
pub record ReadsBadLine (means : Decoding) (order : ℕ) (path : List ℕ) (old new : FolderState) (line : ℕ) (kind : LineKind) : Type 0 where
  pub bytes : List ℕ
  pub given_is : new.given ≡ old.given ++ (path, bytes) ∷ []
  pub whole : IsWholeFile (old.holds path) bytes
  pub bad : HasBadLine (means order path bytes) line kind
  pub quiet : CountsNothing old new

-- of one file: reading it failed, or it isn't there; it was opened alone, or nothing was
abbrev pub FailsToRead : List ℕ → FolderState → FolderState → Type 0
FailsToRead path old new = IsReadFault old new path × ((may : MayOpen path old new) × AreShort may.last)

-- of one file: memory was wanted, and no read failed
abbrev pub WantsMemory : List ℕ → FolderState → FolderState → Type 0
WantsMemory path old new = MayOpen path old new × NoReadFails old new

-- why a file isn't fed to its end
abbrev pub FileStops : List ℕ → FolderState → FolderState → FileStop → Type 0
FileStops path old new stop.ReadFault = FailsToRead path old new
FileStops path old new stop.FileBytes = ReadsTooMuch path old new
FileStops path old new stop.Memory = WantsMemory path old new

-- why one file isn't an operand
abbrev pub FileRefused : Decoding → ℕ → List ℕ → FolderState → FolderState → OperandFault → Type 0
FileRefused means order path old new (ReadFault at) = (at.now ≡ path) × FailsToRead path old new
FileRefused means order path old new (FileBytes at) = (at.now ≡ path) × ReadsTooMuch path old new
FileRefused means order path old new (BadFile at line kind) = (at.now ≡ path) × ReadsBadLine means order path old new line kind
FileRefused means order path old new Memory = WantsMemory path old new

-- the answer for a file that stands for this
abbrev pub DecodesTo : Result Operand BadLine → List ℕ → Result (Entries × Vec Bound Global) OperandFault → Type 0
DecodesTo what path (Ok operand) = what ≡ Ok (record { entries = operand.0; bounds = operand.1.items })
DecodesTo what path (Err (ReadFault at)) = ⊥
DecodesTo what path (Err (FileBytes at)) = ⊥
DecodesTo what path (Err (BadFile at line kind)) = (at.now ≡ path) × HasBadLine what line kind
DecodesTo what path (Err Memory) = Unit {0}
