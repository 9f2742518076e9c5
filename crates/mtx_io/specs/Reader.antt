-- What a reader of Matrix Market files keeps.
use Rattle.std.specs.Prelude.{◌<◌, ◌≡◌, ℕ, ◌+◌, Bool, true, false, List, ◌++◌, length, Result, Ok, Err}
use Rattle.numbers.specs.Arithmetic.{Arithmetic}
use Rattle.tensor_map.specs.Entries.{Entry, Entries}
use Rattle.text_lines.specs.Cutting.{has_long_line, told_lines}
use Rattle.text_lines.specs.LineReader.{LineReader}
use Rattle.text_lines.specs.Tokens.{tokens}
use Rattle.mtx_io.specs.Entry.{PlacedValue}
use Rattle.mtx_io.specs.Matrix.{BadLine, Matrix, entry_due, matrix_from, matrix_of_text}
use Rattle.mtx_io.specs.MtxReader.{kept_lines}
use Rattle.mtx_io.specs.Progress.{told, rest_of, IsStage, IsMatrixOrder}
use Rattle.mtx_io.specs.declared.file_fault.FileFault.{FileFault}
use Rattle.mtx_io.specs.declared.file_fault.FileFault.TheVariants.{Line, Memory}
use Rattle.mtx_io.specs.declared.stage.Stage.{Stage}
use Rattle.mtx_io.specs.declared.stage.Stage.TheVariants.{First, Begun, Sized, Bad}

-- the lines told so far leave this to be read
abbrev pub Leaves : Arithmetic → Bool → Bool → ℕ → List (List ℕ) → List Entry → Stage → Type 0
Leaves a has_minus signed order taken entries stage =
    (more : List (List ℕ))
    → told (matrix_from a has_minus signed order 1 (taken ++ more))
    ≡ told (rest_of a has_minus signed order entries stage (length taken + 1) more)

-- lines that were read before a stage: the banner, and the size line
abbrev pub IsKnown : Stage → List (List ℕ) → Type 0
IsKnown First taken = Unit {0}
IsKnown (Begun banner) taken = 0 < length taken
IsKnown (Sized sized) taken = (0 < length taken) × (0 < length (kept_lines taken))
IsKnown (Bad line kind) taken = Unit {0}

-- no line is bad so far
abbrev pub ReadsOn : Arithmetic → Bool → Bool → ℕ → List ℕ → List ℕ → List Entry → Stage → Type 0
ReadsOn a has_minus signed order fed text entries stage =
    (text ≡ fed) × (has_long_line text
    ≡ false) × Leaves a has_minus signed order (told_lines text) entries stage × IsKnown stage (told_lines text)

-- what was fed is read as far as it goes, or has a bad line, however it goes on
abbrev pub IsReadSoFar : Arithmetic → Bool → Bool → ℕ → List ℕ → List ℕ → List Entry → Stage → Type 0
IsReadSoFar a has_minus signed order fed text entries First = ReadsOn a has_minus signed order fed text entries First
IsReadSoFar a has_minus signed order fed text entries (Begun banner) = ReadsOn a has_minus signed order fed text entries (Begun banner)
IsReadSoFar a has_minus signed order fed text entries (Sized sized) = ReadsOn a has_minus signed order fed text entries (Sized sized)
IsReadSoFar a has_minus signed order fed text entries (Bad line kind) =
    (more : List ℕ) → told (matrix_of_text a has_minus signed order (fed ++ more)) ≡ told (Err (record { number = line; kind = kind }))

-- whether a line was bad
abbrev pub is_bad : Stage → Bool
is_bad First = false
is_bad (Begun banner) = false
is_bad (Sized sized) = false
is_bad (Bad line kind) = true

-- a line tells an entry that is due
abbrev pub TellsEntry : Bool → Stage → List ℕ → Type 0
TellsEntry signed First line = ⊥
TellsEntry signed (Begun banner) line = ⊥
TellsEntry signed (Sized sized) line = (what : PlacedValue) × (Ok what ≡ entry_due signed sized.header sized.slots (tokens line))
TellsEntry signed (Bad bad kind) line = ⊥

-- what a file says, as a reader tells it
abbrev pub Tells : Result Matrix BadLine → ℕ → Result (Entries × ℕ × ℕ) FileFault → Type 0
Tells what order (Ok read) = (what ≡ Ok (record { rows = read.1; columns = read.2; entries = read.0.list })) × (read.0.order ≡ order)
Tells what order (Err (Line line kind)) = what ≡ Err (record { number = line; kind = kind })
Tells what order (Err (Memory e)) = ⊥

-- how far a reader is: where it never wanted memory, it has read what it was fed
pub record IsReading (a : Arithmetic) (has_minus signed : Bool) (entries : Entries) (fed : List ℕ) (lines : LineReader) (reached : Stage)
    (wants : Bool) : Type 0 where
  pub order : IsMatrixOrder entries.order
  pub stage : wants ≡ false → IsStage has_minus entries.order entries.list reached
  pub read : wants ≡ false → IsReadSoFar a has_minus signed entries.order fed lines.text entries.list reached
