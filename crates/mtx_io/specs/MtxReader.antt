-- What contracts see of a reader of Matrix Market files, and what it answers.
use Rattle.std.specs.Prelude.{◌≡◌, ℕ, ◌<◌, Bool, true, false, not, List, [], ◌∷◌}
use Rattle.std.specs.Prelude.{◌++◌, length, filter, drop, Result, Ok, Err, ◌⊎◌}
use Rattle.numbers.specs.Arithmetic.{Arithmetic}
use Rattle.tensor_map.specs.Entries.{Entries}
use Rattle.text_lines.specs.Cutting.{ended_lines}
use Rattle.mtx_io.specs.Matrix.{BadLine, Matrix, is_skipped, matrix_from, matrix_of_text}
use Rattle.mtx_io.specs.Progress.{counted}
use Rattle.mtx_io.specs.declared.file_fault.FileFault.{FileFault}
use Rattle.mtx_io.specs.declared.file_fault.FileFault.TheVariants.{Line, Memory}
use Rattle.text_lines.specs.declared.line_kind.LineKind.{LineKind}
use Rattle.text_lines.specs.declared.line_kind.LineKind.TheVariants.{Truncated}

pub record MtxReader : Type 0 where
  -- the order of the tensor that the matrix is read as
  pub order : ℕ
  -- the bytes that it was fed so far
  pub text : List ℕ
  -- whether a call wanted memory
  pub wants : Bool

-- what it was given: the order, and then the bytes. So whoever lets a file be fed to it knows its order afterwards
abbrev pub given_to : MtxReader → List ℕ
given_to reader = reader.order ∷ reader.text

-- of these lines those behind the banner that aren't skipped
abbrev pub kept_lines : List (List ℕ) → List (List ℕ)
kept_lines taken = filter (λ line. not (is_skipped line)) (drop 1 taken)

-- the entry lines: they come behind the size line
abbrev pub entry_lines : List (List ℕ) → List (List ℕ)
entry_lines taken = drop 1 (kept_lines taken)

-- none of the lines is bad: at most others are still due
abbrev pub IsGoodSoFar : Result Matrix BadLine → Type 0
IsGoodSoFar (Ok matrix) = Unit {0}
IsGoodSoFar (Err bad) = bad.kind ≡ Truncated

-- an entry's line, which may have begun before the piece, ends in it, and neither it nor a line before it is bad
pub record EndsEntry (a : Arithmetic) (has_minus signed : Bool) (order : ℕ) (text piece : List ℕ) : Type 0 where
  pub before : List (List ℕ)
  pub line : List ℕ
  pub behind : List (List ℕ)
  pub lines_are : ended_lines (text ++ piece) ≡ ended_lines text ++ (before ++ line ∷ behind)
  pub entry : length (entry_lines (ended_lines text ++ before)) < length (entry_lines ((ended_lines text ++ before) ++ line ∷ []))
  pub good : IsGoodSoFar (matrix_from a has_minus signed order 1 ((ended_lines text ++ before) ++ line ∷ []))

-- a piece was refused: memory was wanted before, or an entry's line ends in it
pub record WantsMemory (a : Arithmetic) (has_minus signed : Bool) (old : MtxReader) (piece : List ℕ) (new : MtxReader) : Type 0 where
  pub wants : new.wants ≡ true
  pub order_is : new.order ≡ old.order
  pub text_is : new.text ≡ old.text ++ piece
  pub cause : (old.wants ≡ true) ⊎ EndsEntry a has_minus signed old.order old.text piece

-- the first bad line is of this kind and has this number, or the greatest one of 64 bits where it has a greater
pub record IsBadText (a : Arithmetic) (has_minus signed : Bool) (order : ℕ) (text : List ℕ) (line : ℕ) (kind : LineKind) : Type 0 where
  pub number : ℕ
  pub line_is : line ≡ counted number
  pub bad : matrix_of_text a has_minus signed order text ≡ Err (record { number = number; kind = kind })

-- why a text is refused at its end
abbrev pub Refuses : Arithmetic → Bool → Bool → MtxReader → FileFault → Type 0
Refuses a has_minus signed reader (Line line kind) = (reader.wants
    ≡ false) × IsBadText a has_minus signed reader.order reader.text line kind
Refuses a has_minus signed reader (Memory e) = (reader.wants ≡ true) ⊎ EndsEntry a has_minus signed reader.order reader.text (10 ∷ [])

-- the matrix that the text stands for: its entries, and the numbers of rows and columns
pub record IsRead (a : Arithmetic) (has_minus signed : Bool) (reader : MtxReader) (read : Entries × ℕ × ℕ) : Type 0 where
  pub wants : reader.wants ≡ false
  pub order_is : read.0.order ≡ reader.order
  pub matrix_is : matrix_of_text a has_minus signed reader.order reader.text ≡ Ok
      (record { rows = read.1; columns = read.2; entries = read.0.list })

-- a reader that was fed this text and has wanted no memory
abbrev pub read_to : ℕ → List ℕ → MtxReader
read_to order text = record { order = order; text = text; wants = false }
