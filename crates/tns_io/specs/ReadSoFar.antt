-- What a reader of `.tns` files keeps of the lines that it has read.
use Rattle.std.specs.Prelude.{◌≡◌, ℕ, false, List, [], ◌∷◌, ◌++◌, Ok, Option, Some, None, Bool, true}
use Rattle.tensor_map.specs.Entries.{Entry}
use Rattle.text_lines.specs.Cutting.{has_long_line, told_lines}
use Rattle.text_lines.specs.LineReader.{LineReader}
use Rattle.tns_io.specs.Reading.{Reading, entries_from}
use Rattle.tns_io.specs.Reading.Reading.{Skipped, Read, Bad}
use Rattle.tns_io.specs.TnsReader.{IsBadText, EndsEntry}
use Rattle.text_lines.specs.declared.line_kind.LineKind.{LineKind}
use Rattle.tns_io.specs.declared.file_fault.FileFault.{FileFault}
use Rattle.tns_io.specs.declared.file_fault.FileFault.TheVariants.{Line, Memory}

-- the entries of the lines that have ended, of which none is bad
pub record IsReadSoFar (signed : Bool) (order : ℕ) (text : List ℕ) (list : List Entry) : Type 0 where
  pub short : has_long_line text ≡ false
  pub read : entries_from signed order 1 (told_lines text) ≡ Ok list

-- however the text goes on, its first bad line is this one
abbrev pub StaysBad : Bool → ℕ → List ℕ → ℕ → LineKind → Type 0
StaysBad signed order text line kind = (more : List ℕ) → IsBadText signed order (text ++ more) line kind

-- a line was read: no entry or one more
abbrev pub Takes : Reading → List Entry → List Entry → Type 0
Takes Skipped old new = new ≡ old
Takes (Read entry) old new = new ≡ old ++ entry ∷ []
Takes (Bad kind) old new = ⊥

-- a line was not read: it is bad, or there is no memory for its entry
abbrev pub Fails : ℕ → Reading → FileFault → Type 0
Fails number r (Line line kind) = (line ≡ number) × (r ≡ Bad kind)
Fails number r (Memory e) = (entry : Entry) × (r ≡ Read entry)

-- the lines of a piece, so far: those that have ended in it, what is left, and the entries
pub record ReadsPiece (signed : Bool) (order : ℕ) (start piece : List ℕ) (lines : LineReader) (rest : List ℕ) (list : List Entry)
    : Type 0 where
  pub ended : List (List ℕ)
  pub told : told_lines lines.text ≡ told_lines start ++ ended
  pub text : lines.text ++ rest ≡ start ++ piece
  pub start_short : has_long_line start ≡ false
  pub so_far : IsReadSoFar signed order lines.text list

-- why a piece was not read to its end
abbrev pub FailsPiece : Bool → ℕ → List ℕ → List ℕ → FileFault → Type 0
FailsPiece signed order start piece (Line line kind) = StaysBad signed order (start ++ piece) line kind
FailsPiece signed order start piece (Memory e) = EndsEntry signed order start piece

-- whether memory was wanted
abbrev pub is_want : Option FileFault → Bool
is_want None = false
is_want (Some (Line line kind)) = false
is_want (Some (Memory e)) = true
