-- What contracts see of a reader of `.tns` files, and what it answers.
use Rattle.std.specs.Prelude.{◌≡◌, ℕ, min, Bool, true, false, List, [], ◌∷◌, ◌++◌, Ok, Err, ◌⊎◌}
use Rattle.tensor_map.specs.Entries.{Entry, Entries}
use Rattle.text_lines.specs.Cutting.{ended_lines}
use Rattle.tns_io.specs.Reading.{is_entry_kind, reading, entries_from, entries_of_text}
use Rattle.tns_io.specs.Reading.Reading.{Read}
use Rattle.text_lines.specs.declared.line_kind.LineKind.{LineKind}
use Rattle.tns_io.specs.declared.file_fault.FileFault.{FileFault}
use Rattle.tns_io.specs.declared.file_fault.FileFault.TheVariants.{Line, Memory}

pub record TnsReader : Type 0 where
  -- the number of modes of the tensor
  pub order : ℕ
  -- the bytes that it was fed so far
  pub text : List ℕ
  -- whether a call wanted memory
  pub wants : Bool

-- what it was given: the order, and then the bytes. So whoever lets a file be fed to it knows its order afterwards
abbrev pub given_to : TnsReader → List ℕ
given_to reader = reader.order ∷ reader.text

-- an entry's line, which may have begun before the piece, ends in it, and no line before that is bad
pub record EndsEntry (signed : Bool) (order : ℕ) (text piece : List ℕ) : Type 0 where
  pub before : List (List ℕ)
  pub line : List ℕ
  pub behind : List (List ℕ)
  pub entry : Entry
  pub lines_are : ended_lines (text ++ piece) ≡ ended_lines text ++ (before ++ line ∷ behind)
  pub reads : reading signed order line ≡ Read entry
  pub list : List Entry
  pub good : entries_from signed order 1 (ended_lines text ++ before) ≡ Ok list

-- a piece was refused: memory was wanted before, or an entry's line ends in it
pub record WantsMemory (signed : Bool) (old : TnsReader) (piece : List ℕ) (new : TnsReader) : Type 0 where
  pub wants : new.wants ≡ true
  pub order_is : new.order ≡ old.order
  pub text_is : new.text ≡ old.text ++ piece
  pub cause : (old.wants ≡ true) ⊎ EndsEntry signed old.order old.text piece

-- the first bad line is of this kind and has this number, or the greatest one of 64 bits where it has a greater
pub record IsBadText (signed : Bool) (order : ℕ) (text : List ℕ) (line : ℕ) (kind : LineKind) : Type 0 where
  pub number : ℕ
  pub line_is : line ≡ min number 18446744073709551615
  pub bad : entries_of_text signed order text ≡ Err (record { number = number; kind = kind })

-- a refusal for a line is of a kind that a line of a `.tns` file may have
abbrev pub IsOfEntries : FileFault → Type 0
IsOfEntries (Line line kind) = is_entry_kind kind ≡ true
IsOfEntries (Memory e) = Unit {0}

-- why a text is refused at its end
abbrev pub Refuses : Bool → TnsReader → FileFault → Type 0
Refuses signed reader (Line line kind) = (reader.wants ≡ false) × IsBadText signed reader.order reader.text line kind
Refuses signed reader (Memory e) = (reader.wants ≡ true) ⊎ EndsEntry signed reader.order reader.text (10 ∷ [])

-- the entries that the text stands for
pub record IsRead (signed : Bool) (reader : TnsReader) (entries : Entries) : Type 0 where
  pub wants : reader.wants ≡ false
  pub order_is : entries.order ≡ reader.order
  pub list_is : entries_of_text signed reader.order reader.text ≡ Ok entries.list

-- a reader that was fed this text and has wanted no memory
abbrev pub read_to : ℕ → List ℕ → TnsReader
read_to order text = record { order = order; text = text; wants = false }
