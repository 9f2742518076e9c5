-- What contracts see of a sink, and what each of its calls does.
use Rattle.std.specs.Prelude.{Option, None, Some, ◌≡◌, ℕ, ◌<◌, ◌≤◌, Bool, true, false}
use Rattle.std.specs.Prelude.{List, [], ◌∷◌, ◌++◌, length, take, if◌then◌else◌}
use Rattle.std.specs.Str.{bytes_eq}
use Rattle.std.specs.Borrow.{GName}
use Rattle.outside.specs.Told.{Told, Untold, told_bytes}
use Rattle.outside.specs.Refusal.{IsCounted}
use Rattle.outside.specs.Folder.{FolderState, appended}
use Rattle.outside.specs.declared.refusal.Refusal.{Refusal}

-- what no call of a sink changes
pub record Beside : Type 0 where
  -- the names of the borrows that it writes through, the outermost first
  pub borrows : List GName
  -- where it writes to a folder's file, all of the folder that writing doesn't change
  pub folder : Option FolderState

-- it writes through no borrow and to no folder
abbrev pub alone : Beside
alone = record { borrows = []; folder = None }

pub record SinkState : Type 0 where
  -- the bytes that it was given so far, where it tells them
  pub written : Option (List ℕ)
  -- a `finish` is due: when it is made and after each Ok `write`, and no longer after an Ok `finish`
  pub unfinished : Bool
  -- how often a call failed, and how often it wanted memory: no count falls, and each stands still at 2^64 - 1
  pub faults : ℕ
  pub wants : ℕ
  pub beside : Beside

-- the first n bytes of the piece were appended: some, of a piece that isn't empty
pub record Takes (old new : SinkState) (piece : List ℕ) (n : ℕ) : Type 0 where
  pub within : n ≤ length piece
  pub progress : 0 < length piece → 0 < n
  pub written_is : new.written ≡ appended old.written (take n piece)
  pub unfinished_is : new.unfinished ≡ true
  pub faults_are : new.faults ≡ old.faults
  pub wants_are : new.wants ≡ old.wants
  pub beside_is : new.beside ≡ old.beside

-- nothing is kept back, and the text is whole
pub record Finishes (old new : SinkState) : Type 0 where
  pub written_is : new.written ≡ old.written
  pub unfinished_is : new.unfinished ≡ false
  pub faults_are : new.faults ≡ old.faults
  pub wants_are : new.wants ≡ old.wants
  pub beside_is : new.beside ≡ old.beside

-- the refusal was counted, and all else is as before: nothing was appended
pub record Refuses (old new : SinkState) (why : Refusal) : Type 0 where
  pub counted : IsCounted why old.faults new.faults old.wants new.wants
  pub written_is : new.written ≡ old.written
  pub unfinished_is : new.unfinished ≡ old.unfinished
  pub beside_is : new.beside ≡ old.beside

-- all is as before
pub record Stays (old new : SinkState) : Type 0 where
  pub written_is : new.written ≡ old.written
  pub unfinished_is : new.unfinished ≡ old.unfinished
  pub faults_are : new.faults ≡ old.faults
  pub wants_are : new.wants ≡ old.wants
  pub beside_is : new.beside ≡ old.beside

-- whether a `finish` is due behind a text: it is behind one that isn't empty, and else as before
abbrev pub due_after : List ℕ → Bool → Bool
due_after [] due = due
due_after (byte ∷ text) due = true

-- the whole text was appended, and no `finish` was made since
pub record Appends (old new : SinkState) (text : List ℕ) : Type 0 where
  pub written_is : new.written ≡ appended old.written text
  pub unfinished_is : new.unfinished ≡ due_after text old.unfinished
  pub faults_are : new.faults ≡ old.faults
  pub wants_are : new.wants ≡ old.wants
  pub beside_is : new.beside ≡ old.beside

-- the first n bytes of the text were appended, and then the sink refused
pub record AppendsFirst (old new : SinkState) (text : List ℕ) (n : ℕ) (why : Refusal) : Type 0 where
  pub counted : IsCounted why old.faults new.faults old.wants new.wants
  pub written_is : new.written ≡ appended old.written (take n text)
  pub beside_is : new.beside ≡ old.beside

-- the text but for this rest was appended
pub record AppendsSoFar (old new : SinkState) (text rest : List ℕ) : Type 0 where
  pub front : List ℕ
  pub text_is : text ≡ front ++ rest
  pub written_is : new.written ≡ appended old.written front
  pub unfinished_is : new.unfinished ≡ due_after front old.unfinished
  pub faults_are : new.faults ≡ old.faults
  pub wants_are : new.wants ≡ old.wants
  pub beside_is : new.beside ≡ old.beside

-- what contracts see of a sink that keeps bytes back: the lower sink's text and then these, and the lower sink's counts
abbrev pub batched : SinkState → GName → List ℕ → Bool → SinkState
batched lower borrow kept unfinished = record {
  written = appended lower.written kept;
  unfinished = unfinished;
  faults = lower.faults;
  wants = lower.wants;
  beside = record { borrows = borrow ∷ lower.beside.borrows; folder = lower.beside.folder };
}

-- what is told of a name, but nothing of the one being written
abbrev pub told_beside : Option (List ℕ) → List ℕ → Told → Told
told_beside None name told = told
told_beside (Some file) name told = if bytes_eq file name then Untold else told

-- a folder without what writing changes: the bytes of the file being written, whether that is unfinished, and the counts
abbrev pub beside_writing : FolderState → FolderState
beside_writing files = record files {
  holds = λ name. told_beside files.writing name (files.holds name);
  unfinished = false;
  write_faults = 0;
  wants = 0;
}

-- the bytes of the file being written, where they are told
abbrev pub told_written : Option (List ℕ) → (List ℕ → Told) → Option (List ℕ)
told_written None holds = None
told_written (Some file) holds = told_bytes (holds file)

-- what contracts see of a sink that writes to a folder's file
abbrev pub file_written : FolderState → GName → SinkState
file_written files borrow = record {
  written = told_written files.writing files.holds;
  unfinished = files.unfinished;
  faults = files.write_faults;
  wants = files.wants;
  beside = record { borrows = borrow ∷ []; folder = Some (beside_writing files) };
}
