-- What contracts see of a folder, and what each of its calls does.
use Rattle.std.specs.Prelude.{Option, None, Some, ◌≡◌, ◌≢◌, ℕ, ◌+◌, ◌<◌, ◌≤◌}
use Rattle.std.specs.Prelude.{Bool, true, false, List, [], ◌++◌, length, take, ⊤}
use Rattle.outside.specs.Told.{Told, NoFile, told_bytes, emptied, grown}
use Rattle.outside.specs.Count.{Rises}
use Rattle.outside.specs.Refusal.{IsCounted}
use Rattle.outside.specs.Given.{opened, extended}
use Rattle.outside.specs.declared.refusal.Refusal.{Refusal}
use Rattle.outside.specs.declared.refusal.Refusal.TheVariants.{Failed, Absent, Memory}

pub record FolderState : Type 0 where
  -- what it tells of a name: nothing, that there is no such file, or its bytes
  pub holds : List ℕ → Told
  -- the file being read: from an Ok `start_read` on, until a `start_read` answers Failed or Absent
  pub reading : Option (List ℕ)
  -- what is left of that file, where the folder tells it, and how many bytes reads took from it
  pub rest : Option (List ℕ)
  pub taken : ℕ
  -- of each file that was opened, in order, its name and the bytes that reads gave of it
  pub given : List (List ℕ × List ℕ)
  -- the name being written: there is none before the first Ok `start_write`
  pub writing : Option (List ℕ)
  -- a `start_write` or a `write` was Ok, and no `finish_write` since was Ok
  pub unfinished : Bool
  -- how often reading failed, and writing, and how often it wanted memory: no count falls, and each stands still at 2^64 - 1
  pub read_faults : ℕ
  pub write_faults : ℕ
  pub wants : ℕ
  -- the name that the last Failed of reading was about: the name given, or the name being read
  pub faulted : Option (List ℕ)

-- the bytes, and then the rest, where it is told
abbrev pub before_rest : List ℕ → Option (List ℕ) → Option (List ℕ)
before_rest bytes None = None
before_rest bytes (Some rest) = Some (bytes ++ rest)

-- told bytes, and then a piece
abbrev pub appended : Option (List ℕ) → List ℕ → Option (List ℕ)
appended None piece = None
appended (Some bytes) piece = Some (bytes ++ piece)

-- nothing is left, where the rest is told
abbrev pub IsAtEnd : Option (List ℕ) → Type 0
IsAtEnd None = ⊤
IsAtEnd (Some rest) = rest ≡ []

-- all that belongs to reading is as before
pub record KeepsReading (old new : FolderState) : Type 0 where
  pub reading_is : new.reading ≡ old.reading
  pub rest_is : new.rest ≡ old.rest
  pub taken_is : new.taken ≡ old.taken
  pub given_is : new.given ≡ old.given
  pub read_faults_are : new.read_faults ≡ old.read_faults
  pub faulted_is : new.faulted ≡ old.faulted

-- all that belongs to writing is as before, every file among it
pub record KeepsWriting (old new : FolderState) : Type 0 where
  pub holds_is : new.holds ≡ old.holds
  pub writing_is : new.writing ≡ old.writing
  pub unfinished_is : new.unfinished ≡ old.unfinished
  pub write_faults_are : new.write_faults ≡ old.write_faults

-- every file but that of this name is as before
abbrev pub KeepsOthers : List ℕ → FolderState → FolderState → Type 0
KeepsOthers name old new = (other : List ℕ) → other ≢ name → new.holds other ≡ old.holds other

-- no file is being read
pub record EndsReading (new : FolderState) : Type 0 where
  pub reading_is : new.reading ≡ None
  pub rest_is : new.rest ≡ None
  pub taken_is : new.taken ≡ 0

-- the folder wanted memory, and all else is as before
pub record WantsMemory (old new : FolderState) : Type 0 where
  pub rises : Rises old.wants new.wants
  pub keeps_reading : KeepsReading old new
  pub keeps_writing : KeepsWriting old new

-- the file is there and is read from its front, and nothing was read of it yet
pub record Opens (old new : FolderState) (name : List ℕ) : Type 0 where
  pub present : old.holds name ≢ NoFile
  pub reading_is : new.reading ≡ Some name
  pub rest_is : new.rest ≡ told_bytes (old.holds name)
  pub taken_is : new.taken ≡ 0
  pub given_is : new.given ≡ opened old.given name
  pub read_faults_are : new.read_faults ≡ old.read_faults
  pub faulted_is : new.faulted ≡ old.faulted
  pub wants_are : new.wants ≡ old.wants
  pub keeps_writing : KeepsWriting old new

-- the file, which isn't told to be absent, couldn't be opened, and none is read
pub record FailsToOpen (old new : FolderState) (name : List ℕ) : Type 0 where
  pub present : old.holds name ≢ NoFile
  pub ends_reading : EndsReading new
  pub given_is : new.given ≡ old.given
  pub rises : Rises old.read_faults new.read_faults
  pub faulted_is : new.faulted ≡ Some name
  pub wants_are : new.wants ≡ old.wants
  pub keeps_writing : KeepsWriting old new

-- there is no such file, and none is read
pub record FindsNoFile (old new : FolderState) (name : List ℕ) : Type 0 where
  pub absent : old.holds name ≡ NoFile
  pub ends_reading : EndsReading new
  pub given_is : new.given ≡ old.given
  pub read_faults_are : new.read_faults ≡ old.read_faults
  pub faulted_is : new.faulted ≡ old.faulted
  pub wants_are : new.wants ≡ old.wants
  pub keeps_writing : KeepsWriting old new

-- why a file isn't opened, and what stands then
abbrev pub RefusesToOpen : FolderState → FolderState → List ℕ → Refusal → Type 0
RefusesToOpen old new name Failed = FailsToOpen old new name
RefusesToOpen old new name Absent = FindsNoFile old new name
RefusesToOpen old new name (Memory e) = WantsMemory old new

-- the first n bytes of the buffer are the next of the file: none exactly at its end
pub record Reads (old new : FolderState) (buffer : List ℕ) (n : ℕ) : Type 0 where
  pub within : n ≤ length buffer
  pub rest_is : old.rest ≡ before_rest (take n buffer) new.rest
  pub ends : n ≡ 0 → IsAtEnd old.rest
  pub ended : old.rest ≡ Some [] → n ≡ 0
  pub taken_is : new.taken ≡ old.taken + n
  pub given_is : new.given ≡ extended old.given (take n buffer)
  pub reading_is : new.reading ≡ old.reading
  pub read_faults_are : new.read_faults ≡ old.read_faults
  pub faulted_is : new.faulted ≡ old.faulted
  pub wants_are : new.wants ≡ old.wants
  pub keeps_writing : KeepsWriting old new

-- the file being read couldn't be read on, and all else is as before
pub record FailsToRead (old new : FolderState) : Type 0 where
  pub rises : Rises old.read_faults new.read_faults
  pub faulted_is : new.faulted ≡ old.reading
  pub reading_is : new.reading ≡ old.reading
  pub rest_is : new.rest ≡ old.rest
  pub taken_is : new.taken ≡ old.taken
  pub given_is : new.given ≡ old.given
  pub wants_are : new.wants ≡ old.wants
  pub keeps_writing : KeepsWriting old new

-- why a file isn't read on, and what stands then
abbrev pub RefusesToRead : FolderState → FolderState → Refusal → Type 0
RefusesToRead old new Failed = FailsToRead old new
RefusesToRead old new Absent = ⊥
RefusesToRead old new (Memory e) = WantsMemory old new

-- the file of this name is made, or emptied, and is being written
pub record StartsFile (old new : FolderState) (name : List ℕ) : Type 0 where
  pub writing_is : new.writing ≡ Some name
  pub holds_is : new.holds name ≡ emptied (old.holds name)
  pub others : KeepsOthers name old new
  pub unfinished_is : new.unfinished ≡ true
  pub write_faults_are : new.write_faults ≡ old.write_faults
  pub wants_are : new.wants ≡ old.wants
  pub keeps_reading : KeepsReading old new

-- the first n bytes of the piece were appended to the file being written: some, of a piece that isn't empty
pub record WritesTo (old new : FolderState) (piece : List ℕ) (n : ℕ) : Type 0 where
  pub within : n ≤ length piece
  pub progress : 0 < length piece → 0 < n
  pub holds_is : (name : List ℕ) → old.writing ≡ Some name → new.holds name ≡ grown (old.holds name) (take n piece)
  pub others : (name : List ℕ) → old.writing ≡ Some name → KeepsOthers name old new
  pub writing_is : new.writing ≡ old.writing
  pub unfinished_is : new.unfinished ≡ true
  pub write_faults_are : new.write_faults ≡ old.write_faults
  pub wants_are : new.wants ≡ old.wants
  pub keeps_reading : KeepsReading old new

-- nothing of the file being written is kept back, and its text is whole
pub record FinishesFile (old new : FolderState) : Type 0 where
  pub holds_is : new.holds ≡ old.holds
  pub writing_is : new.writing ≡ old.writing
  pub unfinished_is : new.unfinished ≡ false
  pub write_faults_are : new.write_faults ≡ old.write_faults
  pub wants_are : new.wants ≡ old.wants
  pub keeps_reading : KeepsReading old new

-- the refusal was counted, and all else is as before: nothing was made, emptied or appended
pub record RefusesToWrite (old new : FolderState) (why : Refusal) : Type 0 where
  pub counted : IsCounted why old.write_faults new.write_faults old.wants new.wants
  pub holds_is : new.holds ≡ old.holds
  pub writing_is : new.writing ≡ old.writing
  pub unfinished_is : new.unfinished ≡ old.unfinished
  pub keeps_reading : KeepsReading old new

-- no file was opened or written yet, and no fault was about a name
pub record IsFresh (folder : FolderState) : Type 0 where
  pub reading_is : folder.reading ≡ None
  pub given_is : folder.given ≡ []
  pub writing_is : folder.writing ≡ None
  pub unfinished_is : folder.unfinished ≡ false
  pub faulted_is : folder.faulted ≡ None

-- no file is there, and nothing was counted
pub record IsEmpty (folder : FolderState) : Type 0 where
  pub absent : (name : List ℕ) → folder.holds name ≡ NoFile
  pub read_faults_are : folder.read_faults ≡ 0
  pub write_faults_are : folder.write_faults ≡ 0
  pub wants_are : folder.wants ≡ 0

-- what is read and written, and every count, are as before
pub record KeepsAllButFiles (old new : FolderState) : Type 0 where
  pub writing_is : new.writing ≡ old.writing
  pub unfinished_is : new.unfinished ≡ old.unfinished
  pub write_faults_are : new.write_faults ≡ old.write_faults
  pub wants_are : new.wants ≡ old.wants
  pub keeps_reading : KeepsReading old new
