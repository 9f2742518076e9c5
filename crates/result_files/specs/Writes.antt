-- What stands after a result was written, or its writing was refused.
use Rattle.std.specs.Prelude.{◌≡◌, ℕ, ◌⊎◌, Bool, false, List, ◌++◌, Option, Some, None}
use Rattle.numbers.specs.Arithmetic.{Arithmetic}
use Rattle.outside.specs.Count.{Rises}
use Rattle.outside.specs.Told.{told_bytes, emptied}
use Rattle.outside.specs.Folder.{FolderState, KeepsReading, KeepsOthers, appended}
use Rattle.outside.specs.Sink.{SinkState}
use Rattle.result_files.specs.ResultText.{IsResultText}
use Rattle.result_files.specs.declared.refusal.WriteRefusal.{WriteRefusal}
use Rattle.result_files.specs.declared.refusal.WriteRefusal.TheVariants.{Fault, Memory}

-- a fault counts one more fault, want of memory one more want, and the other count is as before
abbrev pub IsCause : WriteRefusal → (faults faults' wants wants' : ℕ) → Type 0
IsCause Fault faults faults' wants wants' = Rises faults faults' × (wants' ≡ wants)
IsCause (Memory e) faults faults' wants wants' = (faults' ≡ faults) × Rises wants wants'

-- the sink was given the text, keeps nothing of it back, and counted nothing
pub record PutsAll (old new : SinkState) (text : List ℕ) : Type 0 where
  pub written_is : new.written ≡ appended old.written text
  pub unfinished_is : new.unfinished ≡ false
  pub faults_are : new.faults ≡ old.faults
  pub wants_are : new.wants ≡ old.wants
  pub beside_is : new.beside ≡ old.beside

-- the sink was given a part of the text at its front, the whole where only the finish was refused, and counted why
pub record PutsFront (old new : SinkState) (text : List ℕ) (why : WriteRefusal) : Type 0 where
  pub front : List ℕ
  pub rest : List ℕ
  pub text_is : text ≡ front ++ rest
  pub written_is : new.written ≡ appended old.written front
  pub cause : IsCause why old.faults new.faults old.wants new.wants
  pub beside_is : new.beside ≡ old.beside

-- the file of this name was made or emptied, and holds these bytes, where the folder tells it
abbrev pub Holds : FolderState → FolderState → List ℕ → List ℕ → Type 0
Holds old new name bytes = told_bytes (new.holds name) ≡ appended (told_bytes (emptied (old.holds name))) bytes

-- the file of this name holds the text, nothing of it is kept back, and all other files are as before
pub record FillsFile (old new : FolderState) (name text : List ℕ) : Type 0 where
  pub holds_is : Holds old new name text
  pub others : KeepsOthers name old new
  pub writing_is : new.writing ≡ Some name
  pub unfinished_is : new.unfinished ≡ false
  pub write_faults_are : new.write_faults ≡ old.write_faults
  pub wants_are : new.wants ≡ old.wants
  pub keeps_reading : KeepsReading old new

-- nothing was made or emptied
pub record MakesNoFile (old new : FolderState) : Type 0 where
  pub holds_is : new.holds ≡ old.holds
  pub writing_is : new.writing ≡ old.writing
  pub unfinished_is : new.unfinished ≡ old.unfinished

-- the file holds a part of the text at its front, the whole where only the finish was refused
pub record HoldsFront (old new : FolderState) (name text : List ℕ) : Type 0 where
  pub front : List ℕ
  pub rest : List ℕ
  pub text_is : text ≡ front ++ rest
  pub holds_is : Holds old new name front
  pub writing_is : new.writing ≡ Some name

-- the folder counted why; the file of this name is as before, or holds a front of the text, and all other files are as before
pub record FailsToFill (old new : FolderState) (name text : List ℕ) (why : WriteRefusal) : Type 0 where
  pub stands : MakesNoFile old new ⊎ HoldsFront old new name text
  pub cause : IsCause why old.write_faults new.write_faults old.wants new.wants
  pub others : KeepsOthers name old new
  pub keeps_reading : KeepsReading old new

-- the text stands on the output, and the folder is as before; or with a path it stands in its file, and the output is as before
abbrev pub Puts : Option (List ℕ) → List ℕ → FolderState → FolderState → SinkState → SinkState → Type 0
Puts None text files files' out out' = (files' ≡ files) × PutsAll out out' text
Puts (Some name) text files files' out out' = FillsFile files files' name text × (out' ≡ out)

-- a front of the text stands there, and the other one is as before
abbrev pub PutsPart : Option (List ℕ) → List ℕ → FolderState → FolderState → SinkState → SinkState → WriteRefusal → Type 0
PutsPart None text files files' out out' why = (files' ≡ files) × PutsFront out out' text why
PutsPart (Some name) text files files' out out' why = FailsToFill files files' name text why × (out' ≡ out)

-- the result was written: its text is that of the tensor that has these values below the ranges
pub record WritesResult (a : Arithmetic) (signed : Bool) (path : Option (List ℕ)) (ranges : List ℕ) (value : List ℕ → ℕ)
    (files files' : FolderState) (out out' : SinkState) : Type 0 where
  pub text : List ℕ
  pub text_is : IsResultText a signed path ranges value text
  pub puts : Puts path text files files' out out'

-- its writing was refused
pub record RefusesResult (a : Arithmetic) (signed : Bool) (path : Option (List ℕ)) (ranges : List ℕ) (value : List ℕ → ℕ)
    (files files' : FolderState) (out out' : SinkState) (why : WriteRefusal) : Type 0 where
  pub text : List ℕ
  pub text_is : IsResultText a signed path ranges value text
  pub puts : PutsPart path text files files' out out' why
