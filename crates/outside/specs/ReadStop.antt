-- What `read_through` feeds, and why it stops.
use Rattle.std.specs.Prelude.{Option, List, [], ◌∷◌, ◌++◌, ◌≡◌, ◌≢◌, ◌⊎◌}
use Rattle.std.specs.Prelude.{ℕ, ◌+◌, ◌<◌, ◌≤◌, length, take, ⊤, None, Some}
use Rattle.outside.specs.Told.{NoFile, told_bytes}
use Rattle.outside.specs.Count.{Rose, Rises}
use Rattle.outside.specs.Given.{extended}
use Rattle.outside.specs.Folder.{FolderState, KeepsWriting, FailsToRead, Reads, WantsMemory, IsAtEnd, before_rest}
use Rattle.outside.specs.declared.refusal.ReadStop.{ReadStop}
use Rattle.outside.specs.declared.refusal.ReadStop.TheVariants.{ReadFault, FileBytes, Memory}

-- the bytes are all of the text, where it is told
abbrev pub IsAll : Option (List ℕ) → List ℕ → Type 0
IsAll None fed = ⊤
IsAll (Some text) fed = text ≡ fed

-- the text is longer than n, where it is told
abbrev pub IsLonger : Option (List ℕ) → ℕ → Type 0
IsLonger None n = ⊤
IsLonger (Some text) n = n < length text

-- the eater was fed the whole file: just the n bytes that reads gave of it, to its end
pub record FeedsWhole (old new : FolderState) (name : List ℕ) (budget : ℕ) (eaten eaten' : List ℕ) (n : ℕ) : Type 0 where
  pub fed : List ℕ
  pub eaten_is : eaten' ≡ eaten ++ fed
  pub count_is : n ≡ length fed
  pub given_is : new.given ≡ old.given ++ (name, fed) ∷ []
  pub all : IsAll (told_bytes (old.holds name)) fed
  pub present : old.holds name ≢ NoFile
  pub within : n ≤ budget
  pub taken_is : new.taken ≡ n
  pub reading_is : new.reading ≡ Some name
  pub at_end : IsAtEnd new.rest
  pub read_faults_are : new.read_faults ≡ old.read_faults
  pub faulted_is : new.faulted ≡ old.faulted
  pub wants_are : new.wants ≡ old.wants
  pub keeps_writing : KeepsWriting old new

-- the file wasn't opened, and nothing was fed
pub record FeedsNone (old new : FolderState) (eaten eaten' : List ℕ) : Type 0 where
  pub eaten_is : eaten' ≡ eaten
  pub given_is : new.given ≡ old.given

-- what was fed is a front of what reads gave of the file, and that is a front of what the file holds, where it is told
pub record FeedsFront (old new : FolderState) (name eaten eaten' : List ℕ) : Type 0 where
  pub fed : List ℕ
  pub more : List ℕ
  pub rest : Option (List ℕ)
  pub eaten_is : eaten' ≡ eaten ++ fed
  pub taken_is : new.taken ≡ length (fed ++ more)
  pub given_is : new.given ≡ old.given ++ (name, fed ++ more) ∷ []
  pub told_is : told_bytes (old.holds name) ≡ before_rest (fed ++ more) rest

-- the count of read faults rose, and the last fault was about this name
pub record IsFaultOf (name : List ℕ) (old new : FolderState) : Type 0 where
  pub rose : Rose old.read_faults new.read_faults
  pub faulted_is : new.faulted ≡ Some name

-- reading failed in this call, or the folder tells that there is no such file
pub record StopsAtFault (old new : FolderState) (name : List ℕ) (budget : ℕ) (eaten eaten' : List ℕ) : Type 0 where
  pub cause : IsFaultOf name old new ⊎ (old.holds name ≡ NoFile)
  pub feeds : FeedsNone old new eaten eaten' ⊎ FeedsFront old new name eaten eaten'
  pub under : new.taken ≤ budget
  pub grows : old.read_faults ≤ new.read_faults
  pub wants_are : new.wants ≡ old.wants
  pub keeps_writing : KeepsWriting old new

-- more bytes than the budget were taken
pub record StopsAtBudget (old new : FolderState) (name : List ℕ) (budget : ℕ) (eaten eaten' : List ℕ) : Type 0 where
  pub over : budget < new.taken
  pub longer : IsLonger (told_bytes (old.holds name)) budget
  pub feeds : FeedsFront old new name eaten eaten'
  pub present : old.holds name ≢ NoFile
  pub read_faults_are : new.read_faults ≡ old.read_faults
  pub faulted_is : new.faulted ≡ old.faulted
  pub wants_are : new.wants ≡ old.wants
  pub keeps_writing : KeepsWriting old new

-- the folder wanted memory
pub record FolderWants (old new : FolderState) (name eaten eaten' : List ℕ) : Type 0 where
  pub rises : Rises old.wants new.wants
  pub feeds : FeedsNone old new eaten eaten' ⊎ FeedsFront old new name eaten eaten'

-- the eater refused a piece, and nothing was fed after that
pub record EaterRefuses {E : Type 0} (eaten : E → List ℕ) (refused : E → List ℕ → E → Type 0)
    (old new : FolderState) (name : List ℕ) (eater eater' : E) : Type 0 where
  pub before : E
  pub piece : List ℕ
  pub feeds : FeedsFront old new name (eaten eater) (eaten before)
  pub refuses : refused before piece eater'
  pub wants_are : new.wants ≡ old.wants

-- the folder or the eater wanted memory
pub record StopsForMemory {E : Type 0} (eaten : E → List ℕ) (refused : E → List ℕ → E → Type 0)
    (old new : FolderState) (name : List ℕ) (eater eater' : E) : Type 0 where
  pub cause : FolderWants old new name (eaten eater) (eaten eater') ⊎ EaterRefuses eaten refused old new name eater eater'
  pub read_faults_are : new.read_faults ≡ old.read_faults
  pub faulted_is : new.faulted ≡ old.faulted
  pub keeps_writing : KeepsWriting old new

-- why the reading of a file stopped before its end, and what was fed until then
abbrev pub StopsReading : {E : Type 0} (eaten : E → List ℕ) (refused : E → List ℕ → E → Type 0)
    (old new : FolderState) (name : List ℕ) (budget : ℕ) (eater eater' : E) → ReadStop → Type 0
StopsReading eaten refused old new name budget eater eater' ReadFault = StopsAtFault old new name budget (eaten eater) (eaten eater')
StopsReading eaten refused old new name budget eater eater' FileBytes = StopsAtBudget old new name budget (eaten eater) (eaten eater')
StopsReading eaten refused old new name budget eater eater' (Memory e) = StopsForMemory eaten refused old new name eater eater'

-- the next n bytes of the file being read were read and fed, and all else is as before
pub record Feeds (old new : FolderState) (eaten eaten' : List ℕ) (n : ℕ) : Type 0 where
  pub fed : List ℕ
  pub eaten_is : eaten' ≡ eaten ++ fed
  pub count_is : n ≡ length fed
  pub rest_is : old.rest ≡ before_rest fed new.rest
  pub taken_is : new.taken ≡ old.taken + n
  pub given_is : new.given ≡ extended old.given fed
  pub reading_is : new.reading ≡ old.reading
  pub read_faults_are : new.read_faults ≡ old.read_faults
  pub faulted_is : new.faulted ≡ old.faulted
  pub wants_are : new.wants ≡ old.wants
  pub keeps_writing : KeepsWriting old new

-- n bytes were fed, no more than the budget, and then a read failed
pub record ReadFails (old new : FolderState) (budget : ℕ) (eaten eaten' : List ℕ) : Type 0 where
  pub mid : FolderState
  pub n : ℕ
  pub within : n ≤ budget
  pub feeds : Feeds old mid eaten eaten' n
  pub fails : FailsToRead mid new

-- n bytes were fed, and with the m bytes of the next piece they are more than the budget
pub record PieceIsOver (old new : FolderState) (budget : ℕ) (eaten eaten' : List ℕ) : Type 0 where
  pub mid : FolderState
  pub n : ℕ
  pub feeds : Feeds old mid eaten eaten' n
  pub buffer : List ℕ
  pub m : ℕ
  pub reads : Reads mid new buffer m
  pub over : budget < n + m

-- n bytes were fed, and then the folder wanted memory
pub record ReadWants (old new : FolderState) (eaten eaten' : List ℕ) : Type 0 where
  pub mid : FolderState
  pub n : ℕ
  pub feeds : Feeds old mid eaten eaten' n
  pub wants : WantsMemory mid new

-- n bytes were fed, and then the eater refused the m bytes of the next piece
pub record PieceIsRefused {E : Type 0} (eaten : E → List ℕ) (refused : E → List ℕ → E → Type 0)
    (old new : FolderState) (eater eater' : E) : Type 0 where
  pub mid : FolderState
  pub before : E
  pub n : ℕ
  pub feeds : Feeds old mid (eaten eater) (eaten before) n
  pub buffer : List ℕ
  pub m : ℕ
  pub reads : Reads mid new buffer m
  pub refuses : refused before (take m buffer) eater'

-- how the reading of an open file stops before its end
abbrev pub Stops : {E : Type 0} (eaten : E → List ℕ) (refused : E → List ℕ → E → Type 0)
    (old new : FolderState) (budget : ℕ) (eater eater' : E) → ReadStop → Type 0
Stops eaten refused old new budget eater eater' ReadFault = ReadFails old new budget (eaten eater) (eaten eater')
Stops eaten refused old new budget eater eater' FileBytes = PieceIsOver old new budget (eaten eater) (eaten eater')
Stops eaten refused old new budget eater eater' (Memory e) =
    ReadWants old new (eaten eater) (eaten eater') ⊎ PieceIsRefused eaten refused old new eater eater'
