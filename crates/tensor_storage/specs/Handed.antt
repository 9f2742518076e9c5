-- The levels of a kernel's result by the words that the kernel leaves of them.
use Rattle.std.specs.Prelude.{◌≡◌, ℕ, List, [], Some}
use Rattle.level_core.specs.declared.letter.Letter.{Letter}
use Rattle.level_core.specs.declared.span.Span.{Span}
use Rattle.level_core.specs.declared.arrays.LevelArray.{LevelArray}
use Rattle.level_core.specs.declared.arrays.LevelArray.TheVariants.{Ends as OfEnds, Width as OfWidth}
use Rattle.level_core.specs.declared.arrays.LevelArray.TheVariants.{Coordinates as OfCoordinates}
use Rattle.level_core.specs.Logs.{running}
use Rattle.hashed_level.specs.Hashed as hashed
use Rattle.seg_buffer.specs.Buffer.{buffer}
use Rattle.tensor_storage.specs.declared.level.StorageLevel.{StorageLevel}
pub use Rattle.tensor_storage.specs.declared.words.LevelWords.{LevelWords}
use Rattle.tensor_storage.specs.Levels.{meaning}

abbrev pub no_words : LevelWords
no_words = record { ends = buffer [] 0; width = buffer [] 0; coordinates = buffer [] 0 }

-- a level has these words in each array that it has beside its range: segment ends are the sums of the numbers of positions
pub record HasWords (words : LevelWords) (l : StorageLevel) : Type 0 where
  pub ends : (xs : List ℕ) → meaning.words l OfEnds ≡ Some xs → xs ≡ running 0 words.ends.items
  pub width : (xs : List ℕ) → meaning.words l OfWidth ≡ Some xs → xs ≡ words.width.items
  pub coordinates : (xs : List ℕ) → meaning.words l OfCoordinates ≡ Some xs → xs ≡ words.coordinates.items

-- a finished level of this kind and range, below so many parents, has these words
pub record IsHandedOver (letter : Letter) (size parents : ℕ) (words : LevelWords) (l : StorageLevel) : Type 0 where
  pub kind : meaning.kind l ≡ letter
  pub size_is : meaning.size l ≡ size
  pub has_parents : meaning.has_parents l parents
  pub words_are : HasWords words l

-- a hashed level of this range and so many prepared parents has these words: the width of its blocks, and its slots
pub record HasSlots (size parents : ℕ) (words : LevelWords) (l : hashed.Hashed) : Type 0 where
  pub size_is : l.size ≡ size
  pub has_parents : hashed.HasParents l parents
  pub width_is : hashed.width_words l.width ≡ words.width.items
  pub slots_are : l.slots ≡ words.coordinates.items

-- two levels that are the same but for their room
pub record AreAlike (l m : StorageLevel) : Type 0 where
  pub keeps : meaning.keeps m
  pub kind : meaning.kind m ≡ meaning.kind l
  pub size : meaning.size m ≡ meaning.size l
  pub width : meaning.width m ≡ meaning.width l
  pub words : (array : LevelArray) → meaning.words m array ≡ meaning.words l array
  pub has_parents : (parents : ℕ) → meaning.has_parents l parents → meaning.has_parents m parents
  pub allowed : (s : Span) → meaning.allowed l s → meaning.allowed m s
  pub back : (s : Span) → meaning.allowed m s → meaning.allowed l s
  pub segments : (s : Span) → meaning.segment_of m s ≡ meaning.segment_of l s
  pub entries : (s : Span) → meaning.entries m s ≡ meaning.entries l s
