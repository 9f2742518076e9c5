-- A compressed level: coordinates in the order of positions, and where each parent's positions end.
use Rattle.std.specs.Prelude.{◌≡◌, ◌≢◌, ℕ, ◌+◌, ◌-◌, ◌≤◌, ◌<◌}
use Rattle.std.specs.Prelude.{Bool, List, [], ◌∷◌, length, take, drop, Option, Some, None}
use Rattle.limits.specs.Limits.{greatest_position_count}
use Rattle.level_core.specs.declared.span.Span.{Span}
use Rattle.level_core.specs.declared.span.Entry.{Entry}
use Rattle.level_core.specs.declared.letter.Letter.{Letter}
use Rattle.level_core.specs.declared.letter.Letter.TheVariants.{Compressed, CompressedGroups}
use Rattle.level_core.specs.declared.stage.Stage.{Stage}
use Rattle.level_core.specs.declared.stage.Stage.TheVariants.{Fresh, Unfinished, Finished}
use Rattle.level_core.specs.declared.arrays.LevelArray.{LevelArray}
use Rattle.level_core.specs.declared.arrays.LevelArray.TheVariants.{Ends as OfEnds, Coordinates as OfCoordinates}
use Rattle.level_core.specs.Logs.{Log, total, running, NoneFrom, Rises, segment_in, entries_between}
use Rattle.level_core.specs.GroupLaws.{CoordsBelow}
use Rattle.level_core.specs.Meaning.{Arrays, Meaning}
use Rattle.coordinate_lists.specs.Letters.{letter_by}
use Rattle.kernel_code.specs.declared.syntax.Arr.TheVariants.{Ends, Coordinates}

-- the range, whether each coordinate stands once below a parent, what was appended, and the room for more
pub record CompressedLevel : Type 0 where
  pub size : ℕ
  pub unique : Bool
  pub log : Log
  pub spare : ℕ

abbrev pub letter_of : Bool → Letter
letter_of = letter_by Compressed CompressedGroups

abbrev pub steps_from : ℕ → List ℕ → List ℕ
steps_from x [] = []
steps_from x (y ∷ ys) = (y - x) ∷ steps_from y ys

-- how far apart numbers in a row are
abbrev pub differences : List ℕ → List ℕ
differences [] = []
differences (x ∷ xs) = steps_from x xs

-- the numbers of positions that a list of segment ends tells
abbrev pub counts_in : Stage → List ℕ → List ℕ
counts_in Fresh ends = drop 1 ends
counts_in Unfinished ends = drop 1 ends
counts_in Finished ends = differences ends

-- what stands in the array of segment ends: their numbers of positions behind a zero, and where the segments end once the level is finished
abbrev pub ends_of : Stage → List ℕ → List ℕ
ends_of Fresh counts = 0 ∷ counts
ends_of Unfinished counts = 0 ∷ counts
ends_of Finished counts = 0 ∷ running 0 counts

-- a list of segment ends is such a one
abbrev pub IsStored : Stage → List ℕ → Type 0
IsStored stage ends = ends ≡ ends_of stage (counts_in stage ends)

abbrev pub log_in : Stage → List ℕ → List ℕ → ℕ → Log
log_in stage ends coords next = record { stage = stage; coords = coords; counts = counts_in stage ends; next = next }

-- the level of some fields
abbrev pub stored : ℕ → Bool → Stage → List ℕ → List ℕ → ℕ → ℕ → CompressedLevel
stored size unique stage ends coords next spare =
    record { size = size; unique = unique; log = log_in stage ends coords next; spare = spare }

-- a level without parents
abbrev pub fresh : ℕ → Bool → CompressedLevel
fresh n unique = record { size = n; unique = unique; log = record { stage = Fresh; coords = []; counts = []; next = 0 }; spare = 0 }

-- the coordinates of each parent rise, those of the first standing first, and those that no parent has been given yet rise too
abbrev pub PartsRise : Bool → List ℕ → List ℕ → Type 0
PartsRise unique [] xs = Rises unique 0 xs
PartsRise unique (n ∷ ns) xs = Rises unique 0 (take n xs) × PartsRise unique ns (drop n xs)

-- the rules of compressed levels: the limits, coordinates below the range, an order below each parent, and positions given to
-- parents up to the next
pub record KeepsRules (l : CompressedLevel) : Type 0 where
  pub small : l.size ≤ greatest_position_count
  pub few : length l.log.coords ≤ greatest_position_count
  pub parents : length l.log.counts ≤ greatest_position_count
  pub below : CoordsBelow l.size l.log.coords
  pub rise : PartsRise l.unique l.log.counts l.log.coords
  pub given : total l.log.counts ≤ length l.log.coords
  pub ahead : NoneFrom l.log.next l.log.counts
  pub all_given : l.log.stage ≢ Unfinished → total l.log.counts ≡ length l.log.coords

-- a finished level of so many parents
pub record HasParents (l : CompressedLevel) (parents : ℕ) : Type 0 where
  pub keeps : KeepsRules l
  pub finished : l.log.stage ≡ Finished
  pub count : length l.log.counts ≡ parents

-- a parent is one position; a level that is unfinished has none
pub record IsAllowed (l : CompressedLevel) (parent : Span) : Type 0 where
  pub keeps : KeepsRules l
  pub finished : l.log.stage ≡ Finished
  pub single : parent.hi ≡ parent.lo + 1
  pub inside : parent.lo < length l.log.counts

abbrev pub segment_of : CompressedLevel → Span → Span
segment_of l parent = segment_in l.log.counts parent

abbrev pub entries_of : CompressedLevel → Span → List Entry
entries_of l parent = entries_between l.log.coords (segment_of l parent)

-- the arrays of a level
pub record Holds (l : CompressedLevel) (tensor level : ℕ) (arrays : Arrays) : Type 0 where
  pub ends : arrays (Ends tensor level) ≡ Some (ends_of l.log.stage l.log.counts)
  pub coords : arrays (Coordinates tensor level) ≡ Some l.log.coords

-- the words of each
abbrev pub words_of : CompressedLevel → LevelArray → Option (List ℕ)
words_of l OfEnds = Some (ends_of l.log.stage l.log.counts)
words_of l OfCoordinates = Some l.log.coords
words_of l _ = None

abbrev pub meaning : Meaning CompressedLevel
meaning = record {
  kind = λ l. letter_of l.unique;
  keeps = KeepsRules;
  size = λ l. l.size;
  width = λ l. None;
  holds = Holds;
  words = words_of;
  has_parents = HasParents;
  positions = λ l parents. length l.log.coords;
  allowed = IsAllowed;
  segment_of = segment_of;
  entries = entries_of;
  log = λ l. l.log;
  prepared = λ l parents most m. ⊥;
  inserted = λ l parent x slot m. ⊥;
}
