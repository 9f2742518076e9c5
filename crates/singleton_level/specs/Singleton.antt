-- A singleton level: one coordinate for each position of the level above, at the same position.
use Rattle.std.specs.Prelude.{◌≡◌, ◌≢◌, ℕ, ◌≤◌, Bool, List, [], length, replicate, Option, Some, None}
use Rattle.limits.specs.Limits.{greatest_position_count}
use Rattle.level_core.specs.declared.span.Span.{Span}
use Rattle.level_core.specs.declared.span.Entry.{Entry}
use Rattle.level_core.specs.declared.letter.Letter.{Letter}
use Rattle.level_core.specs.declared.letter.Letter.TheVariants.{Singleton, SingletonGroups}
use Rattle.level_core.specs.declared.stage.Stage.{Stage}
use Rattle.level_core.specs.declared.stage.Stage.TheVariants.{Fresh, Unfinished, Finished}
use Rattle.level_core.specs.declared.arrays.LevelArray.{LevelArray}
use Rattle.level_core.specs.declared.arrays.LevelArray.TheVariants.{Coordinates as OfCoordinates}
use Rattle.level_core.specs.Logs.{Log, Rises, slice, entries_between}
use Rattle.level_core.specs.GroupLaws.{CoordsBelow}
use Rattle.level_core.specs.Meaning.{Arrays, Meaning}
use Rattle.coordinate_lists.specs.Letters.{letter_by}
use Rattle.coordinate_lists.specs.Spans.{Within}
use Rattle.kernel_code.specs.declared.syntax.Arr.TheVariants.{Coordinates}

-- the range, whether each coordinate stands once below a parent, how far it is made, for how many parents, the coordinates, and
-- the room for more
pub record SingletonLevel : Type 0 where
  pub size : ℕ
  pub unique : Bool
  pub stage : Stage
  pub parents : ℕ
  pub coords : List ℕ
  pub spare : ℕ

abbrev pub stored : ℕ → Bool → Stage → ℕ → List ℕ → ℕ → SingletonLevel
stored size unique stage parents coords spare =
    record { size = size; unique = unique; stage = stage; parents = parents; coords = coords; spare = spare }

abbrev pub letter_of : Bool → Letter
letter_of = letter_by Singleton SingletonGroups

-- each parent has one position
abbrev pub log_with : Stage → List ℕ → ℕ → Log
log_with stage coords parents = record { stage = stage; coords = coords; counts = replicate parents 1; next = 0 }

abbrev pub log_of : SingletonLevel → Log
log_of l = log_with l.stage l.coords l.parents

-- a level without parents
abbrev pub fresh : ℕ → Bool → SingletonLevel
fresh n unique = record { size = n; unique = unique; stage = Fresh; parents = 0; coords = []; spare = 0 }

-- the rules of singleton levels: the limits, coordinates below the range, and one for each parent once the level is finished
pub record KeepsRules (l : SingletonLevel) : Type 0 where
  pub small : l.size ≤ greatest_position_count
  pub few : length l.coords ≤ greatest_position_count
  pub below : CoordsBelow l.size l.coords
  pub given : l.stage ≡ Finished → length l.coords ≡ l.parents

-- a finished level of so many parents
pub record HasParents (l : SingletonLevel) (parents : ℕ) : Type 0 where
  pub keeps : KeepsRules l
  pub finished : l.stage ≡ Finished
  pub count : l.parents ≡ parents

-- a parent is any positions that have coordinates, and these keep the order; a level that is unfinished has none
pub record IsAllowed (l : SingletonLevel) (parent : Span) : Type 0 where
  pub keeps : KeepsRules l
  pub readable : l.stage ≢ Unfinished
  pub within : Within l.coords parent
  pub rise : Rises l.unique 0 (slice l.coords parent)

-- the positions are those of the parent
abbrev pub segment_of : SingletonLevel → Span → Span
segment_of l parent = parent

abbrev pub entries_of : SingletonLevel → Span → List Entry
entries_of l parent = entries_between l.coords parent

-- the array of a level
abbrev pub Holds : SingletonLevel → ℕ → ℕ → Arrays → Type 0
Holds l tensor level arrays = arrays (Coordinates tensor level) ≡ Some l.coords

-- the words of it
abbrev pub words_of : SingletonLevel → LevelArray → Option (List ℕ)
words_of l OfCoordinates = Some l.coords
words_of l _ = None

abbrev pub meaning : Meaning SingletonLevel
meaning = record {
  kind = λ l. letter_of l.unique;
  keeps = KeepsRules;
  size = λ l. l.size;
  width = λ l. None;
  holds = Holds;
  words = words_of;
  has_parents = HasParents;
  positions = λ l parents. length l.coords;
  allowed = IsAllowed;
  segment_of = segment_of;
  entries = entries_of;
  log = log_of;
  prepared = λ l parents most m. ⊥;
  inserted = λ l parent x slot m. ⊥;
}
