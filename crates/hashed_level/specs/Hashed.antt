-- What a hashed level holds.
use Rattle.std.specs.Prelude.{◌≡◌, ◌≢◌, ℕ, ◌+◌, ◌*◌, ◌^◌, ◌≤◌, ◌<◌, List}
use Rattle.std.specs.Prelude.{[], ◌∷◌, Option, Some, None, length, replicate, slice_index}
use Rattle.std.specs.Prelude.{slice_set}
use Rattle.limits.specs.Limits.{greatest_position_count}
use Rattle.kernel_code.specs.declared.syntax.Arr.TheVariants.{Coordinates, Width}
use Rattle.level_core.specs.declared.span.Span.{Span}
use Rattle.level_core.specs.declared.span.Entry.{Entry}
use Rattle.level_core.specs.declared.letter.Letter.TheVariants.{Hashed as HashedLetter}
use Rattle.level_core.specs.declared.arrays.LevelArray.{LevelArray}
use Rattle.level_core.specs.declared.arrays.LevelArray.TheVariants.{Coordinates as OfCoordinates, Width as OfWidth}
use Rattle.level_core.specs.Entries.{span}
use Rattle.level_core.specs.Logs.{nothing_appended}
use Rattle.level_core.specs.Meaning.{Arrays, Meaning}
use Rattle.hashed_level.specs.Slots.{empty_slot, filled, KeepsBlock, FirstEmpty}
use Rattle.kernel_code.specs.Widths.{slot_width}

-- the range, the words of the slots, the width of a block once parents are prepared, and the number of parents
pub record Hashed : Type 0 where
  pub size : ℕ
  pub slots : List ℕ
  pub width : Option ℕ
  pub parents : ℕ

abbrev pub hashed : ℕ → List ℕ → Option ℕ → ℕ → Hashed
hashed size slots width parents = record { size = size; slots = slots; width = width; parents = parents }

-- the width of a block: 2 before any is prepared
abbrev pub width_or_two : Option ℕ → ℕ
width_or_two None = 2
width_or_two (Some w) = w

abbrev pub block_width : Hashed → ℕ
block_width l = width_or_two l.width

-- the words that the width is stored in
abbrev pub width_words : Option ℕ → List ℕ
width_words None = []
width_words (Some w) = w ∷ []

-- where a parent's block begins
abbrev pub base_of : Hashed → ℕ → ℕ
base_of l p = p * block_width l

-- the rules of hashed levels: a block for each parent within the limit, of a power of two of slots, and each block keeps its own
pub record KeepsRules (l : Hashed) : Type 0 where
  pub size : l.size ≤ greatest_position_count
  pub count : length l.slots ≡ l.parents * block_width l
  pub within : length l.slots ≤ greatest_position_count
  pub power : (k : ℕ) × (block_width l ≡ 2 ^ k)
  pub wide : 2 ≤ block_width l
  pub fresh : l.width ≡ None → l.parents ≡ 0
  pub blocks : (p : ℕ) → p < l.parents → KeepsBlock (slice_index l.slots) l.size (block_width l) (base_of l p)

-- the width and the slots are stored
pub record Holds (l : Hashed) (tensor level : ℕ) (arrays : Arrays) : Type 0 where
  pub width : arrays (Width tensor level) ≡ Some (width_words l.width)
  pub slots : arrays (Coordinates tensor level) ≡ Some l.slots

-- the words of each
abbrev pub words_of : Hashed → LevelArray → Option (List ℕ)
words_of l OfWidth = Some (width_words l.width)
words_of l OfCoordinates = Some l.slots
words_of l _ = None

-- so many parents were prepared
pub record HasParents (l : Hashed) (parents : ℕ) : Type 0 where
  pub rules : KeepsRules l
  pub prepared : l.width ≢ None
  pub count : l.parents ≡ parents

-- one prepared parent of a level that keeps the rules
pub record IsAllowed (l : Hashed) (parent : Span) : Type 0 where
  pub rules : KeepsRules l
  pub one_parent : parent.hi ≡ parent.lo + 1
  pub prepared : parent.lo < l.parents

abbrev pub segment_of : Hashed → Span → Span
segment_of l parent = span (base_of l parent.lo) (base_of l parent.lo + block_width l)

abbrev pub entries_of : Hashed → Span → List Entry
entries_of l parent = filled (slice_index l.slots) (block_width l) (base_of l parent.lo)

-- so many parents without entries
abbrev pub with_blocks : Hashed → ℕ → ℕ → Hashed
with_blocks l parents most = hashed l.size (replicate (parents * slot_width most) empty_slot) (Some (slot_width most)) parents

abbrev pub Prepared : Hashed → ℕ → ℕ → Hashed → Type 0
Prepared l parents most m = m ≡ with_blocks l parents most

-- the level with a coordinate in a slot
abbrev pub with_coordinate : Hashed → ℕ → ℕ → Hashed
with_coordinate l x slot = hashed l.size (slice_set l.slots slot x) l.width l.parents

-- a coordinate was put in the first empty slot from where it is sought on
pub record Inserted (l : Hashed) (parent x slot : ℕ) (m : Hashed) : Type 0 where
  pub first : FirstEmpty (slice_index l.slots) (block_width l) (base_of l parent) x slot
  pub level : m ≡ with_coordinate l x slot

abbrev pub meaning : Meaning Hashed
meaning = record {
  kind = λ l. HashedLetter;
  keeps = KeepsRules;
  size = λ l. l.size;
  width = λ l. l.width;
  holds = Holds;
  words = words_of;
  has_parents = HasParents;
  positions = λ l parents. length l.slots;
  allowed = IsAllowed;
  segment_of = segment_of;
  entries = entries_of;
  log = λ l. nothing_appended;
  prepared = Prepared;
  inserted = Inserted;
}
