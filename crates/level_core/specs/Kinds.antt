-- The kinds of levels: their properties and capabilities, and what the properties say of entries.
use Rattle.std.specs.Prelude.{◌≡◌, ℕ, suc, ◌+◌, ◌-◌, ◌*◌, ◌≤◌, ◌<◌, true, false}
use Rattle.std.specs.Prelude.{if◌then◌else◌, List, length, Option, Some, None}
use Rattle.limits.specs.Limits.{greatest_position_count}
pub use Rattle.level_core.specs.declared.letter.Letter.{Letter}
pub use Rattle.level_core.specs.declared.letter.Letter.TheVariants.{Dense, Compressed, CompressedGroups, Singleton, SingletonGroups, Hashed}
pub use Rattle.level_core.specs.declared.letter.Properties.{Properties}
pub use Rattle.level_core.specs.declared.letter.Capabilities.{Capabilities}
use Rattle.kernel_code.specs.Widths.{slot_width}
use Rattle.level_core.specs.Arrays.{LevelArray, OfEnds, OfCoordinates, OfWidth}
use Rattle.level_core.specs.Entries.{Span, Entry, Placed, Tiles, Rising, AllBelow, Lacks, Distinct, Single, position_of}

abbrev pub properties : Letter → Properties
properties Dense = record { full = true; ordered = true; unique = true; branchless = false; compact = true }
properties Compressed = record { full = false; ordered = true; unique = true; branchless = false; compact = true }
properties CompressedGroups = record { full = false; ordered = true; unique = false; branchless = false; compact = true }
properties Singleton = record { full = false; ordered = true; unique = true; branchless = true; compact = true }
properties SingletonGroups = record { full = false; ordered = true; unique = false; branchless = true; compact = true }
properties Hashed = record { full = false; ordered = false; unique = true; branchless = false; compact = false }

abbrev pub capabilities : Letter → Capabilities
capabilities Dense = record { coordinate_iteration = true; position_iteration = false; locate = true; insert = true; append = false }
capabilities Compressed = record { coordinate_iteration = false; position_iteration = true; locate = false; insert = false; append = true }
capabilities CompressedGroups =
    record { coordinate_iteration = false; position_iteration = true; locate = false; insert = false; append = true }
capabilities Singleton = record { coordinate_iteration = false; position_iteration = true; locate = false; insert = false; append = true }
capabilities SingletonGroups =
    record { coordinate_iteration = false; position_iteration = true; locate = false; insert = false; append = true }
capabilities Hashed = record { coordinate_iteration = false; position_iteration = true; locate = true; insert = true; append = false }

-- what the properties say of the entries below a parent, whose positions are those of the segment, where n is the range
pub record HaveProperties (p : Properties) (n : ℕ) (parent segment : Span) (es : List Entry) : Type 0 where
  pub full : p.full ≡ true → (x : ℕ) → x < n → (pos : ℕ) × position_of es x ≡ Some pos
  pub ordered : p.ordered ≡ true → Rising 0 es
  pub unique : p.unique ≡ true → Single es
  pub branchless : p.branchless ≡ true → parent.hi ≡ parent.lo + 1 → length es ≡ 1
  pub compact : p.compact ≡ true → Tiles segment.lo segment.hi es

-- what is true of the entries below each allowed parent of a level of every kind: the range and all positions are
-- within the limit, the coordinates are below the range and none stands twice, and the children of each stand in the segment
pub record AreEntries (p : Properties) (n : ℕ) (parent segment : Span) (es : List Entry) : Type 0 where
  pub within : n ≤ greatest_position_count
  pub positions : segment.hi ≤ greatest_position_count
  pub below : AllBelow n es
  pub distinct : Distinct es
  pub placed : Placed segment.lo segment.hi es
  pub properties : HaveProperties p n parent segment es

-- what the properties and capabilities of every kind keep: code that asks for these alone serves each kind, and rests on them
pub record AreOfAKind (p : Properties) (c : Capabilities) : Type 0 where
  -- a full level stores no coordinates: they are gone over and found in order, and each position is a parent by itself
  pub full_ordered : p.full ≡ true → p.ordered ≡ true
  pub full_branches : p.full ≡ true → p.branchless ≡ false
  pub full_located : p.full ≡ true → c.locate ≡ true
  pub full_inserted : p.full ≡ true → c.insert ≡ true
  -- every other level is gone over by its positions
  pub stored : p.full ≡ false → c.position_iteration ≡ true
  pub unstored : p.full ≡ true → c.position_iteration ≡ false
  -- coordinates in order leave no position free; without order they are inserted and found
  pub ordered_compact : p.ordered ≡ true → p.compact ≡ true
  pub unordered_inserted : p.ordered ≡ false → c.insert ≡ true
  pub unordered_located : p.ordered ≡ false → c.locate ≡ true
  -- coordinates are appended to a level or inserted into it
  pub appended : c.insert ≡ false → c.append ≡ true
  pub not_both : c.insert ≡ true → c.append ≡ false
  -- what is inserted or found has one position, below one position, and what is inserted stands in order only where it isn't stored
  pub inserted_unique : c.insert ≡ true → p.unique ≡ true
  pub inserted_branches : c.insert ≡ true → p.branchless ≡ false
  pub inserted_unordered : c.insert ≡ true → p.full ≡ false → p.ordered ≡ false
  pub located_unique : c.locate ≡ true → p.unique ≡ true
  pub located_branches : c.locate ≡ true → p.branchless ≡ false

-- how many positions so many parents have once they are prepared for at most `most` coordinates each: of a mode of range n
abbrev pub positions_for : Letter → ℕ → ℕ → ℕ → ℕ
positions_for letter n parents most =
    if (properties letter).full then parents * n else if (capabilities letter).insert then parents * slot_width most else 0

-- how many positions a level of a kernel's result has as the run starts, below so many parents: a dense one all of them, any other none
abbrev pub parents_below : Letter → ℕ → ℕ → ℕ
parents_below letter size parents = if (properties letter).full then parents * size else 0

-- how many zeros stand in an array of a level of a kernel's result as the run starts, below so many parents, if it is one that the run
-- makes: segment ends stand as numbers of positions behind a zero, and other arrays have no word yet
abbrev pub zeros_at_start : Letter → LevelArray → ℕ → Option ℕ
zeros_at_start Compressed OfEnds parents = Some (suc parents)
zeros_at_start Compressed OfCoordinates parents = Some 0
zeros_at_start CompressedGroups OfEnds parents = Some (suc parents)
zeros_at_start CompressedGroups OfCoordinates parents = Some 0
zeros_at_start Singleton OfCoordinates parents = Some 0
zeros_at_start SingletonGroups OfCoordinates parents = Some 0
zeros_at_start Hashed OfWidth parents = Some 0
zeros_at_start Hashed OfCoordinates parents = Some 0
zeros_at_start _ _ parents = None

-- a level that coordinates can be inserted into may be prepared, once where that settles its width, for coordinates within the
-- limit below each parent
pub record MayPrepare (letter : Letter) (width : Option ℕ) (most : ℕ) : Type 0 where
  pub able : (capabilities letter).insert ≡ true
  pub unprepared : width ≡ None
  pub coordinates : most ≤ greatest_position_count

-- so many positions may be asked of code: more than the limit are refused where they are stored, and a full level stores none
abbrev pub CodeMayPrepare : Letter → ℕ → Type 0
CodeMayPrepare letter positions = (properties letter).full ≡ true → positions ≤ greatest_position_count

-- a coordinate below the range n may be inserted: where a level isn't full, one that isn't there yet, while a position is free
pub record MayInsert (letter : Letter) (n : ℕ) (segment : Span) (es : List Entry) (x : ℕ) : Type 0 where
  pub able : (capabilities letter).insert ≡ true
  pub below : x < n
  pub free : (properties letter).full ≡ false → Lacks x es × (length es < segment.hi - segment.lo)
