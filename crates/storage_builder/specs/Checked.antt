-- What is asked of words of which nothing is known: that they make a storage which keeps every rule.
use Rattle.std.specs.Prelude.{◌≡◌, ℕ, ◌<◌, List, [], ◌∷◌, length, slice_index}
use Rattle.level_core.specs.declared.letter.Letter.{Letter}
use Rattle.level_core.specs.Entries.{one}
use Rattle.level_rows.specs.Stacks.{Path}
use Rattle.format_spec.specs.Formats.{letters_of}
use Rattle.tensor_storage.specs.declared.level.StorageLevel.{StorageLevel}
use Rattle.tensor_storage.specs.declared.words.LevelWords.{LevelWords}
use Rattle.tensor_storage.specs.Levels.{meaning}
use Rattle.tensor_storage.specs.Storages.{Storage, IsStorage, storage_of}
use Rattle.storage_arrays.specs.Arrays.{positions_in}
use Rattle.level_checks.specs.Widths.{IsLeastWide}
use Rattle.storage_builder.specs.Building.{Building}
use Rattle.storage_builder.specs.Made.{AllAlike, AreHandedOver, values_for}

-- of levels one below another, the first of which has so many parents, no block is wider than it has to be
abbrev pub AreLeastWide : ℕ → List StorageLevel → Type 0
AreLeastWide parents [] = Unit {0}
AreLeastWide parents (l ∷ ls) = IsLeastWide meaning parents l × AreLeastWide (positions_in parents l) ls

-- there are finished levels of these kinds and ranges, the first of which has so many parents, which have these words, in blocks no wider
-- than they have to be, and of which the last has so many positions
pub record HaveLevels (letters : List Letter) (sizes : List ℕ) (parts : List LevelWords) (parents values : ℕ) : Type 0 where
  pub levels : List StorageLevel
  pub handed : AreHandedOver letters sizes parts parents levels
  pub widths : AreLeastWide parents levels
  pub many : values_for parents levels ≡ values

-- a value at whose position no path ends is this one
abbrev pub HasZeros : ℕ → List StorageLevel → List ℕ → Type 0
HasZeros nothing levels values = (pos : ℕ) → pos < length values → ((xs : List ℕ) → Path meaning levels (one 0) xs pos → ⊥)
    → slice_index values pos ≡ nothing

-- finished levels have what was handed over, in blocks no wider than they have to be; there is one value for each position of the last of
-- them, and zero where no path ends; and below each path the next level may be asked
pub record IsWhole (nothing : ℕ) (b : Building) (values : List ℕ) : Type 0 where
  pub levels : List StorageLevel
  pub handed : AreHandedOver (letters_of b.format) b.sizes b.parts 1 levels
  pub widths : AreLeastWide 1 levels
  pub many : length values ≡ values_for 1 levels
  pub whole : IsStorage (storage_of b.format levels values)
  pub zeros : HasZeros nothing levels values

-- the tensor of what was handed over, and of these values: its levels are those that have the words, but for their room
pub record IsMadeOf (b : Building) (values : List ℕ) (t : Storage) : Type 0 where
  pub levels : (ls : List StorageLevel) → AreHandedOver (letters_of b.format) b.sizes b.parts 1 ls → AllAlike ls t.levels
  pub format : t.format ≡ b.format
  pub values_are : t.values ≡ values
