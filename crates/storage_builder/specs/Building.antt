-- What a builder has taken so far.
use Rattle.std.specs.Prelude.{◌≡◌, ℕ, ◌*◌, ◌≤◌, nat_le, if◌then◌else◌, List, [], ◌∷◌, length, All}
use Rattle.limits.specs.Limits.{greatest_position_count}
use Rattle.level_core.specs.declared.letter.Letter.TheVariants.{Dense}
use Rattle.format_spec.specs.declared.format.FormatLevel.{FormatLevel}
use Rattle.format_spec.specs.Formats.{letters_of}
use Rattle.tensor_storage.specs.Storages.{IsStorage, storage_of}
use Rattle.tensor_storage.specs.declared.level.StorageLevel.{StorageLevel}
use Rattle.tensor_storage.specs.declared.words.LevelWords.{LevelWords}
use Rattle.storage_builder.specs.Made.{AreHandedOver, values_for}

-- the format, the range of each level, and of each level what was handed over
pub record Building : Type 0 where
  pub format : List FormatLevel
  pub sizes : List ℕ
  pub parts : List LevelWords

abbrev pub building : List FormatLevel → List ℕ → List LevelWords → Building
building format sizes parts = record { format = format; sizes = sizes; parts = parts }

-- each level is dense
abbrev pub AreDense : List FormatLevel → Type 0
AreDense format = All (λ level. level.letter ≡ Dense) format

-- how many positions the last of dense levels of these ranges has, below so many parents: none where one above has too many
abbrev pub dense_room : ℕ → List ℕ → ℕ
dense_room parents [] = parents
dense_room parents (size ∷ sizes) =
    if nat_le (parents * size) greatest_position_count then dense_room (parents * size) sizes else 0

-- the levels have ranges within the limit, and there is room for each of them, and for the values where all are dense
pub record IsBuilding (format : List FormatLevel) (sizes : List ℕ) (parts : List LevelWords) (levels values : ℕ) : Type 0 where
  pub sizes_long : length sizes ≡ length format
  pub parts_long : length parts ≡ length format
  pub small : All (λ size. size ≤ greatest_position_count) sizes
  pub levels_room : length format ≤ levels
  pub values_room : AreDense format → dense_room 1 sizes ≤ values

-- finished levels have what was handed over, there is one value for each position of the last of them, and below each path the next
-- level may be asked
pub record MayFinish (b : Building) (values : List ℕ) : Type 0 where
  pub levels : List StorageLevel
  pub handed : AreHandedOver (letters_of b.format) b.sizes b.parts 1 levels
  pub many : length values ≡ values_for 1 levels
  pub whole : IsStorage (storage_of b.format levels values)
