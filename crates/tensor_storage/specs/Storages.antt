-- What is stored of a tensor: the levels of its format one below another, and a value for each position of the last.
use Rattle.std.specs.Prelude.{◌≡◌, ℕ, ◌+◌, ◌<◌, List, [], ◌∷◌, length, map, slice_index}
use Rattle.level_core.specs.declared.span.Span.{Span}
use Rattle.level_core.specs.declared.span.Entry.{Entry}
use Rattle.level_core.specs.Entries.{StandsAt, one}
use Rattle.level_core.specs.Meaning.{Meaning}
use Rattle.level_rows.specs.Stacks.{Path}
use Rattle.format_spec.specs.declared.format.FormatLevel.{FormatLevel}
use Rattle.format_spec.specs.Formats.{letters_of, IsFormat}
use Rattle.tensor_storage.specs.Levels.{StorageLevel, meaning}

pub record Storage : Type 0 where
  pub format : List FormatLevel
  pub levels : List StorageLevel
  pub values : List ℕ

abbrev pub storage_of : List FormatLevel → List StorageLevel → List ℕ → Storage
storage_of format levels values = record { format = format; levels = levels; values = values }

-- coordinates that stand in the order of the modes, in the order of the levels
abbrev pub in_level_order : List FormatLevel → List ℕ → List ℕ
in_level_order format coords = map (λ level. slice_index coords level.mode) format

-- the span may be asked of the first level, and so may the children of each of its entries of the levels below; behind the last level
-- it is one of so many positions
abbrev pub IsOpen : {L : Type 0} → Meaning L → List L → ℕ → Span → Type 0
IsOpen means [] positions span = (span.hi ≡ span.lo + 1) × (span.lo < positions)
IsOpen means (l ∷ ls) positions span =
    means.allowed l span × ((e : Entry) → StandsAt e.child.lo e (means.entries l span) → IsOpen means ls positions e.child)

-- each level is of the kind that the format names, and can be asked below each path so far; each path ends at a value
pub record IsStorage (storage : Storage) : Type 0 where
  pub format : IsFormat storage.format
  pub letters : map meaning.kind storage.levels ≡ letters_of storage.format
  pub opened : IsOpen meaning storage.levels (length storage.values) (one 0)

-- a path with these coordinates, in the order of the modes, ends at the position
abbrev pub EndsAt : Storage → List ℕ → ℕ → Type 0
EndsAt storage coords pos = Path meaning storage.levels (one 0) (in_level_order storage.format coords) pos
