-- What a kernel leaves of the result.
use Rattle.std.specs.Prelude.{◌≡◌, ◌⊎◌, ℕ, ◌+◌, ◌==◌, ◌<◌, ◌≤◌, if◌then◌else◌}
use Rattle.std.specs.Prelude.{List, [], ◌∷◌, length, map, All, Some, option_map}
use Rattle.std.specs.Prelude.{slice_index}
use Rattle.limits.specs.Limits.{greatest_position_count}
use Rattle.numbers.specs.Arithmetic.{Arithmetic}
use Rattle.kernel_code.specs.declared.syntax.Arr.TheVariants.{Range, Values, Dimension, Ends, Coordinates, Width, Key, Sums}
use Rattle.kernel_code.specs.declared.syntax.Arr.TheVariants.{ListCoordinates, ListPositions}
use Rattle.level_core.specs.Entries.{one}
use Rattle.level_core.specs.Logs.{running}
use Rattle.level_core.specs.Meaning.{Arrays}
use Rattle.level_rows.specs.Stacks.{Path}
use Rattle.format_spec.specs.declared.format.FormatLevel.{FormatLevel}
use Rattle.format_spec.specs.Formats.{letters_of}
use Rattle.index_notation.specs.declared.syntax.Statement.{Statement}
use Rattle.expr_terms.specs.Terms.{statement_value}
use Rattle.concrete_notation.specs.Contributions.{Inputs}
use Rattle.concrete_notation.specs.Right.{IsInSupport}
use Rattle.tensor_storage.specs.Counts.{positions_of}
use Rattle.tensor_storage.specs.declared.level.StorageLevel.{StorageLevel}
use Rattle.tensor_storage.specs.Levels.{meaning}
use Rattle.tensor_storage.specs.Stands.{row_from, IsPacked}
use Rattle.tensor_storage.specs.Storages.{IsStorage, storage_of, in_level_order}
use Rattle.tensor_storage.specs.Tables.{Table}
use Rattle.storage_arrays.specs.Arrays.{AreDone, positions_in}
use Rattle.kernel_correctness.specs.Stores.{Store, result_sizes, AreHeld}

-- the arrays with the numbers of positions of the result's levels summed up: how many positions each parent has becomes where they end
abbrev pub summed : Arrays → Arrays
summed arrays (Ends n k) = if n == 0 then option_map (running 0) (arrays (Ends n k)) else arrays (Ends n k)
summed arrays Range = arrays Range
summed arrays (Values n) = arrays (Values n)
summed arrays (Dimension n k) = arrays (Dimension n k)
summed arrays (Coordinates n k) = arrays (Coordinates n k)
summed arrays (Width n k) = arrays (Width n k)
summed arrays (Key w key) = arrays (Key w key)
summed arrays (Sums w) = arrays (Sums w)
summed arrays (ListCoordinates g) = arrays (ListCoordinates g)
summed arrays (ListPositions g) = arrays (ListPositions g)

-- the row of a table that has these coordinates, in the order of the modes
abbrev pub HasRow : List FormatLevel → Table → List ℕ → ℕ → Type 0
HasRow format table coords i = (i < table.count) × (row_from table.coords i 0 (letters_of format) ≡ in_level_order format coords)

-- the rows of the table are the points of a statement's support, each with the statement's value
pub record IsNamedResult (a : Arithmetic) (s : Statement) (inputs : Inputs) (format : List FormatLevel) (table : Table) : Type 0 where
  pub named : (coords : List ℕ) → IsInSupport s inputs coords → (i : ℕ) × HasRow format table coords i
  pub none_else : (i : ℕ) → i < table.count → (coords : List ℕ) × IsInSupport s inputs coords × HasRow format table coords i
  pub values : (i : ℕ) (coords : List ℕ) → IsInSupport s inputs coords → HasRow format table coords i
      → table.values i ≡ statement_value a s inputs.values inputs.ranges coords

-- the result's arrays, once the numbers of positions are summed up, are those of levels and values
pub record IsLeft (store : Store) (arrays : Arrays) (levels : List StorageLevel) (values : List ℕ) : Type 0 where
  pub held : AreHeld levels 0 1 (summed arrays)
  pub values_held : arrays (Values 0) ≡ Some values

-- the storage that is left stands for the statement's values, named by its support
pub record LeavesResult (a : Arithmetic) (s : Statement) (inputs : Inputs) (store : Store) (arrays : Arrays) : Type 0 where
  pub levels : List StorageLevel
  pub values : List ℕ
  pub is_left : IsLeft store arrays levels values
  pub table : Table
  pub named : IsNamedResult a s inputs store.format table
  pub letters : map meaning.kind levels ≡ letters_of store.format
  pub packed : IsPacked a.zero store.format store.ranges table (storage_of store.format levels values)

-- how many positions the last of these levels has
abbrev pub positions_below : ℕ → List StorageLevel → ℕ
positions_below parents [] = parents
positions_below parents (l ∷ ls) = positions_below (positions_in parents l) ls

-- the storage that is left keeps the rules of its format, has one value a position, and zero where no path ends
pub record LeavesStorage (nothing : ℕ) (store : Store) (arrays : Arrays) : Type 0 where
  pub levels : List StorageLevel
  pub values : List ℕ
  pub is_left : IsLeft store arrays levels values
  pub storage : IsStorage (storage_of store.format levels values)
  pub keeps : All meaning.keeps levels
  pub sizes : map meaning.size levels ≡ result_sizes store
  pub done : AreDone 1 levels
  pub many : length values ≡ positions_below 1 levels
  pub zeros : (pos : ℕ) → pos < length values → ((xs : List ℕ) → Path meaning levels (one 0) xs pos → ⊥)
      → slice_index values pos ≡ nothing

-- an array that grows is told as its level's, counted from 1; the values, which are told as the last level's, may also stand for the
-- positions of a level above it
abbrev pub IsToldAs : ℕ → ℕ → ℕ → Type 0
IsToldAs order at level = (at + 1 ≡ level) ⊎ ((level ≡ order) × (at < level))

-- a level may be told to be too large with this count: it passes the limit, and is at most as many positions as the result's storage
-- would have at that level, or, where the values grow, at some level above the last one
pub record MayPass (a : Arithmetic) (s : Statement) (inputs : Inputs) (store : Store) (level count : ℕ) : Type 0 where
  pub passes : greatest_position_count < count
  pub table : Table
  pub named : IsNamedResult a s inputs store.format table
  pub at : ℕ
  pub told : IsToldAs (length store.format) at level
  pub most : count ≤ slice_index (positions_of store.format store.ranges table) at
