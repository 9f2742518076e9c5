-- The arrays that a kernel only reads: the ranges, those ranges of the result's levels that have arrays, and what is stored of each
-- operand.
use Rattle.std.specs.Prelude.{ℕ, zero, suc, List, [], ◌∷◌, Option, Some, None, slice_get}
use Rattle.kernel_code.specs.declared.syntax.Arr.{Arr}
use Rattle.kernel_code.specs.declared.syntax.Arr.TheVariants.{Range, Values, Dimension, Ends, Coordinates, Width, Key, Sums}
use Rattle.kernel_code.specs.declared.syntax.Arr.TheVariants.{ListCoordinates, ListPositions}
use Rattle.level_core.specs.declared.arrays.LevelArray.{LevelArray}
use Rattle.level_core.specs.declared.arrays.LevelArray.TheVariants.{Dimension as OfSize, Ends as OfEnds}
use Rattle.level_core.specs.declared.arrays.LevelArray.TheVariants.{Coordinates as OfCoordinates, Width as OfWidth}
use Rattle.tensor_storage.specs.declared.level.StorageLevel.{StorageLevel}
use Rattle.tensor_storage.specs.Levels.{meaning}
use Rattle.lent_arrays.specs.declared.lent.Operand.{Operand}
use Rattle.lent_arrays.specs.declared.lent.LentArrays.{LentArrays}

-- the element of a number, of which the first is 1
abbrev pub numbered : {X : Type 0} → List X → ℕ → Option X
numbered xs zero = None
numbered xs (suc n) = slice_get xs n

-- the words of an array of a level, where the level is there and has the array
abbrev pub words_of_level : LevelArray → Option StorageLevel → Option (List ℕ)
words_of_level array None = None
words_of_level array (Some l) = meaning.words l array

-- the same of the level of this number of an operand
abbrev pub words_of_operand : LevelArray → ℕ → Option Operand → Option (List ℕ)
words_of_operand array level None = None
words_of_operand array level (Some o) = words_of_level array (numbered o.levels.now level)

abbrev pub values_of_operand : Option Operand → Option (List ℕ)
values_of_operand None = None
values_of_operand (Some o) = Some o.values.now

abbrev pub one_word : Option ℕ → Option (List ℕ)
one_word None = None
one_word (Some x) = Some (x ∷ [])

abbrev pub if_there : Option (Option ℕ) → Option ℕ
if_there None = None
if_there (Some size) = size

-- the range of the level of this number, where the level is there and has an array for it
abbrev pub size_in : List (Option ℕ) → ℕ → Option ℕ
size_in sizes level = if_there (numbered sizes level)

-- the range of a level: of the result, which is tensor 0, or of an operand
abbrev pub dimension_of : LentArrays → ℕ → ℕ → Option (List ℕ)
dimension_of l zero level = one_word (size_in l.sizes.items level)
dimension_of l (suc n) level = words_of_operand OfSize level (slice_get l.operands.items n)

-- the arrays that are read alone
abbrev pub lent_array : LentArrays → Arr → Option (List ℕ)
lent_array l Range = Some l.ranges.now
lent_array l (Values n) = values_of_operand (numbered l.operands.items n)
lent_array l (Dimension n k) = dimension_of l n k
lent_array l (Ends n k) = words_of_operand OfEnds k (numbered l.operands.items n)
lent_array l (Coordinates n k) = words_of_operand OfCoordinates k (numbered l.operands.items n)
lent_array l (Width n k) = words_of_operand OfWidth k (numbered l.operands.items n)
lent_array l (Key w key) = None
lent_array l (Sums w) = None
lent_array l (ListCoordinates g) = None
lent_array l (ListPositions g) = None
