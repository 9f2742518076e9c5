-- The arrays of levels, by name.
use Rattle.std.specs.Prelude.{ℕ}
use Rattle.kernel_code.specs.declared.syntax.Arr.{Arr}
use Rattle.kernel_code.specs.declared.syntax.Arr.TheVariants.{Dimension, Ends, Coordinates, Width}
pub use Rattle.level_core.specs.declared.arrays.LevelArray.{LevelArray}
pub use Rattle.level_core.specs.declared.arrays.LevelArray.TheVariants.{Dimension as OfSize, Ends as OfEnds}
pub use Rattle.level_core.specs.declared.arrays.LevelArray.TheVariants.{Coordinates as OfCoordinates, Width as OfWidth}

-- the array of the level of this number of a tensor, as kernels name it
abbrev pub array_of : LevelArray → ℕ → ℕ → Arr
array_of OfSize = Dimension
array_of OfEnds = Ends
array_of OfWidth = Width
array_of OfCoordinates = Coordinates
