-- The formats of files.
use Rattle.std.specs.Prelude.{Bool, true, false}
use Rattle.bindings.specs.declared.file_format.FileFormat.{FileFormat}
use Rattle.bindings.specs.declared.file_format.FileFormat.TheVariants.{Coordinates, MatrixMarket}

abbrev pub is_matrix : FileFormat → Bool
is_matrix Coordinates = false
is_matrix MatrixMarket = true
