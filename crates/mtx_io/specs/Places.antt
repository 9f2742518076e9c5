-- The places of a matrix that an array tells, column by column, as NISTIR 5935 has it (section 'Array Format'): all of a
-- general matrix, the lower triangle of a symmetric one, and that without the diagonal of a skew-symmetric one.
use Rattle.std.specs.Prelude.{ℕ, ◌+◌, ◌-◌, List, map}
use Rattle.std.specs.List.{flat_map, range_with_len}
use Rattle.mtx_io.specs.declared.banner.Symmetry.{Symmetry}
use Rattle.mtx_io.specs.declared.banner.Symmetry.TheVariants.{General, Symmetric, SkewSymmetric}
use Rattle.mtx_io.specs.declared.place.Place.{Place}

-- the first row of a column that is told
abbrev pub first_row : Symmetry → ℕ → ℕ
first_row General column = 0
first_row Symmetric column = column
first_row SkewSymmetric column = column + 1

-- the places of a column from a row on
abbrev pub column_from : ℕ → ℕ → ℕ → List Place
column_from rows row column = map (λ r. record { row = r; column = column }) (range_with_len row (rows - row))

-- those of so many columns from one on
abbrev pub columns_from : Symmetry → ℕ → ℕ → ℕ → List Place
columns_from symmetry rows column count = flat_map (λ c. column_from rows (first_row symmetry c) c) (range_with_len column count)

abbrev pub places : Symmetry → ℕ → ℕ → List Place
places symmetry rows columns = columns_from symmetry rows 0 columns
