-- The entries of a matrix are below its sizes.
use Rattle.std.specs.Prelude.{◌≡◌, ℕ, ◌≤◌, All}
use Rattle.limits.specs.Limits.{greatest_matrix_size}
use Rattle.mtx_io.specs.Entry.{coords_of}
use Rattle.mtx_io.specs.Matrix.{Matrix}
use Rattle.mtx_io.specs.Text.{IsBelow}

-- the sizes are such as a file may have, a tensor of order 1 has one column, and each entry's coordinates are below the sizes:
-- in order 1 below the number of rows
pub record IsOfSizes (order : ℕ) (matrix : Matrix) : Type 0 where
  pub rows_small : matrix.rows ≤ greatest_matrix_size
  pub columns_small : matrix.columns ≤ greatest_matrix_size
  pub one_column : order ≡ 1 → matrix.columns ≡ 1
  pub below : All (λ entry. IsBelow (coords_of order matrix.rows matrix.columns) entry.coords) matrix.entries
