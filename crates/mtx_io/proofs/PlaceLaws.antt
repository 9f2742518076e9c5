-- The places of an array, one after another.
use Rattle.std.specs.Prelude.{◌≡◌, ℕ, zero, suc, ◌+◌, ◌-◌, ◌≤◌, [], ◌++◌, map, refl}
use Rattle.std.specs.List.{range_with_len}
use Rattle.std.proofs.Common.{arith, ap, ◌∙◌}
use Rattle.mtx_io.specs.Places.{first_row, column_from, columns_from}
use Rattle.mtx_io.specs.declared.banner.Symmetry.{Symmetry}
use Rattle.mtx_io.specs.declared.banner.Symmetry.TheVariants.{General, Symmetric, SkewSymmetric}

-- a column has no place from the last row on
column_ends : (rows row column : ℕ) → rows ≤ row → column_from rows row column ≡ []
column_ends rows row column h =
    let none : rows - row ≡ 0 = omega arith in
    ap (λ n. map (λ r. record { row = r; column = column }) (range_with_len row n)) none

-- the first row doesn't fall from column to column
rows_rise : (s : Symmetry) (rows column : ℕ) → rows ≤ first_row s column → rows ≤ first_row s (column + 1)
rows_rise General rows column h = h
rows_rise Symmetric rows column h = omega arith
rows_rise SkewSymmetric rows column h = omega arith

-- where a column has no place, none behind it has
pub columns_end : (s : Symmetry) (rows column count : ℕ) → rows ≤ first_row s column → columns_from s rows column count ≡ []
columns_end s rows column zero h = refl
columns_end s rows column (suc count) h =
    ap (λ front. front ++ columns_from s rows (column + 1) count) (column_ends rows (first_row s column) column h)
    ∙ columns_end s rows (column + 1) count (rows_rise s rows column h)
