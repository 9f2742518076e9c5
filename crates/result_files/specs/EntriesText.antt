-- The text of a result's entries.
use Rattle.std.specs.Prelude.{◌≡◌, ℕ, Bool, true, List, length, filter, All, if◌then◌else◌}
use Rattle.numbers.specs.Arithmetic.{Arithmetic}
use Rattle.tensor_map.specs.Entries.{Entry, AreEntries, Entries, StrictlyIncreasing, is_nonzero}
use Rattle.tensor_map.specs.Coords.{IsShape}
use Rattle.tns_io.specs.Positions.{IsBelow}
use Rattle.tns_io.specs.Text.{entries_text}
use Rattle.mtx_io.specs.Progress.{IsMatrixOrder}
use Rattle.mtx_io.specs.Text.{matrix_text}

-- as a Matrix Market file, or else as a `.tns` file
abbrev pub result_text : Bool → Arithmetic → Bool → List ℕ → List Entry → List ℕ
result_text is_matrix a signed ranges entries =
    if is_matrix then matrix_text signed ranges (filter (is_nonzero a) entries) else entries_text a signed entries

-- what is true of all entries and of a shape, and the entries are below the ranges and increase, and a matrix has order 1 or 2
pub record MayBeWritten (is_matrix : Bool) (ranges : List ℕ) (entries : Entries) : Type 0 where
  pub are : AreEntries entries
  pub shape : IsShape ranges
  pub order_is : entries.order ≡ length ranges
  pub below : All (λ entry. IsBelow ranges entry.coords) entries.list
  pub increasing : StrictlyIncreasing entries.list
  pub matrix : is_matrix ≡ true → IsMatrixOrder entries.order
