-- A written text, read again, stands for the tensor that was written.
use Rattle.std.specs.Prelude.{◌≡◌, ℕ, ◌^◌, ◌<◌, Bool, false, List, ◌++◌, Result, Ok, Err, codes}
use Rattle.numbers.specs.Arithmetic.{Arithmetic}
use Rattle.tensor_map.specs.Entries.{value_at}
use Rattle.mtx_io.specs.Matrix.{BadLine, Matrix}
use Rattle.mtx_io.specs.Text.{rows_of, columns_of}

-- a line of three tokens without its end
abbrev pub bare_line : List ℕ → List ℕ → List ℕ → List ℕ
bare_line first second third = (first ++ codes " ") ++ ((second ++ codes " ") ++ third)

-- a value that its text is read as: a word, and one of 63 bits where values have no sign
pub record IsReadBack (signed : Bool) (value : ℕ) : Type 0 where
  pub word : value < 2 ^ 64
  pub short : signed ≡ false → value < 2 ^ 63

-- what was read has these sizes, and the values of this tensor
abbrev pub StandsFor : Arithmetic → List ℕ → (List ℕ → ℕ) → Result Matrix BadLine → Type 0
StandsFor a ranges value (Err bad) = ⊥
StandsFor a ranges value (Ok matrix) =
    (matrix.rows ≡ rows_of ranges) × (matrix.columns ≡ columns_of ranges) ×
    ((coords : List ℕ) → value_at a matrix.entries coords ≡ value coords)
