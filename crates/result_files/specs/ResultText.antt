-- The text of a result: a `.tns` text, or a Matrix Market text where a path is given that ends in `.mtx`.
use Rattle.std.specs.Prelude.{◌≡◌, ℕ, Bool, true, false, List, Option, Some, None}
use Rattle.bindings.specs.Words.{is_mtx}
use Rattle.numbers.specs.Arithmetic.{Arithmetic}
use Rattle.tns_io.specs.Positions.{IsBelow}
use Rattle.tns_io.specs.Text.{IsTnsText}
use Rattle.mtx_io.specs.Text.{IsMatrixText}

-- the path of a matrix
abbrev pub asks_matrix : Option (List ℕ) → Bool
asks_matrix None = false
asks_matrix (Some path) = is_mtx path

-- the Matrix Market text of the tensor that has these values below the ranges
pub record IsMatrixOf (a : Arithmetic) (signed : Bool) (ranges : List ℕ) (value : List ℕ → ℕ) (text : List ℕ) : Type 0 where
  pub tensor : List ℕ → ℕ
  pub inside : (coords : List ℕ) → IsBelow ranges coords → tensor coords ≡ value coords
  pub text_is : IsMatrixText a signed ranges tensor text

abbrev pub IsTextIn : Bool → Arithmetic → Bool → List ℕ → (List ℕ → ℕ) → List ℕ → Type 0
IsTextIn true a signed ranges value text = IsMatrixOf a signed ranges value text
IsTextIn false a signed ranges value text = IsTnsText a signed ranges value text

-- the text of the tensor that has these values below the ranges, as the path's ending asks; a value is written with its sign or without
abbrev pub IsResultText : Arithmetic → Bool → Option (List ℕ) → List ℕ → (List ℕ → ℕ) → List ℕ → Type 0
IsResultText a signed path ranges value text = IsTextIn (asks_matrix path) a signed ranges value text
