-- What a file says that was read up to some line: what was learned of it so far, and the lines that are left.
use Rattle.std.specs.Prelude.{◌≡◌, ℕ, ◌+◌, ◌-◌, ◌^◌, ◌⊎◌, min, Bool}
use Rattle.std.specs.Prelude.{true, List, [], ◌∷◌, ◌++◌, length, Result, Ok, Err}
use Rattle.numbers.specs.Arithmetic.{Arithmetic}
use Rattle.tensor_map.specs.Entries.{Entry}
use Rattle.mtx_io.specs.Banner.{needs_minus}
use Rattle.mtx_io.specs.Matrix.{BadLine, Matrix, numbered, kept, entries_from, matrix_with, sized_from, matrix_from}
use Rattle.mtx_io.specs.declared.stage.Stage.{Stage}
use Rattle.mtx_io.specs.declared.stage.Stage.TheVariants.{First, Begun, Sized, Bad}

-- a line's number as it is counted: the count stands still at its type's end
abbrev pub counted : ℕ → ℕ
counted number = min number (2 ^ 64 - 1)

abbrev pub told : Result Matrix BadLine → Result Matrix BadLine
told (Ok matrix) = Ok matrix
told (Err bad) = Err (record { number = counted bad.number; kind = bad.kind })

-- these entries before those
abbrev pub behind_entries : List Entry → Result (List Entry) BadLine → Result (List Entry) BadLine
behind_entries front (Err bad) = Err bad
behind_entries front (Ok entries) = Ok (front ++ entries)

-- what the file says, if these lines are left, of which the first has this number
abbrev pub rest_of : Arithmetic → Bool → Bool → ℕ → List Entry → Stage → ℕ → List (List ℕ) → Result Matrix BadLine
rest_of a has_minus signed order entries First number more = matrix_from a has_minus signed order number more
rest_of a has_minus signed order entries (Begun banner) number more =
    sized_from a signed order (number + length more) banner (kept (numbered number more))
rest_of a has_minus signed order entries (Sized sized) number more =
    matrix_with sized.header
    (behind_entries entries (entries_from a signed sized.header (number + length more) sized.slots (kept (numbered number more))))
rest_of a has_minus signed order entries (Bad line kind) number more = Err (record { number = line; kind = kind })

-- with the line taken the file still says the same, whatever lines are left
abbrev pub Follows : Arithmetic → Bool → Bool → ℕ → ℕ → List ℕ → List Entry → Stage → List Entry → Stage → Type 0
Follows a has_minus signed order count line entries stage entries' stage' =
    (number : ℕ) (more : List (List ℕ)) → counted number ≡ count
    → told (rest_of a has_minus signed order entries' stage' (number + 1) more)
    ≡ told (rest_of a has_minus signed order entries stage number (line ∷ more))

-- a tensor that a matrix can be read as
abbrev pub IsMatrixOrder : ℕ → Type 0
IsMatrixOrder order = (order ≡ 1) ⊎ (order ≡ 2)

-- no entry was read before the size line, a skew-symmetric matrix has passed where there is a minus, and the header is of
-- this order
abbrev pub IsStage : Bool → ℕ → List Entry → Stage → Type 0
IsStage has_minus order entries First = entries ≡ []
IsStage has_minus order entries (Begun banner) = (entries ≡ []) × (needs_minus banner.symmetry ≡ true → has_minus ≡ true)
IsStage has_minus order entries (Sized sized) = (needs_minus sized.header.symmetry ≡ true → has_minus ≡ true) × (sized.header.order ≡ order)
IsStage has_minus order entries (Bad line kind) = Unit {0}
