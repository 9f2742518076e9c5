-- What the bytes of an operand's file stand for, by the path's ending: the entries as they are listed, and what each mode
-- gives for the range of a variable.
use Rattle.std.specs.Prelude.{◌≡◌, ℕ, ◌≤◌, Bool, true, List, [], ◌∷◌, map, take, Result, Ok, Err, if◌then◌else◌}
use Rattle.std.specs.List.{range_with_len}
use Rattle.limits.specs.Limits.{greatest_order}
use Rattle.numbers.specs.Arithmetic.{Arithmetic}
use Rattle.tensor_map.specs.Entries.{Entry, Entries}
use Rattle.expr_terms.specs.Ranges.{reach}
use Rattle.expr_terms.specs.declared.bound.Bound.{Bound}
use Rattle.expr_terms.specs.declared.bound.Bound.TheVariants.{Exact, AtLeast}
use Rattle.bindings.specs.Words.{is_mtx}
use Rattle.tns_io.specs.Reading.{BadLine as BadEntry, entries_of_text}
use Rattle.mtx_io.specs.Matrix.{BadLine, Matrix, matrix_of_text}
use Rattle.mtx_io.specs.Progress.{IsMatrixOrder}

-- an operand: its order and its entries, and what each of its modes gives
pub record Operand : Type 0 where
  pub entries : Entries
  pub bounds : List Bound

-- a `.mtx` file is read as a tensor of order 1 or 2 alone
pub record IsReadable (order : ℕ) (path : List ℕ) : Type 0 where
  pub small : order ≤ greatest_order
  pub matrix : is_mtx path ≡ true → IsMatrixOrder order

-- an order for each path, that it may be read at
abbrev pub AreReadable : List ℕ → List (List ℕ) → Type 0
AreReadable [] [] = Unit {0}
AreReadable [] (path ∷ paths) = ⊥
AreReadable (order ∷ orders) [] = ⊥
AreReadable (order ∷ orders) (path ∷ paths) = IsReadable order path × AreReadable orders paths

-- the entries of a `.tns` file only bound each mode: by its greatest coordinate, counted from 1, and 0 where there is none
abbrev pub reached : ℕ → List Entry → List Bound
reached order entries = map (λ mode. AtLeast (reach entries mode)) (range_with_len 0 order)

-- a matrix gives its sizes: the rows, and at order 2 the columns
abbrev pub sizes : ℕ → ℕ → ℕ → List Bound
sizes order rows columns = take order (Exact rows ∷ Exact columns ∷ [])

abbrev pub of_entries : ℕ → Result (List Entry) BadEntry → Result Operand BadLine
of_entries order (Ok list) = Ok (record { entries = record { order = order; list = list }; bounds = reached order list })
of_entries order (Err bad) = Err (record { number = bad.number; kind = bad.kind })

abbrev pub of_matrix : ℕ → Result Matrix BadLine → Result Operand BadLine
of_matrix order (Ok matrix) =
    Ok (record { entries = record { order = order; list = matrix.entries }; bounds = sizes order matrix.rows matrix.columns })
of_matrix order (Err bad) = Err bad

-- what the bytes of a file stand for, read for this order, or its first bad line: `.mtx`, or else `.tns`. Values have a minus or none,
-- and a sign or none
unfoldable pub operand_of : Arithmetic → Bool → Bool → ℕ → (path bytes : List ℕ) → Result Operand BadLine
operand_of a has_minus signed order path bytes =
    if is_mtx path then of_matrix order (matrix_of_text a has_minus signed order bytes) else of_entries order
    (entries_of_text signed order bytes)
