-- The code before all rows, that of one row, which sets a coordinate's mark at its first touch and lists it, and that of the drain.
use Rattle.std.specs.Prelude.{ℕ, ◌+◌, List, [], ◌∷◌, ◌++◌}
use Rattle.kernel_code.specs.declared.syntax.Arr.TheVariants.{Range, Key, Sums}
use Rattle.kernel_code.specs.declared.syntax.Op.TheVariants.{Less}
use Rattle.kernel_code.specs.declared.syntax.KExpr.{KExpr, Num, Var, At, Len, Bin}
use Rattle.kernel_code.specs.declared.syntax.KStmt.{KStmt, Set, Put, AddTo, Push, Extend, Cut, If}
use Rattle.term_code.specs.WorkspaceSinks.{push_code}
use Rattle.touched_workspaces.specs.Sizes.{greatest_marked_range}
use Rattle.touched_workspaces.specs.declared.sink.TouchedSink.{TouchedSink}

-- whether the range of the key's variable is too large for marks
abbrev pub is_large : ℕ → KExpr
is_large variable = Bin Less (Num greatest_marked_range) (At Range (Num variable))

abbrev pub touch_code : TouchedSink → ℕ → List KStmt
touch_code k x = Put (Key k.dense 0) (Var x) (Num 1) ∷ Push (Key k.list 0) (Var x) ∷ Push (Sums k.list) (Num k.zero) ∷ []

abbrev pub mark_code : TouchedSink → ℕ → ℕ → List KStmt
mark_code k x value = If (At (Key k.dense 0) (Var x)) [] (touch_code k x) ∷ AddTo (Sums k.dense) (Var x) (Var value) ∷ []

abbrev pub row_code : TouchedSink → ℕ → ℕ → List KStmt
row_code k x value = If (is_large k.variable) (push_code k.list 0 (x ∷ []) value) (mark_code k x value) ∷ []

-- a mark and a sum for each coordinate
abbrev pub zeros_code : TouchedSink → List KStmt
zeros_code k =
    Extend (Key k.dense 0) (At Range (Num k.variable)) (Num 0) ∷ Extend (Sums k.dense) (At Range (Num k.variable)) (Num k.zero) ∷ []

abbrev pub begin_code : TouchedSink → List KStmt
begin_code k = If (is_large k.variable) [] (zeros_code k) ∷ []

-- a row of the sorted list gets the sum of its coordinate, whose mark and sum are cleared
abbrev pub take_code : TouchedSink → ℕ → ℕ → List KStmt
take_code k at x =
    Set x (At (Key k.list 0) (Var at)) ∷ AddTo (Sums k.list) (Var at) (At (Sums k.dense) (Var x))
    ∷ Put (Key k.dense 0) (Var x) (Num 0) ∷ Put (Sums k.dense) (Var x) (Num k.zero) ∷ []

abbrev pub next_code : TouchedSink → ℕ → ℕ → List KStmt
next_code k at x = If (is_large k.variable) [] (take_code k at x) ∷ []

-- the row is taken, and read
abbrev pub taken_code : TouchedSink → ℕ → ℕ → List KStmt
taken_code k at x =
    next_code k at x ++ Set x (At (Key k.list 0) (Var at)) ∷ Set (x + 1) (At (Sums k.list) (Var at)) ∷ []

-- whether a row waits
abbrev pub wait_test : TouchedSink → ℕ → KExpr
wait_test k at = Bin Less (Var at) (Len (Key k.list 0))

abbrev pub empty_code : TouchedSink → List KStmt
empty_code k = Cut (Key k.list 0) (Num 0) ∷ Cut (Sums k.list) (Num 0) ∷ []
