-- The code of values that may be absent: 1 and the value, or 0.
use Rattle.std.specs.Prelude.{ℕ, ◌+◌, Bool, true, false, List, [], ◌∷◌, ◌++◌}
use Rattle.kernel_code.specs.declared.syntax.Arr.TheVariants.{Values}
use Rattle.kernel_code.specs.declared.syntax.ValueOp.TheVariants.{Plus, Times}
use Rattle.kernel_code.specs.declared.syntax.KExpr.{KExpr, Num, Var, At}
use Rattle.kernel_code.specs.declared.syntax.KStmt.{KStmt, Set, Combine, If}
use Rattle.index_notation.specs.declared.operator.Operator.{Operator}
use Rattle.index_notation.specs.declared.operator.Operator.TheVariants as op
use Rattle.term_code.specs.Places.{AccessPlace}

abbrev pub number_code : ℕ → ℕ → List KStmt
number_code n free = Set free (Num 1) ∷ Set (free + 1) (Num n) ∷ []

-- the value at an access's first position; that of a sum is the position
abbrev pub value_at : (is_sum : Bool) → (tensor cursor : ℕ) → KExpr
value_at true tensor cursor = Var (cursor + 1)
value_at false tensor cursor = At (Values tensor) (Var (cursor + 1))

-- the value of an access, where it is present
abbrev pub access_code : AccessPlace → ℕ → List KStmt
access_code p free = If (Var p.cursor) (Set free (Num 1) ∷ Set (free + 1) (value_at p.is_sum p.tensor p.cursor) ∷ [])
    (Set free (Num 0) ∷ []) ∷ []

-- of two values, one from free on and the other from free + 2 on, the sum where both are there, else the one that is
abbrev pub either_code : ℕ → List KStmt
either_code free =
    If (Var (free + 2))
    (If (Var free)
    (Combine (free + 1) Plus (Var (free + 1)) (Var (free + 2 + 1)) ∷ [])
    (Set free (Num 1) ∷ Set (free + 1) (Var (free + 2 + 1)) ∷ []) ∷ [])
    [] ∷ []

-- their product, where both are there
abbrev pub both_code : ℕ → List KStmt
both_code free =
    If (Var free)
    (If (Var (free + 2)) (Combine (free + 1) Times (Var (free + 1)) (Var (free + 2 + 1)) ∷ []) (Set free (Num 0) ∷ []) ∷ [])
    [] ∷ []

-- a value by a number, where it is there
abbrev pub each_code : ℕ → ℕ → List KStmt
each_code n free = If (Var free) (Combine (free + 1) Times (Num n) (Var (free + 1)) ∷ []) [] ∷ []

-- an operator of two values, by the code of each and the number minus one
abbrev pub applied_code : ℕ → Operator → List KStmt → List KStmt → ℕ → List KStmt
applied_code n op.Add first second free = (first ++ second) ++ either_code free
applied_code n op.Sub first second free = (first ++ (second ++ each_code n (free + 2))) ++ either_code free
applied_code n op.Mul first second free = (first ++ second) ++ both_code free
