-- Pieces of the code of a level: the expression that tells whether a row of a workspace begins a position, since it is the first or
-- differs from the row before in one of its first keys; and the guard of a dense level, which stores nothing itself.
use Rattle.std.specs.Prelude.{ℕ, zero, suc, List, [], ◌∷◌}
use Rattle.limits.specs.Limits.{greatest_position_count}
use Rattle.kernel_code.specs.declared.syntax.Arr.TheVariants.{Key, Values}
use Rattle.kernel_code.specs.declared.syntax.Op.TheVariants.{Sub, Or, Less, Equal, NotEqual}
use Rattle.kernel_code.specs.declared.syntax.KExpr.{KExpr, Num, Var, At, Bin}
use Rattle.kernel_code.specs.declared.syntax.KStmt.{KStmt, If, Extend}

-- the row in variable `base` differs from the row before in one of the first n keys
abbrev pub differs : ℕ → ℕ → ℕ → KExpr
differs base w zero = Num 0
differs base w (suc n) =
    Bin Or (differs base w n) (Bin NotEqual (At (Key w n) (Bin Sub (Var base) (Num 1))) (At (Key w n) (Var base)))

abbrev pub begins_test : ℕ → ℕ → ℕ → KExpr
begins_test base w n = Bin Or (Bin Equal (Var base) (Num 0)) (differs base w n)

-- a number of positions in variable `base` that passes the limit is refused as a growth of the values
abbrev pub guard_code : ℕ → List KStmt
guard_code base = If (Bin Less (Num greatest_position_count) (Var base)) (Extend (Values 0) (Var base) (Num 0) ∷ []) [] ∷ []
