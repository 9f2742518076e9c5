-- The loop that finds a group's end.
use Rattle.std.specs.Prelude.{ℕ, ◌+◌, List, [], ◌∷◌}
use Rattle.kernel_code.specs.declared.syntax.Arr.{Arr}
use Rattle.kernel_code.specs.declared.syntax.LoopKind.TheVariants.{Skip}
use Rattle.kernel_code.specs.declared.syntax.Op.TheVariants.{Add, Less, Equal, And}
use Rattle.kernel_code.specs.declared.syntax.KExpr.{KExpr, Num, Var, At, Bin}
use Rattle.kernel_code.specs.declared.syntax.KStmt.{KStmt, Set, While}

-- the next position is in the segment, and its coordinate is that of the first
abbrev pub skip_test : Arr → ℕ → KExpr
skip_test a free = Bin And (Bin Less (Var (free + 1)) (Var (free + 2))) (Bin Equal (At a (Var (free + 1))) (Var (free + 3)))

abbrev pub skip_body : ℕ → List KStmt
skip_body free = Set (free + 1) (Bin Add (Var (free + 1)) (Num 1)) ∷ []

-- the first position stays in free, and free + 1 goes past the others of its group
abbrev pub skip_code : Arr → ℕ → KExpr → KExpr → List KStmt
skip_code a free pos hi = Set free pos ∷ Set (free + 1) (Bin Add pos (Num 1)) ∷ Set (free + 2) hi ∷ Set (free + 3)
    (At a (Var free)) ∷ While Skip (skip_test a free) (skip_body free) ∷ []
