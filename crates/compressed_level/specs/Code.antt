-- The code of compressed levels.
use Rattle.std.specs.Prelude.{ℕ, List, [], ◌∷◌}
use Rattle.kernel_code.specs.declared.syntax.Arr.TheVariants.{Ends}
use Rattle.kernel_code.specs.declared.syntax.Op.TheVariants.{Add, Sub, Less}
use Rattle.kernel_code.specs.declared.syntax.KExpr.{KExpr, Num, Len, Bin}
use Rattle.kernel_code.specs.declared.syntax.KStmt.{KStmt, Put, Extend, If}

-- zeros behind the segment ends, where there are fewer than the parents need: one more than there are parents
abbrev pub reserve_code : ℕ → KExpr → List KStmt
reserve_code level p = If (Bin Less p (Len (Ends 0 level))) []
    (Extend (Ends 0 level) (Bin Sub p (Bin Sub (Len (Ends 0 level)) (Num 1))) (Num 0) ∷ []) ∷ []

-- the number of positions of a parent
abbrev pub edges_code : ℕ → KExpr → KExpr → KExpr → List KStmt
edges_code level p b e = Put (Ends 0 level) (Bin Add p (Num 1)) (Bin Sub e b) ∷ []
