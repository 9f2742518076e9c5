-- Pieces of code that crates above make again and again.
use Rattle.std.specs.Prelude.{ℕ, ◌+◌, List, [], ◌∷◌}
use Rattle.kernel_code.specs.declared.syntax.Op.TheVariants.{Add}
use Rattle.kernel_code.specs.declared.syntax.KExpr.{KExpr, Num, Bin}
use Rattle.kernel_code.specs.declared.syntax.KStmt.{KStmt, Set}

-- a position left in a variable, and the next position in the variable after it
abbrev pub position_and_next : ℕ → KExpr → List KStmt
position_and_next free position = Set free position ∷ Set (free + 1) (Bin Add position (Num 1)) ∷ []
