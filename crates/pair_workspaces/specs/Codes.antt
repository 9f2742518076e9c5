-- The code that takes a row of a workspace of pairs, and the one that empties it.
use Rattle.std.specs.Prelude.{ℕ, zero, suc, ◌+◌, List, [], ◌∷◌, ◌++◌}
use Rattle.kernel_code.specs.declared.syntax.Arr.TheVariants.{Key, Sums}
use Rattle.kernel_code.specs.declared.syntax.Op.TheVariants.{Less}
use Rattle.kernel_code.specs.declared.syntax.KExpr.{KExpr, Num, Var, At, Len, Bin}
use Rattle.kernel_code.specs.declared.syntax.KStmt.{KStmt, Set, Cut}

-- the first n coordinates of the row whose place stands in a variable, left in the variables from free on
abbrev pub read_code : ℕ → ℕ → ℕ → ℕ → List KStmt
read_code w at free zero = []
read_code w at free (suc n) = read_code w at free n ++ Set (free + n) (At (Key w n) (Var at)) ∷ []

-- all of them, and the value behind them
abbrev pub take_code : ℕ → ℕ → ℕ → ℕ → List KStmt
take_code w keys at free = read_code w at free keys ++ Set (free + keys) (At (Sums w) (Var at)) ∷ []

-- whether a row waits
abbrev pub wait_test : ℕ → ℕ → KExpr
wait_test w at = Bin Less (Var at) (Len (Sums w))

-- the first n columns of coordinates are emptied
abbrev pub cut_code : ℕ → ℕ → List KStmt
cut_code w zero = []
cut_code w (suc n) = cut_code w n ++ Cut (Key w n) (Num 0) ∷ []

-- and the values
abbrev pub empty_code : ℕ → ℕ → List KStmt
empty_code w keys = cut_code w keys ++ Cut (Sums w) (Num 0) ∷ []
