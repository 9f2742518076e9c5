-- What fragments are made of: values of their arguments, words read, and answers left in one variable or two.
use Rattle.std.specs.Prelude.{◌≡◌, ℕ, ◌+◌, List, [], ◌∷◌, Some}
use Rattle.kernel_code.specs.declared.syntax.KStmt.{Set}
use Rattle.level_core.specs.Fragments.{State, KExpr, KStmt}

-- one variable set
abbrev pub one_code : ℕ → KExpr → List KStmt
one_code free e = Set free e ∷ []

-- two variables set
abbrev pub two_code : ℕ → KExpr → KExpr → List KStmt
two_code free e f = Set free e ∷ Set (free + 1) f ∷ []

-- two variables hold these numbers
pub record TwoLeft (free v w : ℕ) (s : State) : Type 0 where
  pub first : s.vars free ≡ Some v
  pub second : s.vars (free + 1) ≡ Some w
