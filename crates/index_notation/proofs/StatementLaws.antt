-- Lemmas about what specs/Statement.antt defines.
use Rattle.std.specs.Prelude.{◌≡◌, ℕ, refl}
use denote.Hole.Carrier.{hidden}
use Rattle.index_notation.specs.declared.syntax.Expr.{Expr, Binary, Neg}
use Rattle.index_notation.specs.declared.operator.Operator.{Operator}
use Rattle.index_notation.specs.declared.syntax.Expr.TheBlock.{hidden-the_row-Expr-0}
use Rattle.index_notation.specs.Statement.{AccessesUnder}

-- what stands in an expression that is made of its parts
pub accesses_under_binary : (n : ℕ) (o : Operator) (a b : Expr)
    → AccessesUnder n (Binary o a b) ≡ (AccessesUnder n a × AccessesUnder n b)
unfolding hidden-the_row-Expr-0 hidden
accesses_under_binary n o a b = refl

pub accesses_under_neg : (n : ℕ) (a : Expr) → AccessesUnder n (Neg a) ≡ AccessesUnder n a
unfolding hidden-the_row-Expr-0 hidden
accesses_under_neg n a = refl
