-- The value of an expression of which only some accesses are present: a product is present where both factors are, a sum or a
-- difference where one side is, which is then its value.
use Rattle.std.specs.Prelude.{ℕ, Bool, true, false, Option, Some, None}
use Rattle.numbers.specs.Arithmetic.{Arithmetic}
use Rattle.index_notation.specs.declared.operator.Operator.{Operator}
use Rattle.index_notation.specs.declared.operator.Operator.TheVariants as op
use Rattle.index_notation.specs.declared.syntax.Expr.{Expr, Num, Access as AccessOf, Binary', Neg', Row_of-Expr, end_of-Expr, more_of-Expr}
use Rattle.expr_terms.specs.Value.{minus}

-- of two, where both are there
abbrev pub both : (ℕ → ℕ → ℕ) → Option ℕ → Option ℕ → Option ℕ
both f None y = None
both f (Some x) None = None
both f (Some x) (Some y) = Some (f x y)

-- where one is there, that one
abbrev pub either : (ℕ → ℕ → ℕ) → Option ℕ → Option ℕ → Option ℕ
either f None y = y
either f (Some x) None = Some x
either f (Some x) (Some y) = Some (f x y)

-- of one, where it is there
abbrev pub each : (ℕ → ℕ) → Option ℕ → Option ℕ
each f None = None
each f (Some x) = Some (f x)

-- an operator of two values that are there or not
abbrev pub present_applied : Arithmetic → Operator → Option ℕ → Option ℕ → Option ℕ
present_applied a op.Add x y = either a.plus x y
present_applied a op.Sub x y = either a.plus x (each (minus a) y)
present_applied a op.Mul x y = both a.times x y

abbrev mutual
  -- the value of an expression, if it is present, by the values of the accesses that are present
  pub present_value : Arithmetic → (ℕ → Option ℕ) → Expr → Option ℕ
  present_value a values (Num n) = Some n
  present_value a values (AccessOf k) = values k
  present_value a values (Binary' o p e q f) = present_applied a o (present_value_in a values e) (present_value_in a values f)
  present_value a values (Neg' p e) = each (minus a) (present_value_in a values e)

  -- the same of the one expression in a box
  pub present_value_in : {m : _} → Arithmetic → (ℕ → Option ℕ) → Row_of-Expr m → Option ℕ
  present_value_in a values end_of-Expr = None
  present_value_in a values (more_of-Expr e rest) = present_value a values e

-- by minus one where the term is negated
abbrev pub signed : Arithmetic → Bool → Option ℕ → Option ℕ
signed a true x = each (minus a) x
signed a false x = x
