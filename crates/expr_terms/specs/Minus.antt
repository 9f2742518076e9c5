-- Where a minus means something: an arithmetic of values may have none.
use Rattle.std.specs.Prelude.{◌≡◌, Bool, true, false, ◌||◌}
use Rattle.index_notation.specs.declared.syntax.Expr.{Expr, Num, Access as AccessOf, Binary', Neg', Row_of-Expr, end_of-Expr, more_of-Expr}
use Rattle.index_notation.specs.Operators.{is_minus}

abbrev mutual
  -- whether a minus stands in the expression
  pub has_minus : Expr → Bool
  has_minus (Num n) = false
  has_minus (AccessOf k) = false
  has_minus (Binary' o p e q f) = is_minus o || (has_minus_in e || has_minus_in f)
  has_minus (Neg' p e) = true

  -- the same of the one expression in a box
  pub has_minus_in : {m : _} → Row_of-Expr m → Bool
  has_minus_in end_of-Expr = false
  has_minus_in (more_of-Expr e rest) = has_minus e

-- where there is no minus, none stands in the expression
abbrev pub HasMeaning : Bool → Expr → Type 0
HasMeaning true e = Unit {0}
HasMeaning false e = has_minus e ≡ false
