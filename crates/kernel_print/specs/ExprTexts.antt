-- That each expression has a text of its own.
use Rattle.std.specs.Prelude.{◌≡◌, List, ◌++◌, ℕ}
use Rattle.kernel_code.specs.declared.syntax.KExpr.{KExpr, Num, Var, At', Len, Bin', Min', Width'}
use Rattle.kernel_code.specs.declared.syntax.KExpr.{Row_of-KExpr, end_of-KExpr, more_of-KExpr}
use Rattle.kernel_print.specs.ArrayNames.{IsWord, HasWords, BeginsWithoutDigit}
use Rattle.kernel_print.specs.Text.{expr_text}

abbrev mutual
  -- the numbers in an expression are words, as those of each expression in a program are
  pub ExprHasWords : KExpr → Type 0
  ExprHasWords (Num n) = IsWord n
  ExprHasWords (Var x) = IsWord x
  ExprHasWords (At' a p i) = HasWords a × BoxedHasWords i
  ExprHasWords (Len a) = HasWords a
  ExprHasWords (Bin' o p a q b) = BoxedHasWords a × BoxedHasWords b
  ExprHasWords (Min' p a q b) = BoxedHasWords a × BoxedHasWords b
  ExprHasWords (Width' p e) = BoxedHasWords e

  pub BoxedHasWords : {m : _} → Row_of-KExpr m → Type 0
  BoxedHasWords end_of-KExpr = Unit {0}
  BoxedHasWords (more_of-KExpr e rest) = ExprHasWords e

-- where the texts of two expressions, and what stands behind each, are one text, they are one expression, with one text
-- behind it
abbrev pub TextsTellExprs : Type 0
TextsTellExprs = (e f : KExpr) (behind behind' : List ℕ) → ExprHasWords e → ExprHasWords f → BeginsWithoutDigit behind
    → BeginsWithoutDigit behind'
    → expr_text e ++ behind ≡ expr_text f ++ behind' → (e ≡ f) × (behind ≡ behind')
