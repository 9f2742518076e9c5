-- How high an expression is, which falls from an expression to its operands; and how many statements begin in one of a list.
use denote.Hole.Carrier.{hidden}
use Rattle.std.specs.Prelude.{◌≡◌, ℕ, zero, suc, ◌+◌, ◌<◌, ◌≤◌, List, [], ◌∷◌, length, slice_index_or, refl}
use Rattle.std.proofs.Common.{ap, arith}
use Rattle.kernel_code.specs.declared.syntax.Arr.{Arr}
use Rattle.kernel_code.specs.declared.syntax.KStmt.{KStmt}
use Rattle.kernel_code.specs.Meaning.{statements_in, statements_in_list}
use Rattle.kernel_code.specs.declared.syntax.Op.{Op}
use Rattle.kernel_code.specs.declared.syntax.KExpr.{KExpr, Num, Var, At, At', Len, Bin, Bin', Min, Min', Width, Width', Row_of-KExpr}
use Rattle.kernel_code.specs.declared.syntax.KExpr.{end_of-KExpr, more_of-KExpr}
use Rattle.kernel_code.specs.declared.syntax.KExpr.TheBlock.{hidden-the_row-KExpr-0}

abbrev mutual
  pub height : KExpr → ℕ
  height (Num n) = 0
  height (Var x) = 0
  height (At' a p i) = height_in i + 1
  height (Len a) = 0
  height (Bin' o p a q b) = height_in a + height_in b + 1
  height (Min' p a q b) = height_in a + height_in b + 1
  height (Width' p e) = height_in e + 1

  pub height_in : {m : _} → Row_of-KExpr m → ℕ
  height_in end_of-KExpr = 0
  height_in (more_of-KExpr e rest) = height e

pub height_at : (a : Arr) (i : KExpr) → height (At a i) ≡ height i + 1
unfolding hidden-the_row-KExpr-0 hidden
height_at a i = refl

pub height_bin : (o : Op) (a b : KExpr) → height (Bin o a b) ≡ height a + height b + 1
unfolding hidden-the_row-KExpr-0 hidden
height_bin o a b = refl

pub height_min : (a b : KExpr) → height (Min a b) ≡ height a + height b + 1
unfolding hidden-the_row-KExpr-0 hidden
height_min a b = refl

pub height_width : (e : KExpr) → height (Width e) ≡ height e + 1
unfolding hidden-the_row-KExpr-0 hidden
height_width e = refl

-- a statement of a list has no more statements than the list
pub statements_here : (code : List KStmt) (i : ℕ) (s : KStmt) → i < length code → s ≡ slice_index_or code i s
    → statements_in s ≤ statements_in_list code
statements_here [] i s l is = absurd (omega arith)
statements_here (first ∷ rest) zero s l is = let same = ap statements_in is in omega arith
statements_here (first ∷ rest) (suc i) s l is = let there = statements_here rest i s (omega arith) is in omega arith
