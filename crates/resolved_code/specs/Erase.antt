-- For which expression and which statement of the kernel language resolved code stands.
use Rattle.std.specs.Prelude.{List, [], ◌∷◌}
use Rattle.kernel_code.specs.declared.syntax.Op.TheVariants as op
use Rattle.kernel_code.specs.declared.syntax.KExpr.{KExpr, Num, Var, At, Bin, Min}
use Rattle.kernel_code.specs.declared.syntax.KStmt.{KStmt}
use Rattle.kernel_code.specs.declared.syntax.KStmt as stmt
use Rattle.resolved_code.specs.declared.syntax.Value.{Value}
use Rattle.resolved_code.specs.declared.syntax.Value.TheVariants.{Number, Variable, AddNumber, Add, LessNumber, Less, Equal}
use Rattle.resolved_code.specs.declared.syntax.Value.TheVariants.{Least, Word, WordAfter, WordOfWord, LessWord, LessWordAfter}
use Rattle.resolved_code.specs.declared.syntax.Value.TheVariants.{Product, ProductOfWord, Other}
use Rattle.resolved_code.specs.declared.syntax.Resolved.{Resolved, Count, Set, Combine, Put, AddTo, Push, Extend, Cut, Sort, SortSum}
use Rattle.resolved_code.specs.declared.syntax.Resolved.{If', While', Row_of-Resolved, end_of-Resolved, more_of-Resolved}

abbrev pub erase_value : Value → KExpr
erase_value (Number n) = Num n
erase_value (Variable x) = Var x
erase_value (AddNumber x n) = Bin op.Add (Var x) (Num n)
erase_value (Add x y) = Bin op.Add (Var x) (Var y)
erase_value (LessNumber x n) = Bin op.Less (Var x) (Num n)
erase_value (Less x y) = Bin op.Less (Var x) (Var y)
erase_value (Equal x y) = Bin op.Equal (Var x) (Var y)
erase_value (Least x y) = Min (Var x) (Var y)
erase_value (Word a x) = At a (Var x)
erase_value (WordAfter a x n) = At a (Bin op.Add (Var x) (Num n))
erase_value (WordOfWord a b x) = At a (At b (Var x))
erase_value (LessWord x a n) = Bin op.Less (Var x) (At a (Num n))
erase_value (LessWordAfter x a y n) = Bin op.Less (Var x) (At a (Bin op.Add (Var y) (Num n)))
erase_value (Product a x b y) = Bin op.Mul (At a (Var x)) (At b (Var y))
erase_value (ProductOfWord a x b c y) = Bin op.Mul (At a (Var x)) (At b (At c (Var y)))
erase_value (Other e) = e

abbrev mutual
  -- the statement that a resolved one stands for
  pub erase : Resolved → KStmt
  erase (Count x n) = stmt.Set x (Bin op.Add (Var x) (Num n))
  erase (Set x v) = stmt.Set x (erase_value v)
  erase (Combine x o v w) = stmt.Combine x o (erase_value v) (erase_value w)
  erase (Put a i v) = stmt.Put a (erase_value i) (erase_value v)
  erase (AddTo a i v) = stmt.AddTo a (erase_value i) (erase_value v)
  erase (Push a v) = stmt.Push a (erase_value v)
  erase (Extend a count v) = stmt.Extend a (erase_value count) (erase_value v)
  erase (Cut a v) = stmt.Cut a (erase_value v)
  erase (Sort g) = stmt.Sort g
  erase (SortSum w) = stmt.SortSum w
  erase (If' v p first q second) = stmt.If (erase_value v) (erase_row first) (erase_row second)
  erase (While' k v p body) = stmt.While k (erase_value v) (erase_row body)

  pub erase_row : {m : _} → Row_of-Resolved m → List KStmt
  erase_row end_of-Resolved = []
  erase_row (more_of-Resolved s rest) = erase s ∷ erase_row rest
