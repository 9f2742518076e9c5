-- The statement that one with `+=` stands for: its right side is the old tensor of the result's file, and then what is written. The
-- old tensor is tensor 1, of the result's name; the operands that are written come behind it.
use Rattle.std.specs.Prelude.{ℕ, ◌+◌, false, if◌then◌else◌, List, ◌∷◌, ◌++◌, map, take}
use Rattle.index_notation.specs.declared.operator.Operator.TheVariants as op
use Rattle.index_notation.specs.declared.syntax.Name.{Name}
use Rattle.index_notation.specs.declared.syntax.Access.{Access}
use Rattle.index_notation.specs.declared.syntax.Expr.{Expr, Num, Access as AccessOf, Binary, Binary', Neg', Row_of-Expr, end_of-Expr}
use Rattle.index_notation.specs.declared.syntax.Expr.{more_of-Expr}
use Rattle.index_notation.specs.declared.syntax.NestedSum.{NestedSum}
use Rattle.index_notation.specs.declared.syntax.Statement.{Statement}
use Rattle.expr_terms.specs.declared.term.Term.{Term}

-- an access of the written right side, behind the old tensor
abbrev pub moved_access : Access → Access
moved_access access = record { tensor = access.tensor + 1; vars = access.vars }

abbrev mutual
  -- an expression over the accesses behind one more
  pub moved : Expr → Expr
  moved (Num n) = Num n
  moved (AccessOf k) = AccessOf (k + 1)
  moved (Binary' o p e q f) = Binary' o p (moved_in e) q (moved_in f)
  moved (Neg' p e) = Neg' p (moved_in e)

  -- the same of the one expression in a box
  pub moved_in : {m : _} → Row_of-Expr m → Row_of-Expr m
  moved_in end_of-Expr = end_of-Expr
  moved_in (more_of-Expr e rest) = more_of-Expr (moved e) (moved_in rest)

abbrev pub moved_sum : NestedSum → NestedSum
moved_sum sum = record { var = sum.var; inside = moved sum.inside }

abbrev pub moved_term : Term → Term
moved_term term = record { negated = term.negated; expr = moved term.expr }

-- the result's name once more, before all names
abbrev pub names_with_old : List Name → List Name
names_with_old names = take 1 names ++ names

-- the access of the old tensor, with the left variables
abbrev pub old_access : List ℕ → Access
old_access vars = record { tensor = 1; vars = vars }

abbrev pub accesses_with_old : List ℕ → List Access → List Access
accesses_with_old vars accesses = old_access vars ∷ map moved_access accesses

abbrev pub expr_with_old : Expr → Expr
expr_with_old expr = Binary op.Add (AccessOf 0) (moved expr)

abbrev pub with_old : Statement → Statement
with_old s = record {
  tensors = names_with_old s.tensors;
  vars = s.vars;
  left = s.left;
  accumulate = false;
  accesses = accesses_with_old s.left.vars s.accesses;
  sums = map moved_sum s.sums;
  expr = expr_with_old s.expr;
}

-- of a statement with `=` the statement itself
abbrev pub expanded : Statement → Statement
expanded s = if s.accumulate then with_old s else s
