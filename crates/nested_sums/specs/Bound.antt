-- The variables that nested sums bind, and the statements in which none of them is bound and free.
use Rattle.std.specs.Prelude.{◌≡◌, ℕ, Bool, false, List, [], ◌∷◌, ◌++◌, map, Option, None, Some, slice_get}
use Rattle.lists.specs.Each.{Each}
use Rattle.index_notation.specs.declared.syntax.Access.{Access}
use Rattle.index_notation.specs.declared.syntax.Expr.{Expr, Num, Access as AccessOf, Binary', Neg', Row_of-Expr, end_of-Expr, more_of-Expr}
use Rattle.index_notation.specs.declared.syntax.NestedSum.{NestedSum}
use Rattle.index_notation.specs.declared.syntax.Statement.{Statement}
use Rattle.expr_terms.specs.Nested.{flat}
use Rattle.expr_terms.specs.Terms.{contains, stands_in, stands_inside}
use Rattle.nested_sums.specs.Told.{told_with}

abbrev pub list_or_none : Option (List ℕ) → List ℕ
list_or_none None = []
list_or_none (Some vs) = vs

abbrev mutual
  -- the variables that are bound within an expression, inside of its sums too, by those that are at each access and each sum
  pub bound_in : List (List ℕ) → Expr → List ℕ
  bound_in told (Num n) = []
  bound_in told (AccessOf k) = list_or_none (slice_get told k)
  bound_in told (Binary' o p e q f) = bound_inside told e ++ bound_inside told f
  bound_in told (Neg' p e) = bound_inside told e

  -- the same of the one expression in a box
  pub bound_inside : {m : _} → List (List ℕ) → Row_of-Expr m → List ℕ
  bound_inside told end_of-Expr = []
  bound_inside told (more_of-Expr e rest) = bound_in told e

-- those of a sum: its own, and those bound inside
abbrev pub bound_by : List (List ℕ) → NestedSum → List ℕ
bound_by told sum = sum.var ∷ bound_in told sum.inside

-- an access binds none
abbrev pub none_bound : Access → List ℕ
none_bound access = []

-- those of a statement's accesses, and behind them of its sums
abbrev pub bounds : Statement → List (List ℕ)
bounds s = told_with bound_by (map none_bound s.accesses) s.sums

-- none of these variables stands in what stands beside it, nor is bound there
abbrev pub AreApart : List ℕ → (ℕ → Bool) → List ℕ → Type 0
AreApart bound stands others = Each (λ v. (stands v ≡ false) × (contains others v ≡ false)) bound

abbrev mutual
  -- no variable that is bound on one side of an operator stands, or is bound, on the other side
  pub IsClear : List Access → List (List ℕ) → Expr → Type 0
  IsClear accesses told (Num n) = Unit {0}
  IsClear accesses told (AccessOf k) = Unit {0}
  IsClear accesses told (Binary' o p e q f) =
      AreApart (bound_inside told e) (λ v. stands_inside accesses v f) (bound_inside told f)
      × AreApart (bound_inside told f) (λ v. stands_inside accesses v e) (bound_inside told e)
      × IsClear_in accesses told e × IsClear_in accesses told f
  IsClear accesses told (Neg' p e) = IsClear_in accesses told e

  -- the same of the one expression in a box
  pub IsClear_in : {m : _} → List Access → List (List ℕ) → Row_of-Expr m → Type 0
  IsClear_in accesses told end_of-Expr = Unit {0}
  IsClear_in accesses told (more_of-Expr e rest) = IsClear accesses told e

-- the same inside a sum, whose variable no sum there binds
pub record IsClearSum (accesses : List Access) (told : List (List ℕ)) (sum : NestedSum) : Type 0 where
  pub sides : IsClear accesses told sum.inside
  pub own : contains (bound_in told sum.inside) sum.var ≡ false

-- no sum's variable stands on the left, in an access outside the sum, or is bound by another sum. Sums are read as tensors of the variables
-- that are free in them; two accesses, or sums, stand on two sides of an operator, unless one stands inside the other
pub record HasNoBadSum (s : Statement) : Type 0 where
  pub left : Each (λ v. contains s.left.vars v ≡ false) (bound_in (bounds s) s.expr)
  pub free : Each (λ v. stands_in (flat s).accesses v s.expr ≡ false) (bound_in (bounds s) s.expr)
  pub sides : IsClear (flat s).accesses (bounds s) s.expr
  pub inside : Each (IsClearSum (flat s).accesses (bounds s)) s.sums
