-- When a statement is well formed: facts of which the calls that take a statement name some.
use Rattle.std.specs.Prelude.{◌≡◌, ◌≢◌, ℕ, zero, suc, ◌+◌, ◌<◌, ◌≤◌, List, [], ◌∷◌, length}
use Rattle.limits.specs.Limits.{greatest_order, greatest_variables}
use Rattle.index_notation.specs.declared.syntax.Access.{Access}
use Rattle.index_notation.specs.declared.syntax.Expr.{Expr, Num, Access as AccessOf, Binary', Neg', Row_of-Expr, end_of-Expr}
use Rattle.index_notation.specs.declared.syntax.Expr.{more_of-Expr}
use Rattle.index_notation.specs.declared.syntax.NestedSum.{NestedSum}
use Rattle.index_notation.specs.declared.syntax.Statement.{Statement}
use Rattle.lists.specs.Each.{Each}

-- no two elements are equal
abbrev pub IsDistinct : List ℕ → Type 0
IsDistinct [] = Unit {0}
IsDistinct (x ∷ xs) = Each (λ y. x ≢ y) xs × IsDistinct xs

-- count numbers one after another, from n on
abbrev pub numbers_from : ℕ → ℕ → List ℕ
numbers_from n zero = []
numbers_from n (suc count) = n ∷ numbers_from (n + 1) count

-- an access to one of so many tensors by some of so many variables
pub record IsAccess (tensors vars : ℕ) (a : Access) : Type 0 where
  pub tensor : a.tensor < tensors
  pub vars_stand : Each (λ v. v < vars) a.vars
  pub order : length a.vars ≤ greatest_order

-- the same but for the limit: an access of an expression, which may also be to a tensor that no file has
pub record IsRead (tensors vars : ℕ) (a : Access) : Type 0 where
  pub tensor : a.tensor < tensors
  pub vars_stand : Each (λ v. v < vars) a.vars

abbrev mutual
  -- the accesses of an expression are among so many
  pub AccessesUnder : ℕ → Expr → Type 0
  AccessesUnder n (Num k) = Unit {0}
  AccessesUnder n (AccessOf k) = k < n
  AccessesUnder n (Binary' o p a q b) = AccessesUnder_in n a × AccessesUnder_in n b
  AccessesUnder n (Neg' p a) = AccessesUnder_in n a

  -- the same of the one expression in a box
  pub AccessesUnder_in : {m : _} → ℕ → Row_of-Expr m → Type 0
  AccessesUnder_in n end_of-Expr = Unit {0}
  AccessesUnder_in n (more_of-Expr e rest) = AccessesUnder n e

-- sums, of which the first has this number, go over some of so many variables, and inside each stand accesses and earlier sums
abbrev pub AreSums : ℕ → ℕ → List NestedSum → Type 0
AreSums vars n [] = Unit {0}
AreSums vars n (sum ∷ sums) = (sum.var < vars) × AccessesUnder n sum.inside × AreSums vars (n + 1) sums

-- each number of a tensor, a variable, an access and a nested sum stands in its list, within the limits
pub record IsNumberedWithSums (s : Statement) : Type 0 where
  pub left : IsAccess (length s.tensors) (length s.vars) s.left
  pub right : Each (IsAccess (length s.tensors) (length s.vars)) s.accesses
  pub sums : AreSums (length s.vars) (length s.accesses) s.sums
  pub expr : AccessesUnder (length s.accesses + length s.sums) s.expr
  pub variables : length s.vars ≤ greatest_variables

-- the same where no nested sum stands in the expression: each number of a tensor, a variable and an access stands in its list
pub record IsNumbered (s : Statement) : Type 0 where
  pub left : IsAccess (length s.tensors) (length s.vars) s.left
  pub right : Each (IsRead (length s.tensors) (length s.vars)) s.accesses
  pub expr : AccessesUnder (length s.accesses) s.expr
  pub variables : length s.vars ≤ greatest_variables

-- two accesses of one tensor have one number of variables
abbrev pub HaveOneOrder : Access → Access → Type 0
HaveOneOrder a b = a.tensor ≡ b.tensor → length a.vars ≡ length b.vars

-- each access has the order of every later one of its tensor
abbrev pub HaveOrders : List Access → Type 0
HaveOrders [] = Unit {0}
HaveOrders (a ∷ rest) = Each (HaveOneOrder a) rest × HaveOrders rest

-- what the checks of names show: the result is tensor 0 and isn't read, each tensor has one order, no access
-- has a variable twice, and the left side's variables are numbered 0, 1 and so on
pub record IsWellNamed (s : Statement) : Type 0 where
  pub result : s.left.tensor ≡ 0
  pub unread : Each (λ a. a.tensor ≢ 0) s.accesses
  pub orders : HaveOrders (s.left ∷ s.accesses)
  pub left_once : IsDistinct s.left.vars
  pub right_once : Each (λ a. IsDistinct a.vars) s.accesses
  pub standing : s.left.vars ≡ numbers_from 0 (length s.left.vars)
