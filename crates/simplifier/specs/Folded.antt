-- What isn't left in simple code: what numbers settle.
use Rattle.std.specs.Prelude.{◌≡◌, ◌≢◌, ℕ, min, Bool, false, ◌==◌, List, [], ◌∷◌, Option, Some, None}
use Rattle.numbers.specs.Arithmetic.{Arithmetic}
use Rattle.numbers.specs.Ring.{ring}
use Rattle.kernel_code.specs.declared.syntax.KExpr.{KExpr, Num, Var, At', Len, Bin', Min', Width', Row_of-KExpr, end_of-KExpr}
use Rattle.kernel_code.specs.declared.syntax.KExpr.{more_of-KExpr}
use Rattle.kernel_code.specs.declared.syntax.KStmt.{KStmt, Set, Combine, Put, AddTo, Push, Extend, Cut, Sort, SortSum, If', While'}
use Rattle.kernel_code.specs.declared.syntax.KStmt.{Row_of-KStmt, end_of-KStmt, more_of-KStmt}
use Rattle.kernel_code.specs.declared.syntax.Op.{Op}
use Rattle.kernel_code.specs.declared.syntax.Op.TheVariants.{Add, Mul}
use Rattle.kernel_code.specs.declared.syntax.ValueOp.{ValueOp}
use Rattle.kernel_code.specs.declared.syntax.ValueOp.TheVariants.{Plus, Times}
use Rattle.kernel_code.specs.Meaning.{apply_each, apply_both, width_of}

-- the number that an expression is, if it is one
abbrev pub number_of : KExpr → Option ℕ
number_of (Num n) = Some n
number_of (Var x) = None
number_of (At' a p i) = None
number_of (Len a) = None
number_of (Bin' o p a q b) = None
number_of (Min' p a q b) = None
number_of (Width' p e) = None

-- whether an expression is the number 0
abbrev pub is_zero : KExpr → Bool
is_zero (Num n) = n == 0
is_zero (Var x) = false
is_zero (At' a p i) = false
is_zero (Len a) = false
is_zero (Bin' o p a q b) = false
is_zero (Min' p a q b) = false
is_zero (Width' p e) = false

abbrev pub number_in : {m : _} → Row_of-KExpr m → Option ℕ
number_in end_of-KExpr = None
number_in (more_of-KExpr e rest) = number_of e

abbrev mutual
  -- numbers settle no operator, no least of two and no width: not where each operand is a number (but for a number that has
  -- no width), nor where the first one decides `&&` or `||`
  pub Folded : KExpr → Type 0
  Folded (Num n) = Unit {0}
  Folded (Var x) = Unit {0}
  Folded (At' a p i) = Folded_in i
  Folded (Len a) = Unit {0}
  Folded (Bin' o p a q b) = (apply_both o (number_in a) (number_in b) ≡ None) × (Folded_in a × Folded_in b)
  Folded (Min' p a q b) = (apply_each min (number_in a) (number_in b) ≡ None) × (Folded_in a × Folded_in b)
  Folded (Width' p e) = (width_of (number_in e) ≡ None) × Folded_in e

  pub Folded_in : {m : _} → Row_of-KExpr m → Type 0
  Folded_in end_of-KExpr = Unit {0}
  Folded_in (more_of-KExpr e rest) = Folded e

-- an expression in which numbers settle nothing
pub record SimpleExpr (e : KExpr) : Type 0 where
  pub folded : Folded e

abbrev mutual
  -- each expression is simple, no `if` has a number for a test, and no loop has 0; over the ring, whose sums and
  -- products are those of words, no sum or product of values is left beside them
  pub FoldedStep : Arithmetic → KStmt → Type 0
  FoldedStep a (Set x e) = SimpleExpr e
  FoldedStep a (Combine x o e f) = (a ≢ ring) × (SimpleExpr e × SimpleExpr f)
  FoldedStep a (Put array i e) = SimpleExpr i × SimpleExpr e
  FoldedStep a (AddTo array i e) = SimpleExpr i × SimpleExpr e
  FoldedStep a (Push array e) = SimpleExpr e
  FoldedStep a (Extend array count e) = SimpleExpr count × SimpleExpr e
  FoldedStep a (Cut array e) = SimpleExpr e
  FoldedStep a (Sort g) = Unit {0}
  FoldedStep a (SortSum w) = Unit {0}
  FoldedStep a (If' e p first q second) = (number_of e ≡ None) × (SimpleExpr e × (FoldedRow a first × FoldedRow a second))
  FoldedStep a (While' k e p body) = (is_zero e ≡ false) × (SimpleExpr e × FoldedRow a body)

  pub FoldedRow : {m : _} → Arithmetic → Row_of-KStmt m → Type 0
  FoldedRow a end_of-KStmt = Unit {0}
  FoldedRow a (more_of-KStmt s rest) = FoldedStep a s × FoldedRow a rest

abbrev pub FoldedCode : Arithmetic → List KStmt → Type 0
FoldedCode a [] = Unit {0}
FoldedCode a (s ∷ rest) = FoldedStep a s × FoldedCode a rest

-- statements in which numbers settle nothing, over an arithmetic of values
pub record SimpleCode (a : Arithmetic) (code : List KStmt) : Type 0 where
  pub folded : FoldedCode a code

-- the operator of words that the ring's sum or product is
abbrev pub operator_for : ValueOp → Op
operator_for Plus = Add
operator_for Times = Mul
