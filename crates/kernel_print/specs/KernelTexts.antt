-- That each kernel has a text of its own.
use Rattle.std.specs.Prelude.{◌≡◌, List, [], ◌∷◌, length, ℕ}
use Rattle.kernel_code.specs.declared.syntax.KStmt.{KStmt, Set, Combine, Put, AddTo, Push}
use Rattle.kernel_code.specs.declared.syntax.KStmt.{Extend, Cut, Sort, SortSum, If', While'}
use Rattle.kernel_code.specs.declared.syntax.KStmt.{Row_of-KStmt, end_of-KStmt, more_of-KStmt}
use Rattle.kernel_code.specs.declared.syntax.Kernel.{Kernel}
use Rattle.kernel_code.specs.Semirings.{HasName}
use Rattle.kernel_print.specs.ArrayNames.{IsWord, HasWords}
use Rattle.kernel_print.specs.ExprTexts.{ExprHasWords}
use Rattle.kernel_print.specs.Text.{kernel_text}

abbrev mutual
  -- the numbers in a statement are words, as those of each statement in a program are
  pub StatementHasWords : KStmt → Type 0
  StatementHasWords (Set x e) = IsWord x × ExprHasWords e
  StatementHasWords (Combine x o e f) = IsWord x × (ExprHasWords e × ExprHasWords f)
  StatementHasWords (Put a i e) = HasWords a × (ExprHasWords i × ExprHasWords e)
  StatementHasWords (AddTo a i e) = HasWords a × (ExprHasWords i × ExprHasWords e)
  StatementHasWords (Push a e) = HasWords a × ExprHasWords e
  StatementHasWords (Extend a count e) = HasWords a × (ExprHasWords count × ExprHasWords e)
  StatementHasWords (Cut a e) = HasWords a × ExprHasWords e
  StatementHasWords (Sort g) = IsWord g
  StatementHasWords (SortSum w) = IsWord w
  StatementHasWords (If' e p first q second) = ExprHasWords e × (RowHasWords first × RowHasWords second)
  StatementHasWords (While' k e p body) = ExprHasWords e × RowHasWords body

  pub RowHasWords : {m : _} → Row_of-KStmt m → Type 0
  RowHasWords end_of-KStmt = Unit {0}
  RowHasWords (more_of-KStmt s rest) = StatementHasWords s × RowHasWords rest

abbrev pub CodeHasWords : List KStmt → Type 0
CodeHasWords [] = Unit {0}
CodeHasWords (s ∷ rest) = StatementHasWords s × CodeHasWords rest

abbrev pub AreWords : List ℕ → Type 0
AreWords [] = Unit {0}
AreWords (n ∷ rest) = IsWord n × AreWords rest

-- the numbers in a kernel and the number of its workspaces are words, as those of each kernel in a program are, and the name of its
-- semiring has letters alone, as that of each semiring has
pub record KernelHasWords (k : Kernel) : Type 0 where
  pub semiring : HasName k.semiring
  pub keys : AreWords k.workspaces
  pub workspaces : IsWord (length k.workspaces)
  pub lists : IsWord k.lists
  pub body : CodeHasWords k.body

-- two kernels with one text are one kernel
abbrev pub TextsTellKernels : Type 0
TextsTellKernels = (j k : Kernel) → KernelHasWords j → KernelHasWords k → kernel_text j ≡ kernel_text k → j ≡ k
