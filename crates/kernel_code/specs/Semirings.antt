-- Over which semiring a kernel's values are.
use Rattle.std.specs.Prelude.{◌≡◌, ℕ, Bool, true, false, List, [], ◌∷◌}
use Rattle.numbers.specs.Names.{IsName}
use Rattle.kernel_code.specs.declared.syntax.Kernel.{Kernel}
use Rattle.kernel_code.specs.declared.syntax.KernelSemiring.{KernelSemiring}
use Rattle.kernel_code.specs.declared.syntax.KernelSemiring.TheVariants.{Ring, Named}
use Rattle.kernel_code.specs.declared.syntax.KStmt.{KStmt, Set, Combine, Put, AddTo, Push, Extend, Cut, Sort, SortSum, If', While'}
use Rattle.kernel_code.specs.declared.syntax.KStmt.{Row_of-KStmt, end_of-KStmt, more_of-KStmt}

-- what a kernel tells of a semiring that is the ring or isn't, and has a name: the ring goes without
abbrev pub semiring_of : Bool → List ℕ → KernelSemiring
semiring_of true name = Ring
semiring_of false name = Named name

-- a name has letters alone
abbrev pub HasName : KernelSemiring → Type 0
HasName Ring = Unit {0}
HasName (Named name) = IsName name

abbrev mutual
  -- no sum or product of values stands in a statement
  pub StatementIsOfWords : KStmt → Type 0
  StatementIsOfWords (Set x e) = Unit {0}
  StatementIsOfWords (Combine x o e f) = ⊥
  StatementIsOfWords (Put a i e) = Unit {0}
  StatementIsOfWords (AddTo a i e) = Unit {0}
  StatementIsOfWords (Push a e) = Unit {0}
  StatementIsOfWords (Extend a count e) = Unit {0}
  StatementIsOfWords (Cut a e) = Unit {0}
  StatementIsOfWords (Sort g) = Unit {0}
  StatementIsOfWords (SortSum w) = Unit {0}
  StatementIsOfWords (If' e p first q second) = RowIsOfWords first × RowIsOfWords second
  StatementIsOfWords (While' k e p body) = RowIsOfWords body

  pub RowIsOfWords : {m : _} → Row_of-KStmt m → Type 0
  RowIsOfWords end_of-KStmt = Unit {0}
  RowIsOfWords (more_of-KStmt s rest) = StatementIsOfWords s × RowIsOfWords rest

-- nor in code
abbrev pub CodeIsOfWords : List KStmt → Type 0
CodeIsOfWords [] = Unit {0}
CodeIsOfWords (s ∷ rest) = StatementIsOfWords s × CodeIsOfWords rest

-- The semiring's name is one, and over the ring, whose sums and products are those of words, no sum or product of values stands
-- beside them: these forms stand in kernels over another semiring alone.
pub record IsWellFormed (kernel : Kernel) : Type 0 where
  pub named : HasName kernel.semiring
  pub words : kernel.semiring ≡ Ring → CodeIsOfWords kernel.body
