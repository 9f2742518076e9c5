-- Which code takes no memory: where it appends nothing and sorts nothing.
use Rattle.std.specs.Prelude.{ℕ, List, [], ◌∷◌}
use Rattle.kernel_code.specs.declared.syntax.KStmt.{KStmt, Set, Combine, Put, AddTo, Push, Extend, Cut, Sort, SortSum, If', While'}
use Rattle.kernel_code.specs.declared.syntax.KStmt.{Row_of-KStmt, end_of-KStmt, more_of-KStmt}
use Rattle.machine_parts.specs.ArrayPlaces.{room_of}
use Rattle.kernel_interpreter.specs.declared.machine.Machine.{Machine}

-- a statement that appends no words and sorts no rows
abbrev pub IsInPlace : KStmt → Type 0
IsInPlace (Push a e) = ⊥
IsInPlace (Extend a count e) = ⊥
IsInPlace (Sort g) = ⊥
IsInPlace (SortSum w) = ⊥
IsInPlace _ = Unit {0}

abbrev mutual
  -- each statement that this one is made of is such
  pub Throughout : (KStmt → Type 0) → KStmt → Type 0
  Throughout P (If' e p first q second) = Throughout_row P first × Throughout_row P second
  Throughout P (While' k e p body) = Throughout_row P body
  Throughout P (Set x e) = P (Set x e)
  Throughout P (Combine x o e f) = P (Combine x o e f)
  Throughout P (Put a i e) = P (Put a i e)
  Throughout P (AddTo a i e) = P (AddTo a i e)
  Throughout P (Push a e) = P (Push a e)
  Throughout P (Extend a count e) = P (Extend a count e)
  Throughout P (Cut a e) = P (Cut a e)
  Throughout P (Sort g) = P (Sort g)
  Throughout P (SortSum w) = P (SortSum w)

  pub Throughout_row : {m : _} → (KStmt → Type 0) → Row_of-KStmt m → Type 0
  Throughout_row P end_of-KStmt = Unit {0}
  Throughout_row P (more_of-KStmt s rest) = Throughout P s × Throughout_row P rest

-- each statement that code is made of is such
abbrev pub Through : (KStmt → Type 0) → List KStmt → Type 0
Through P [] = Unit {0}
Through P (s ∷ rest) = Throughout P s × Through P rest

-- how many variables have a place, whether or not they have a value
abbrev pub variable_room : Machine → ℕ
variable_room m = room_of m.variables
