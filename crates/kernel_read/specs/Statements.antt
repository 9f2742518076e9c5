-- Statements that stand on one line.
use Rattle.std.specs.Prelude.{◌≡◌, Bool, true}
use Rattle.kernel_code.specs.declared.syntax.KStmt.{KStmt, Set, Combine, Put, AddTo, Push, Extend, Cut, Sort, SortSum, If', While'}
use Rattle.kernel_print.specs.ArrayNames.{HasWords, IsWord}
use Rattle.kernel_print.specs.ExprTexts.{ExprHasWords}

-- it stands on one line, its numbers are words, and a sum or a product of values stands where these are read
abbrev pub IsSimple : Bool → KStmt → Type 0
IsSimple combines (Set x e) = IsWord x × ExprHasWords e
IsSimple combines (Combine x o e f) = (combines ≡ true) × (IsWord x × (ExprHasWords e × ExprHasWords f))
IsSimple combines (Put a i e) = HasWords a × (ExprHasWords i × ExprHasWords e)
IsSimple combines (AddTo a i e) = HasWords a × (ExprHasWords i × ExprHasWords e)
IsSimple combines (Push a e) = HasWords a × ExprHasWords e
IsSimple combines (Extend a count e) = HasWords a × (ExprHasWords count × ExprHasWords e)
IsSimple combines (Cut a e) = HasWords a × ExprHasWords e
IsSimple combines (Sort g) = IsWord g
IsSimple combines (SortSum w) = IsWord w
IsSimple combines (If' e p first q second) = ⊥
IsSimple combines (While' k e p body) = ⊥

-- it gives a variable its value
abbrev pub IsAssigned : Bool → KStmt → Type 0
IsAssigned combines (Set x e) = IsSimple combines (Set x e)
IsAssigned combines (Combine x o e f) = IsSimple combines (Combine x o e f)
IsAssigned combines _ = ⊥

-- it stores a word at an index or adds it there
abbrev pub IsStored : KStmt → Type 0
IsStored (Put a i e) = IsSimple true (Put a i e)
IsStored (AddTo a i e) = IsSimple true (AddTo a i e)
IsStored _ = ⊥

-- it has the form of a call
abbrev pub IsCalled : KStmt → Type 0
IsCalled (Push a e) = IsSimple true (Push a e)
IsCalled (Extend a count e) = IsSimple true (Extend a count e)
IsCalled (Cut a e) = IsSimple true (Cut a e)
IsCalled (Sort g) = IsSimple true (Sort g)
IsCalled (SortSum w) = IsSimple true (SortSum w)
IsCalled _ = ⊥
