-- Which parts of an expression are present at a point: an access is where the coordinates of its variables are a path
-- of its tensor, a number is everywhere, a product is where both factors are, and a sum or a difference where one side
-- is. So a stored zero is present, and a present part may have the value zero.
use Rattle.std.specs.Prelude.{◌≡◌, ℕ, Bool, true, false, List, Option, None, Some, slice_get}
use Rattle.std.specs.List.{list_any}
use Rattle.numbers.specs.Arithmetic.{Arithmetic}
use Rattle.tensor_map.specs.Entries.{Entry, Entries, is_at}
use Rattle.index_notation.specs.declared.syntax.Access.{Access}
use Rattle.index_notation.specs.declared.syntax.Expr.{Expr, Num, Access as AccessOf, Binary', Neg', Row_of-Expr, end_of-Expr, more_of-Expr}
use Rattle.index_notation.specs.Operators.{is_there}
use Rattle.expr_terms.specs.Operands.{entries_of}
use Rattle.expr_terms.specs.Points.{coords_at}

-- whether some entry has these coordinates
abbrev pub is_listed : List Entry → List ℕ → Bool
is_listed entries coords = list_any (is_at coords) entries

-- whether a coordinate list is a path of a tensor, whose entries are those of its storage
abbrev pub operand_paths : List Entries → ℕ → List ℕ → Bool
operand_paths operands tensor coords = is_listed (entries_of operands tensor) coords

-- whether an access, if there is one, is present at a point
abbrev pub access_is_present : (ℕ → List ℕ → Bool) → (ℕ → ℕ) → Option Access → Bool
access_is_present paths point None = false
access_is_present paths point (Some access) = paths access.tensor (coords_at point access.vars)

abbrev mutual
  -- whether an expression over these accesses is present at a point
  pub is_present : (ℕ → List ℕ → Bool) → List Access → (ℕ → ℕ) → Expr → Bool
  is_present paths accesses point (Num n) = true
  is_present paths accesses point (AccessOf k) = access_is_present paths point (slice_get accesses k)
  is_present paths accesses point (Binary' o p e q f) =
      is_there o (is_present_in paths accesses point e) (is_present_in paths accesses point f)
  is_present paths accesses point (Neg' p e) = is_present_in paths accesses point e

  -- the same of the one expression in a box
  pub is_present_in : {m : _} → (ℕ → List ℕ → Bool) → List Access → (ℕ → ℕ) → Row_of-Expr m → Bool
  is_present_in paths accesses point end_of-Expr = false
  is_present_in paths accesses point (more_of-Expr e rest) = is_present paths accesses point e

-- a part's value where it is present, and none where it is absent: its value is then zero
abbrev pub TellsPart : Arithmetic → Bool → ℕ → Option ℕ → Type 0
TellsPart a present value None = (present ≡ false) × (value ≡ a.zero)
TellsPart a present value (Some told) = (present ≡ true) × (told ≡ value)
