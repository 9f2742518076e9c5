-- When the operands of a statement, tensor 1 and on, fit it and the ranges of its variables.
use Rattle.std.specs.Prelude.{◌≡◌, ℕ, zero, suc, ◌+◌, ◌<◌, ◌≤◌, List, Option}
use Rattle.std.specs.Prelude.{None, Some, length, map, All, slice_get, slice_index}
use Rattle.limits.specs.Limits.{greatest_position_count}
use Rattle.tensor_map.specs.Entries.{Entries}
use Rattle.lists.specs.Each.{Each}
use Rattle.index_notation.specs.Statement.{IsNumberedWithSums, IsWellNamed, numbers_from}
use Rattle.index_notation.specs.declared.syntax.Access.{Access}
use Rattle.index_notation.specs.declared.syntax.Statement.{Statement}
use Rattle.iteration_graph.specs.Edges.{HasFormat}
use Rattle.expr_terms.specs.Operands.{entries_of}
use Rattle.expr_terms.specs.Ranges.{mode_size}
use Rattle.expr_terms.specs.declared.bound.Bound.{Bound}
use Rattle.expr_terms.specs.declared.bound.Bound.TheVariants.{Exact, AtLeast}
use Rattle.tns_io.specs.Positions.{IsBelow}
use Rattle.format_spec.specs.declared.format.FormatLevel.{FormatLevel}

-- the sizes of the first modes of a tensor, so many as its order: each the greatest range of the variables that stand there in any access
abbrev pub mode_sizes : Statement → (ℕ → ℕ) → ℕ → ℕ → List ℕ
mode_sizes s ranges tensor order = map (mode_size s ranges tensor) (numbers_from 0 order)

-- the operand of a tensor: the first is tensor 1
abbrev pub operand_of : List Entries → ℕ → Option Entries
operand_of operands zero = None
operand_of operands (suc n) = slice_get operands n

-- there is an operand, of this order
abbrev pub HasOrder : ℕ → Option Entries → Type 0
HasOrder order None = ⊥
HasOrder order (Some entries) = entries.order ≡ order

-- the access reads an operand, and has a variable for each of its modes
abbrev pub ReadsOperand : List Entries → Access → Type 0
ReadsOperand operands access = HasOrder (length access.vars) (operand_of operands access.tensor)

-- some access reads the tensor
pub record IsRead (accesses : List Access) (tensor : ℕ) : Type 0 where
  pub place : ℕ
  pub access : Access
  pub stands : slice_get accesses place ≡ Some access
  pub tensor_is : access.tensor ≡ tensor

-- each tensor of a statement has a format of its order, and there is an operand for each but the result, which some access reads
pub record AreOperands (s : Statement) (formats : List (List FormatLevel)) (operands : List Entries) : Type 0 where
  pub numbered : IsNumberedWithSums s
  pub named : IsWellNamed s
  pub many : length operands + 1 ≡ length s.tensors
  pub formats_many : length formats ≡ length s.tensors
  pub result_format : HasFormat formats s.left
  pub formats_fit : Each (HasFormat formats) s.accesses
  pub reads : Each (ReadsOperand operands) s.accesses
  pub read : (n : ℕ) → n < length operands → IsRead s.accesses (n + 1)

-- each entry that the access reads has a coordinate for each of its variables, below the variable's range
abbrev pub ReadsBelow : List Entries → (ℕ → ℕ) → Access → Type 0
ReadsBelow operands ranges access = All (λ entry. IsBelow (map ranges access.vars) entry.coords) (entries_of operands access.tensor)

-- so does each access of the right side
abbrev pub AreBelowRanges : Statement → List Entries → (ℕ → ℕ) → Type 0
AreBelowRanges s operands ranges = Each (ReadsBelow operands ranges) s.accesses

-- there is a range for each variable, none above what a level may have, and above the coordinates that are read at the variable
pub record AreRanges (s : Statement) (operands : List Entries) (ranges : List ℕ) : Type 0 where
  pub long : length ranges ≡ length s.vars
  pub small : All (λ range. range ≤ greatest_position_count) ranges
  pub below : AreBelowRanges s operands (slice_index ranges)

-- what a bound of a mode says of a coordinate there: it is below this number, an exact size or the greatest coordinate, counted from 1
abbrev pub limit_of : Bound → ℕ
limit_of (Exact size) = size
limit_of (AtLeast greatest) = greatest

-- each entry that the access reads has a coordinate for each of its variables, as the bounds of its tensor's modes say
pub record IsBounded (bounds : ℕ → Bound) (order : ℕ) (coords : List ℕ) : Type 0 where
  pub long : length coords ≡ order
  pub each : (mode : ℕ) → mode < order → slice_index coords mode < limit_of (bounds mode)

abbrev pub ReadsBounded : List Entries → (ℕ → ℕ → Bound) → Access → Type 0
ReadsBounded operands bounds access =
    All (λ entry. IsBounded (bounds access.tensor) (length access.vars) entry.coords) (entries_of operands access.tensor)

abbrev pub AreBounded : Statement → List Entries → (ℕ → ℕ → Bound) → Type 0
AreBounded s operands bounds = Each (ReadsBounded operands bounds) s.accesses
