-- What is so of loops that a statement was lowered to, and of the rows that they add to a dense result.
use Rattle.std.specs.Prelude.{◌≡◌, ℕ, ◌<◌, Bool, false, List, [], length, All}
use Rattle.numbers.specs.Arithmetic.{Arithmetic, Laws}
use Rattle.format_spec.specs.declared.format.FormatLevel.{FormatLevel}
use Rattle.format_spec.specs.Formats.{modes_of}
use Rattle.index_notation.specs.Statement.{IsNumbered}
use Rattle.index_notation.specs.declared.syntax.NestedSum.{NestedSum}
use Rattle.index_notation.specs.declared.syntax.Statement.{Statement}
use Rattle.lists.specs.Each.{Each}
use Rattle.expr_terms.specs.Minus.{HasMeaning}
use Rattle.expr_terms.specs.ValueLaws.{HasWords}
use Rattle.concrete_notation.specs.declared.concrete.Concrete.{Concrete}
use Rattle.concrete_notation.specs.Contributions.{Inputs}
use Rattle.concrete_notation.specs.Nests.{IsOrderOf}
use Rattle.loop_code.specs.declared.loops.LoopCode.{LoopCode}
use Rattle.lowering.specs.Lowered.{AddsRows, IsInOrder, concrete_of, plain}
use Rattle.lowering.specs.Right.{pairs, rows_to}
use Rattle.lowering.specs.Shapes as shapes
use Rattle.lowering.specs.Sums.{HasSums}
use Rattle.term_code.specs.DenseSinks.{IsWithin}
use Rattle.kernel_correctness.specs.Kernels.{standing_order}
use Rattle.kernel_correctness.specs.Stores.{Store, told_by}
use Rattle.operand_arrays.specs.Operands.{stored_in}
use Rattle.operand_arrays.specs.Terms.{EachTerm, EachVariable, IsMeant, TargetIsBound}
use Rattle.dense_results.specs.Operands.{IsReadStore, operands_in}
use Rattle.dense_results.specs.Results.{IsDenseStore, left_ranges}

-- loops go through variables of the statement, inside the loops around a term all variables of the left side have coordinates, and
-- where the statement has a meaning, and what stands inside of its sums, each term has one
pub record GoThrough (s : Statement) (has_minus : Bool) (loops : LoopCode) : Type 0 where
  pub variables : EachVariable (λ v. v < length s.vars) loops
  pub bound : TargetIsBound s.left.vars [] loops
  pub meant : HasMeaning has_minus s.expr → Each (λ (sum : NestedSum). HasMeaning has_minus sum.inside) s.sums
      → EachTerm (IsMeant has_minus) loops

abbrev pub LoweredLoopsGoThrough : Type 0
LoweredLoopsGoThrough = (s : Statement) → IsNumbered s → (formats : List (List FormatLevel)) → HasSums s formats → (c : Concrete)
    → IsInOrder s formats c → (loops : LoopCode) → concrete_of loops ≡ plain c → shapes.HasStarts s [] (λ k. false) loops
    → (has_minus : Bool) → GoThrough s has_minus loops

-- each row that loops add has coordinates below the ranges of the left side, and a word as its value
abbrev pub RowsAreTaken : Type 0
RowsAreTaken = (a : Arithmetic) → Laws a → (s : Statement) (formats : List (List FormatLevel)) (store : Store)
    → IsDenseStore s formats store → IsReadStore s formats store → (c : Concrete) → IsInOrder s formats c
    → (loops : LoopCode) → AddsRows s formats c loops → shapes.EachTerm (λ t. HasWords t.expr) loops
    → All (IsWithin (modes_of store.format) (left_ranges s store))
    (rows_to a s formats (told_by a s store) (stored_in (operands_in s store)) s.left.vars loops)

-- there are as many pairs of a term and a point in one order of the variables as in another
abbrev pub PairsInAnyOrder : Type 0
PairsInAnyOrder = (s : Statement) → IsNumbered s → (order : List ℕ) → IsOrderOf (length s.vars) order → (inputs : Inputs)
    → pairs s order inputs ≡ pairs s (standing_order s) inputs
