-- Where all input is whole: then `run`, `auto` and `report` end with what they are to give, unless a fault occurs or memory is wanted.
use Rattle.std.specs.Prelude.{◌≡◌, ℕ, zero, suc, ◌≤◌, List, [], map, Option, Result, Ok, true, false, slice_get, unwrap_or}
use Rattle.std.specs.List.{list_any}
use Rattle.limits.specs.Limits.{greatest_position_count}
use Rattle.numbers.specs.Arithmetic.{Arithmetic}
use Rattle.tensor_map.specs.Entries.{Entries}
use Rattle.format_spec.specs.declared.format.FormatLevel.{FormatLevel}
use Rattle.outside.specs.Told.{Told}
use Rattle.index_notation.specs.declared.syntax.Statement.{Statement}
use Rattle.expr_terms.specs.Ranges.{ranges_of}
use Rattle.expr_terms.specs.Told.{given_at, bound_or_none}
use Rattle.expr_terms.specs.declared.bound.Bound.{Bound}
use Rattle.expr_terms.specs.declared.range_fault.RangeFault.{RangeFault}
use Rattle.operand_files.specs.Decoded.{Operand}
use Rattle.operand_files.specs.Laws.{AreTold, told_operands}
use Rattle.mode_planner.specs.declared.planned.Planned.{Planned}
use Rattle.row_orders.specs.Heads.{result_levels}
use Rattle.row_orders.specs.Takings.{calls_for_workspace, is_unordered}
use Rattle.head_pairs.specs.Heads.{head_variables, pairs_at}
use Rattle.kernel_correctness.specs.Kernels.{looped}
use Rattle.kernel_correctness.specs.Stores.{Store, told_by}
use Rattle.taco_compiler.specs.Compiled.{IsOrder}
use Rattle.taco_compiler.specs.Tails.{HasLargeKey}
use Rattle.kernel_runs.specs.Runs.{IsStoreFor, LevelsFit, PairsFit}
use Rattle.taco_top.specs.Values.{Values}
use Rattle.taco_top.specs.Asked.{needs_files}
use Rattle.taco_top.specs.Written.{IsAccepted, asked_orders, asked_paths, means}
use Rattle.taco_top.specs.Run.{Request}
use Rattle.taco_top.specs.Stored.{IsRunBy, stored_statement, stored_formats, stored_entries}

-- what the modes of a tensor tell, where tensor 1, tensor 2 and so on stand in a row; tensor 0, the result, tells nothing
abbrev pub modes_told : List (List Bound) → ℕ → List Bound
modes_told bounds zero = []
modes_told bounds (suc n) = unwrap_or (slice_get bounds n) []

abbrev pub bound_told : List (List Bound) → ℕ → ℕ → Bound
bound_told bounds tensor mode = bound_or_none (slice_get (modes_told bounds tensor) mode)

-- the ranges of the variables by words and operands, or their first fault
abbrev pub ranges_told : Statement → List (Option ℕ) → List Operand → Result (List ℕ) RangeFault
ranges_told s given operands = ranges_of s (given_at given) (bound_told (map (λ operand. operand.bounds) operands))

-- no head of the statement, in the order of its loops, needs more pairs than may be
abbrev pub HeadsFit : Arithmetic → Statement → List (List FormatLevel) → List ℕ → List ℕ → List Entries → Type 0
HeadsFit a s formats order ranges operands =
    (store : Store) → IsStoreFor a s formats ranges operands store → (coords : List ℕ)
    → pairs_at (looped a s order) order (head_variables (looped a s order) order) coords (told_by a (looped a s order) store)
    ≤ greatest_position_count

-- all points together don't, where some level of the result has no order; else no head does
pub record WorkspacesFit (a : Arithmetic) (s : Statement) (formats : List (List FormatLevel)) (order ranges : List ℕ)
    (operands : List Entries) : Type 0 where
  pub pairs : list_any is_unordered (result_levels s formats) ≡ true → PairsFit a s formats ranges operands
  pub heads : list_any is_unordered (result_levels s formats) ≡ false → HeadsFit a s formats order ranges operands

-- the words of `run`, `auto` or `report` pass, with a loop order where the task needs one; every operand's file is there and stands for
-- entries; the ranges agree; no level of an operand or of the result has more positions than may be, as they are stored; and where the
-- statement that is run calls for a workspace, it needs no more pairs, unless its key is one variable alone whose range isn't too large for
-- marks
pub record IsWhole (over : Values) (words : List (List ℕ)) (holds : List ℕ → Told) : Type 0 where
  pub request : Request
  pub operands : List Operand
  pub ranges : List ℕ
  pub accepted : IsAccepted words request
  pub reads : needs_files request.task ≡ true
  pub told : AreTold holds (asked_paths request)
  pub operands_are : told_operands (means over) holds (asked_orders request) (asked_paths request) ≡ Ok operands
  pub ranges_are : ranges_told request.statement request.given operands ≡ Ok ranges
  pub levels_fit : (plan : Option Planned) → IsRunBy request plan
      → LevelsFit over.arithmetic (stored_statement request.statement plan) (stored_formats request.formats plan) ranges
      (stored_entries (map (λ operand. operand.entries) operands) plan)
  pub pairs_fit : (plan : Option Planned) → IsRunBy request plan → (order : List ℕ)
      → IsOrder (stored_statement request.statement plan) (stored_formats request.formats plan) order
      → calls_for_workspace (looped over.arithmetic (stored_statement request.statement plan) order) (stored_formats request.formats plan)
      order ≡ true
      → HasLargeKey (looped over.arithmetic (stored_statement request.statement plan) order) (stored_formats request.formats plan)
      order ranges
      → WorkspacesFit over.arithmetic (stored_statement request.statement plan) (stored_formats request.formats plan) order ranges
      (stored_entries (map (λ operand. operand.entries) operands) plan)
