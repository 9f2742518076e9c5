-- What is run of what words ask for: the statement as it is, or one that is planned in its place where the storage orders of its
-- tensors have a cycle, with some of them stored in other orders of their modes.
use Rattle.std.specs.Prelude.{◌≡◌, ℕ, false, List, Option, None, Some, Vec}
use Rattle.std.specs.List.{list_any}
use Rattle.std.specs.declared.alloc.Global.{Global}
use Rattle.tensor_map.specs.Entries.{Entries}
use Rattle.kernel_code.specs.declared.syntax.Kernel.{Kernel}
use Rattle.format_spec.specs.declared.format.FormatLevel.{FormatLevel}
use Rattle.index_notation.specs.declared.syntax.Statement.{Statement}
use Rattle.expr_terms.specs.declared.bound.Bound.{Bound}
use Rattle.kernel_correctness.specs.Kernels.{looped}
use Rattle.kernel_correctness.specs.Stores.{Store, told_by}
use Rattle.row_orders.specs.Heads.{result_levels}
use Rattle.row_orders.specs.Takings.{is_unordered}
use Rattle.head_pairs.specs.Heads.{AreAtOneHead, head_variables}
use Rattle.mode_planner.specs.Planned.{Answers}
use Rattle.mode_planner.specs.declared.planned.Planned.{Planned}
use Rattle.operand_packing.specs.Drawn.{drawn}
use Rattle.operand_packing.specs.declared.large_level.LargeLevel.{LargeLevel}
use Rattle.kernel_runs.specs.Planned.{IsLargePlannedLevel, NeedsPlannedPairs}
use Rattle.kernel_runs.specs.Runs.{IsLargeLevel, NeedsPairs}
use Rattle.taco_compiler.specs.Tails.{HasLargeKey}
use Rattle.taco_top.specs.Values.{Values}
use Rattle.taco_top.specs.Run.{Request}

-- it is run by this plan: by none where its loops have an order, and by one that mends its storage orders where they have a cycle
abbrev pub IsRunBy : Request → Option Planned → Type 0
IsRunBy r plan = Answers r.statement r.formats plan

-- the statement that is run
abbrev pub stored_statement : Statement → Option Planned → Statement
stored_statement s None = s
stored_statement s (Some plan) = plan.statement

-- the formats in which its tensors are stored
abbrev pub stored_formats : List (List FormatLevel) → Option Planned → List (List FormatLevel)
stored_formats formats None = formats
stored_formats formats (Some plan) = plan.formats

-- the entries of each of its operands: with a plan several may have those of one file
abbrev pub stored_entries : List Entries → Option Planned → List Entries
stored_entries entries None = entries
stored_entries entries (Some plan) = drawn plan.origins entries

-- a level of a tensor, as it is stored, has too many positions by the ranges of the statement that is asked for: one of the result also
-- where a run of the kernel is refused its growth
abbrev pub IsLargeStoredLevel : Values → Statement → List (List FormatLevel) → Option Planned → Kernel → List (Option ℕ) → List Entries
    → List (Vec Bound Global) → LargeLevel → Type 0
IsLargeStoredLevel over s formats None kernel given entries bounds large =
    IsLargeLevel over.arithmetic s formats kernel given entries bounds large
IsLargeStoredLevel over s formats (Some plan) kernel given entries bounds large =
    IsLargePlannedLevel over.arithmetic s plan kernel given entries bounds large

-- a run of the kernel is refused the workspace of the result, as it is stored: it needs too many pairs
abbrev pub NeedsStoredPairs : Values → Statement → List (List FormatLevel) → Option Planned → Kernel → List (Option ℕ) → List Entries
    → List (Vec Bound Global) → ℕ → Type 0
NeedsStoredPairs over s formats None kernel given entries bounds count =
    NeedsPairs over.arithmetic s formats kernel given entries bounds count
NeedsStoredPairs over s formats (Some plan) kernel given entries bounds count =
    NeedsPlannedPairs over.arithmetic s plan kernel given entries bounds count

-- the store of the operands, as they are stored, on which it is
abbrev pub needing_store : (over : Values) (s : Statement) (formats : List (List FormatLevel)) (plan : Option Planned) (kernel : Kernel)
    (given : List (Option ℕ)) (entries : List Entries) (bounds : List (Vec Bound Global)) (count : ℕ)
    → NeedsStoredPairs over s formats plan kernel given entries bounds count → Store
needing_store over s formats None kernel given entries bounds count needs = needs.store
needing_store over s formats (Some plan) kernel given entries bounds count needs = needs.store

-- it needs so many pairs; at one head of the statement that is run, in the order of its loops, where each level of the result has an order.
-- Where its key is one variable alone, that one's range is too large for marks
pub record NeedsStoredWorkspace (over : Values) (s : Statement) (formats : List (List FormatLevel)) (plan : Option Planned)
    (order : List ℕ) (kernel : Kernel) (given : List (Option ℕ)) (entries : List Entries) (bounds : List (Vec Bound Global)) (count : ℕ)
    : Type 0 where
  pub pairs : NeedsStoredPairs over s formats plan kernel given entries bounds count
  pub head : list_any is_unordered (result_levels (stored_statement s plan) (stored_formats formats plan)) ≡ false
      → AreAtOneHead (looped over.arithmetic (stored_statement s plan) order) order
      (head_variables (looped over.arithmetic (stored_statement s plan) order) order)
      (told_by over.arithmetic (looped over.arithmetic (stored_statement s plan) order)
      (needing_store over s formats plan kernel given entries bounds count pairs)) count
  pub large : HasLargeKey (looped over.arithmetic (stored_statement s plan) order) (stored_formats formats plan) order
      (needing_store over s formats plan kernel given entries bounds count pairs).ranges
