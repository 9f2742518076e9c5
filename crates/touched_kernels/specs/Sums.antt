-- The code that brings the sums of a workspace's rows together in its list, and what it leaves.
use Rattle.std.specs.Prelude.{◌≡◌, ℕ, List, [], ◌∷◌, ◌++◌, length, Some, slice_get}
use Rattle.numbers.specs.Arithmetic.{Laws}
use Rattle.kernel_code.specs.declared.syntax.LoopKind.TheVariants.{Drain}
use Rattle.kernel_code.specs.declared.syntax.Op.TheVariants.{Add}
use Rattle.kernel_code.specs.declared.syntax.KExpr.{KExpr, Num, Var, Bin}
use Rattle.kernel_code.specs.declared.syntax.KStmt.{KStmt, Set, SortSum, While}
use Rattle.kernel_code.specs.Does.{Does, Never}
use Rattle.kernel_code.specs.Keeps.{Leaves, NoVariable}
use Rattle.kernel_code.specs.Meaning.{Setting, State}
use Rattle.level_core.specs.Fragments.{turns_of}
use Rattle.tensor_map.specs.Entries.{Entry}
use Rattle.concrete_notation.specs.Contributions.{sums_of}
use Rattle.term_code.specs.WorkspaceSinks.{HoldsRows}
use Rattle.touched_workspaces.specs.Sinks.{IsOther, HoldsTouched}
use Rattle.touched_workspaces.specs.declared.sink.TouchedSink.{TouchedSink}

-- one turn: the next row, whose place stands in a variable, is taken
abbrev pub join_code : ℕ → List KStmt → List KStmt
join_code at take = take ++ Set at (Bin Add (Var at) (Num 1)) ∷ []

abbrev pub sum_code : ℕ → ℕ → KExpr → List KStmt → List KStmt
sum_code list at test turn = SortSum list ∷ Set at (Num 0) ∷ While Drain test turn ∷ []

-- the list holds the sums of the rows that were added, as a workspace of pairs does once it is sorted; all variables below `at` and all
-- arrays of no workspace of the two stay, and a drain turn was taken for each of the sums at most
pub record LeavesListed (k : TouchedSink) (at : ℕ) (sums : List Entry) (s t : State) : Type 0 where
  pub holds : HoldsRows k.list 1 sums t.arrays
  pub leaves : Leaves NoVariable (IsOther k) at (turns_of Drain (length sums)) s t

-- so the code does, whatever the range is
abbrev pub SumsTouched : TouchedSink → ℕ → List KStmt → Type 0
SumsTouched k at code =
    (c : Setting) → Laws c.arithmetic → slice_get c.workspaces k.list ≡ Some 1 → (size : ℕ) (rows : List Entry) (s : State)
    → HoldsTouched k c.arithmetic (size ∷ []) rows s
    → Does c code s (LeavesListed k at (sums_of c.arithmetic rows) s) Never
