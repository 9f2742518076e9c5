-- All levels of a kernel's result, filled from the sorted rows of a workspace: where the code is run, and what it leaves.
use Rattle.std.specs.Prelude.{◌≡◌, ℕ, suc, ◌+◌, ◌*◌, ◌≤◌, ◌<◌, false, List, [], length, replicate, Some}
use Rattle.kernel_code.specs.Arrays.{same_arr}
use Rattle.kernel_code.specs.Does.{Does, Refusal}
use Rattle.kernel_code.specs.Keeps.{Leaves, NoVariable}
use Rattle.kernel_code.specs.Meaning.{Setting, State}
use Rattle.kernel_code.specs.declared.syntax.Arr.{Arr}
use Rattle.kernel_code.specs.declared.syntax.Arr.TheVariants.{Values, ListPositions}
use Rattle.kernel_code.specs.declared.syntax.KExpr.{Var}
use Rattle.kernel_code.specs.declared.syntax.KStmt.{KStmt}
use Rattle.level_core.specs.declared.letter.Letter.{Letter}
use Rattle.level_core.specs.Fragments.{IsOutside, RefusedWithin}
use Rattle.tensor_storage.specs.Tables.{Table}
use Rattle.kernel_correctness.specs.Stores.{StartsBelow}
use Rattle.result_assembly.specs.Drained.{HoldsTable, MayDrain, AreDrained, NotWider, drain_turns, passes_of, PassesAt}

-- the result's levels are as a kernel begins them and have no value, the workspace holds the rows, and the scratch list has for each
-- the one position above all levels
pub record IsReady (nothing : ℕ) (letters : List Letter) (sizes : List ℕ) (table : Table) (w g : ℕ) (s : State) : Type 0 where
  pub places : s.arrays (ListPositions g) ≡ Some (replicate table.count 0)
  pub rows : HoldsTable w (length letters) table s.arrays
  pub below : StartsBelow nothing letters sizes 1 1 s.arrays
  pub values : s.arrays (Values 0) ≡ Some []

-- an array of no level of the result, and not the positions of scratch list g
abbrev pub IsBeside : ℕ → Arr → Type 0
IsBeside g a = ((k : ℕ) → IsOutside 0 k a) × (same_arr (ListPositions g) a ≡ false)

-- the first d levels are filled, and the number of positions of the last stands in a variable
pub record LeavesLevels (nothing : ℕ) (letters : List Letter) (sizes : List ℕ) (table : Table) (w g d base : ℕ)
    (s t : State) : Type 0 where
  pub drained : AreDrained nothing letters sizes table w g d (Var (base + d)) t
  pub probes : ℕ
  pub few : (width : ℕ) → ((k : ℕ) → k < d → NotWider width (suc k) t.arrays) → probes ≤ d * (width * table.count)
  pub leaves : Leaves NoVariable (IsBeside g) base (drain_turns (passes_of letters d) table.count probes) s t

-- a growth of one of these levels is refused
abbrev pub RefusesLevels : List Letter → List ℕ → Table → ℕ → State → Refusal
RefusesLevels letters sizes table d s turns a count =
    (k : ℕ) × (k < d) × (probes : ℕ) × RefusedWithin (drain_turns (passes_of letters d) table.count probes) s
    (PassesAt letters sizes table k) turns a count

-- what the code of the first d levels does
abbrev pub DrainsFirst : List Letter → ℕ → ℕ → ℕ → ℕ → List KStmt → Type 0
DrainsFirst letters d w g base code =
    (c : Setting) (nothing : ℕ) (sizes : List ℕ) (table : Table) → MayDrain letters sizes table
    → (s : State) → IsReady nothing letters sizes table w g s
    → Does c code s (LeavesLevels nothing letters sizes table w g d base s) (RefusesLevels letters sizes table d s)
