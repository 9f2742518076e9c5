-- The last level of a kernel's result where its coordinates are counted and inserted, filled from the rows of a workspace together with
-- the values.
use Rattle.std.specs.Prelude.{◌≡◌, ◌⊎◌, ℕ, zero, suc, ◌+◌, ◌*◌, ◌≤◌, ◌<◌, List, [], ◌∷◌, ◌++◌, drop}
use Rattle.std.specs.Prelude.{replicate, slice_index, Some}
use Rattle.kernel_code.specs.Does.{Does}
use Rattle.kernel_code.specs.Keeps.{Leaves, NoVariable}
use Rattle.kernel_code.specs.Meaning.{Setting, State, set_array}
use Rattle.kernel_code.specs.declared.syntax.Arr.TheVariants.{Values, Sums, ListPositions}
use Rattle.kernel_code.specs.declared.syntax.KExpr.{KExpr, Num, Var, At, Len, Bin}
use Rattle.kernel_code.specs.declared.syntax.KStmt.{KStmt, Set, Put, While}
use Rattle.kernel_code.specs.declared.syntax.LoopKind.TheVariants.{Drain}
use Rattle.kernel_code.specs.declared.syntax.Op.TheVariants.{Add, Less}
use Rattle.level_core.specs.declared.letter.Letter.{Letter}
use Rattle.level_rows.specs.Counting.{FindsGreatest}
use Rattle.level_rows.specs.Draining.{Stays}
use Rattle.level_rows.specs.Values.{StoresValues}
use Rattle.tensor_storage.specs.Tables.{Table}
use Rattle.result_assembly.specs.Drained.{MayDrain, AreDrained, IsCounted, NotWider, RefusesLevel, drain_turns}
use Rattle.result_assembly.specs.Stored.{IsNoValue}

-- variables, from base on: the row, its parent's position (4), and its own (6), where its value is stored
abbrev pub fill_row_code : ℕ → ℕ → ℕ → List KStmt → List KStmt
fill_row_code base w g insert =
    Set (base + 4) (At (ListPositions g) (Var base))
    ∷ (insert ++ Put (ListPositions g) (Var base) (Var (base + 6)) ∷ Put (Values 0) (Var (base + 6)) (At (Sums w) (Var base))
    ∷ Set base (Bin Add (Var base) (Num 1)) ∷ [])

abbrev pub fill_rows_code : ℕ → ℕ → ℕ → List KStmt → List KStmt
fill_rows_code base w g insert =
    Set base (Num 0) ∷ While Drain (Bin Less (Var base) (Len (Sums w))) (fill_row_code base w g insert) ∷ []

-- The code finds the greatest number of positions that rows begin below one parent, for the level of this number, which is the last. If it
-- is the first too, each row begins one below the one parent above all levels, and the rows need not be gone over.
abbrev pub FindsLast : ℕ → ℕ → ℕ → ℕ → KExpr → List KStmt → Type 0
FindsLast base w g level test code =
    ((level ≡ 1) × (code ≡ Set (base + 2) (Len (Sums w)) ∷ [])) ⊎ ((1 < level) × FindsGreatest base w g level test code)

-- how often the rows are gone over for that where the last level stands below d others
abbrev pub counting_passes : ℕ → ℕ
counting_passes zero = 0
counting_passes (suc d) = 1

-- the state, as if no value were there
abbrev pub without_values : State → State
without_values s = set_array s (Values 0) []

-- the last level is filled, as if no value were there, and the value of each row stands at its position, a zero at every other
pub record LeavesFilled (nothing : ℕ) (letters : List Letter) (sizes : List ℕ) (table : Table) (w g d base : ℕ) (s t : State)
    : Type 0 where
  pub drained : AreDrained nothing letters sizes table w g (suc d) (Var base) (without_values t)
  pub values : List ℕ
  pub held : t.arrays (Values 0) ≡ Some values
  pub stores : StoresValues table.count (slice_index drained.positions) table.values (replicate drained.parents nothing) values
  pub probes : ℕ
  pub few : (width : ℕ) → NotWider width (suc d) t.arrays → probes ≤ width * table.count
  pub leaves : Leaves NoVariable (λ a. Stays (suc d) g a × IsNoValue a) base (drain_turns (counting_passes d + 1) table.count probes) s t

-- what the code of a level does that is the last, and whose coordinates are counted
abbrev pub FillsLast : ℕ → ℕ → ℕ → ℕ → ℕ → KExpr → List KStmt → Type 0
FillsLast nothing level w g base count code =
    (letters : List Letter) (letter : Letter) (d : ℕ) → level ≡ suc d → drop d letters ≡ letter ∷ [] → IsCounted letter
    → (c : Setting) (sizes : List ℕ) (table : Table) → MayDrain letters sizes table
    → (s : State) → AreDrained nothing letters sizes table w g d count s
    → Does c code s (LeavesFilled nothing letters sizes table w g d base s) (RefusesLevel letters sizes table d s)
