-- The values of the rows, stored at their positions; and a whole result: its levels and its values.
use Rattle.std.specs.Prelude.{◌≡◌, ℕ, ◌+◌, ◌*◌, ◌≤◌, false, List, [], ◌∷◌, length, map, replicate, slice_index, Some}
use Rattle.kernel_code.specs.Arrays.{same_arr}
use Rattle.kernel_code.specs.Does.{Does}
use Rattle.kernel_code.specs.Keeps.{Leaves, NoVariable}
use Rattle.kernel_code.specs.Meaning.{Setting, State}
use Rattle.kernel_code.specs.declared.syntax.Arr.{Arr}
use Rattle.kernel_code.specs.declared.syntax.Arr.TheVariants.{Values, Sums, ListPositions}
use Rattle.kernel_code.specs.declared.syntax.KExpr.{KExpr, Num, Var, At, Len, Bin}
use Rattle.kernel_code.specs.declared.syntax.KStmt.{KStmt, Set, Put, Extend, While}
use Rattle.kernel_code.specs.declared.syntax.LoopKind.{LoopKind}
use Rattle.kernel_code.specs.declared.syntax.LoopKind.TheVariants.{Drain}
use Rattle.level_core.specs.declared.letter.Letter.{Letter}
use Rattle.kernel_code.specs.declared.syntax.Op.TheVariants.{Add, Less}
use Rattle.level_core.specs.Fragments.{turns_of}
use Rattle.level_rows.specs.Values.{StoresValues}
use Rattle.format_spec.specs.declared.format.FormatLevel.{FormatLevel}
use Rattle.format_spec.specs.Formats.{letters_of}
use Rattle.tensor_storage.specs.declared.level.StorageLevel.{StorageLevel}
use Rattle.tensor_storage.specs.Levels.{meaning}
use Rattle.tensor_storage.specs.Stands.{IsPacked}
use Rattle.tensor_storage.specs.Storages.{IsStorage, storage_of, in_level_order}
use Rattle.tensor_storage.specs.Tables.{Table}
use Rattle.kernel_correctness.specs.Results.{summed}
use Rattle.kernel_correctness.specs.Stores.{AreHeld}
use Rattle.result_assembly.specs.Drained.{IsCounted, MayDrain, NotWider, drain_turns, most_passes}
use Rattle.result_assembly.specs.Levels.{IsReady, IsBeside, RefusesLevels}

-- variable `base` is the row
abbrev pub value_row_code : ℕ → ℕ → ℕ → List KStmt
value_row_code base w g =
    Put (Values 0) (At (ListPositions g) (Var base)) (At (Sums w) (Var base)) ∷ Set base (Bin Add (Var base) (Num 1)) ∷ []

-- a zero for each position, and then each row's value at its own
abbrev pub values_code : ℕ → ℕ → ℕ → KExpr → ℕ → List KStmt
values_code base w g count nothing =
    Extend (Values 0) count (Num nothing) ∷ Set base (Num 0)
    ∷ While Drain (Bin Less (Var base) (Len (Sums w))) (value_row_code base w g) ∷ []

-- every array but the values
abbrev pub IsNoValue : Arr → Type 0
IsNoValue a = same_arr (Values 0) a ≡ false

-- the value of each row stands at its position, and a zero at every other of so many positions
pub record LeavesValues (nothing : ℕ) (table : Table) (base parents : ℕ) (positions : List ℕ) (s t : State) : Type 0 where
  pub values : List ℕ
  pub held : t.arrays (Values 0) ≡ Some values
  pub stores : StoresValues table.count (slice_index positions) table.values (replicate parents nothing) values
  pub leaves : Leaves NoVariable IsNoValue base (turns_of Drain table.count) s t

-- the arrays of the result, once the numbers of positions are summed up, are those of levels and values that stand for the table
pub record LeavesStored (nothing : ℕ) (format : List FormatLevel) (ranges : List ℕ) (table : Table) (g base : ℕ) (s t : State)
    : Type 0 where
  pub levels : List StorageLevel
  pub values : List ℕ
  pub held : AreHeld levels 0 1 (summed t.arrays)
  pub values_held : t.arrays (Values 0) ≡ Some values
  pub letters : map meaning.kind levels ≡ letters_of format
  pub packed : IsPacked nothing format ranges table (storage_of format levels values)
  pub storage : IsStorage (storage_of format levels values)
  pub probes : ℕ
  pub few : (width : ℕ) → ((level : ℕ) → NotWider width level t.arrays) → probes ≤ length format * (width * table.count)
  pub leaves : Leaves NoVariable (λ a. IsBeside g a × IsNoValue a) base
      (drain_turns (most_passes (length format)) table.count probes) s t
  -- for one level alone whose coordinates are counted the rows are gone over once
  pub once : (letter : Letter) → letters_of format ≡ letter ∷ [] → IsCounted letter
      → (k : LoopKind) → t.turns k ≤ s.turns k + drain_turns 1 table.count probes k

-- what the code does that fills a whole result
abbrev pub DrainsResult : List FormatLevel → ℕ → ℕ → ℕ → ℕ → List KStmt → Type 0
DrainsResult format w g base nothing code =
    (c : Setting) (ranges : List ℕ) (table : Table) → MayDrain (letters_of format) (in_level_order format ranges) table
    → (s : State) → IsReady nothing (letters_of format) (in_level_order format ranges) table w g s
    → Does c code s (LeavesStored nothing format ranges table g base s)
    (RefusesLevels (letters_of format) (in_level_order format ranges) table (length format) s)
