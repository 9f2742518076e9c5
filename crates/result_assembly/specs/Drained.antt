-- Levels of a kernel's result that are filled from the rows of a workspace, one below another: what arrays hold after each, and what the
-- code of one level does.
use Rattle.std.specs.Prelude.{◌≡◌, ◌⊎◌, ℕ, zero, suc, ◌+◌, ◌*◌, ◌≤◌, ◌<◌, true, false}
use Rattle.std.specs.Prelude.{List, [], ◌∷◌, length, drop, if◌then◌else◌, All}
use Rattle.std.specs.Prelude.{Option, Some, None, slice_index}
use Rattle.limits.specs.Limits.{greatest_position_count, greatest_workspace_pairs}
use Rattle.kernel_code.specs.Does.{Does, Refusal}
use Rattle.kernel_code.specs.Keeps.{Leaves, NoVariable}
use Rattle.kernel_code.specs.Meaning.{Setting, State, value}
use Rattle.kernel_code.specs.declared.syntax.Arr.{Arr}
use Rattle.kernel_code.specs.declared.syntax.Arr.TheVariants.{Values, Key, Sums, Width, ListPositions}
use Rattle.kernel_code.specs.declared.syntax.KExpr.{KExpr, Var}
use Rattle.kernel_code.specs.declared.syntax.KStmt.{KStmt}
use Rattle.kernel_code.specs.declared.syntax.LoopKind.{LoopKind}
use Rattle.kernel_code.specs.declared.syntax.LoopKind.TheVariants.{Drain, Probe}
use Rattle.level_core.specs.declared.letter.Letter.{Letter}
use Rattle.level_core.specs.Fragments.{IsOf, RefusedWithin, turns_of}
use Rattle.level_core.specs.Kinds.{properties, capabilities}
use Rattle.level_core.specs.Meaning.{Arrays}
use Rattle.level_rows.specs.Draining.{Stays}
use Rattle.level_rows.specs.Placing.{times}
use Rattle.level_rows.specs.Tables.{Increase}
use Rattle.tensor_storage.specs.declared.level.StorageLevel.{StorageLevel}
use Rattle.tensor_storage.specs.Chains.{chain_length}
use Rattle.tensor_storage.specs.Counts.{positions_from}
use Rattle.tensor_storage.specs.Levels.{meaning}
use Rattle.tensor_storage.specs.Packed.{ArePacked}
use Rattle.tensor_storage.specs.Tables.{Table, AreBelow}
use Rattle.kernel_correctness.specs.Results.{summed}
use Rattle.kernel_correctness.specs.Stores.{AreHeld, StartsBelow}

-- an array has so many words, and these
pub record HasWords (a : Arr) (count : ℕ) (word : ℕ → ℕ) (arrays : Arrays) : Type 0 where
  pub words : List ℕ
  pub held : arrays a ≡ Some words
  pub many : length words ≡ count
  pub are : (i : ℕ) → i < count → slice_index words i ≡ word i

-- the workspace holds the rows of a table, with so many keys
pub record HoldsTable (w keys : ℕ) (table : Table) (arrays : Arrays) : Type 0 where
  pub key : (k : ℕ) → k < keys → HasWords (Key w k) table.count (table.coords k) arrays
  pub sums : HasWords (Sums w) table.count table.values arrays

-- rows that levels of these kinds and ranges may be filled from: they increase, their coordinates are below the ranges, and they are
-- no more than a workspace may have
pub record MayDrain (letters : List Letter) (sizes : List ℕ) (table : Table) : Type 0 where
  pub each : length sizes ≡ length letters
  pub small : All (λ size. size ≤ greatest_position_count) sizes
  pub order : Increase table.coords (length letters) table.count
  pub below : AreBelow table sizes
  pub few : table.count ≤ greatest_workspace_pairs

-- the first d levels of the result are filled with the rows of the table, once the numbers of positions are summed up, and scratch list
-- g has the position of each row at the last of them, whose number of positions an expression tells; the levels below are as a kernel
-- begins them, and no value is there yet
pub record AreDrained (nothing : ℕ) (letters : List Letter) (sizes : List ℕ) (table : Table) (w g d : ℕ) (count : KExpr)
    (s : State) : Type 0 where
  pub levels : List StorageLevel
  pub positions : List ℕ
  pub parents : ℕ
  pub packed : ArePacked meaning letters sizes table d levels positions parents
  pub few : parents ≤ greatest_position_count
  pub told : value count s ≡ Some parents
  pub held : AreHeld levels 0 1 (summed s.arrays)
  pub places : s.arrays (ListPositions g) ≡ Some positions
  pub rows : HoldsTable w (length letters) table s.arrays
  pub starts : ℕ
  pub begun : starts ≤ parents
  pub below : StartsBelow nothing (drop d letters) (drop d sizes) starts (suc d) s.arrays
  pub values : s.arrays (Values 0) ≡ Some []

-- how often the rows are gone over for a level: once, and where coordinates stand without order once more before, to count them
abbrev pub passes : Letter → ℕ
passes letter = if (properties letter).ordered then 1 else 2

-- for the level that stands below d others, and for the first d levels together
abbrev pub passes_at : List Letter → ℕ → ℕ
passes_at [] d = 0
passes_at (letter ∷ letters) zero = passes letter
passes_at (letter ∷ letters) (suc d) = passes_at letters d

abbrev pub passes_of : List Letter → ℕ → ℕ
passes_of letters zero = 0
passes_of letters (suc d) = passes_of letters d + passes_at letters d

-- coordinates are inserted into a level of this kind and stored there: they are counted first, since how many stand below one parent
-- settles how wide its blocks are
pub record IsCounted (letter : Letter) : Type 0 where
  pub inserted : (capabilities letter).insert ≡ true
  pub stored : (properties letter).full ≡ false

-- how many levels stand above the last one where its coordinates are counted; it is gone over once where nothing is told
abbrev pub IsAboveLast : List Letter → Option ℕ → Type 0
IsAboveLast letters None = (d : ℕ) → suc d ≡ length letters → passes_at letters d ≤ 1
IsAboveLast letters (Some d) = (letter : Letter) × IsCounted letter × (drop d letters ≡ letter ∷ [])

-- how often the rows are gone over at most for so many levels and their values: twice for each level, and once where there is none
abbrev pub most_passes : ℕ → ℕ
most_passes zero = 1
most_passes (suc n) = 2 * suc n

-- so many drain turns for each row at most, so many probe turns, and no others
abbrev pub drain_turns : ℕ → ℕ → ℕ → LoopKind → ℕ
drain_turns each rows probes k = turns_of Drain (times each rows) k + turns_of Probe probes k

-- a block of slots of the result's level of this number is no wider than that, if the level has blocks
abbrev pub NotWider : ℕ → ℕ → Arrays → Type 0
NotWider width level arrays = (n : ℕ) → arrays (Width 0 level) ≡ Some (n ∷ []) → n ≤ width

-- one level more is filled, and the number of its positions stands in variable `base`; all other variables below it stay, and so do
-- the arrays of other levels and all scratch but the positions of the rows
pub record LeavesLevel (nothing : ℕ) (letters : List Letter) (sizes : List ℕ) (table : Table) (w g d base : ℕ)
    (s t : State) : Type 0 where
  pub drained : AreDrained nothing letters sizes table w g (suc d) (Var base) t
  pub probes : ℕ
  pub few : (width : ℕ) → NotWider width (suc d) t.arrays → probes ≤ width * table.count
  pub leaves : Leaves NoVariable (Stays (suc d) g) base (drain_turns (passes_at letters d) table.count probes) s t

-- a growth of that level, or of the values that stand for a dense level, to a count that passes the limit and is at most the number of
-- positions that the rows tell for it
pub record PassesAt (letters : List Letter) (sizes : List ℕ) (table : Table) (d : ℕ) (a : Arr) (count : ℕ) : Type 0 where
  pub array : IsOf 0 (suc d) a ⊎ (a ≡ Values 0)
  pub above : greatest_position_count < count
  pub within : count ≤ slice_index (positions_from table 0 1 letters sizes) d

-- such a growth is refused, before which no more turns were made
abbrev pub RefusesLevel : List Letter → List ℕ → Table → ℕ → State → Refusal
RefusesLevel letters sizes table d s turns a count =
    (probes : ℕ) × RefusedWithin (drain_turns (passes_at letters d) table.count probes) s (PassesAt letters sizes table d) turns a count

-- what the code of the level that stands below d others does
abbrev pub DrainsLevel : List Letter → ℕ → ℕ → ℕ → ℕ → KExpr → List KStmt → Type 0
DrainsLevel letters d w g base count code =
    (c : Setting) (nothing : ℕ) (sizes : List ℕ) (table : Table) → MayDrain letters sizes table
    → (s : State) → AreDrained nothing letters sizes table w g d count s
    → Does c code s (LeavesLevel nothing letters sizes table w g d base s) (RefusesLevel letters sizes table d s)

-- the code is that of a level of this kind, whatever stands above and below it, where its chain ends with the level of number `through`
abbrev pub DrainsOf : Letter → ℕ → ℕ → ℕ → ℕ → ℕ → KExpr → List KStmt → Type 0
DrainsOf letter level through w g base count code =
    (letters rest : List Letter) (d : ℕ) → level ≡ suc d → drop d letters ≡ letter ∷ rest → through ≡ d + chain_length (letter ∷ rest)
    → DrainsLevel letters d w g base count code
