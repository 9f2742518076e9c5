-- What a kernel is run on: the ranges of the variables, packed operands, and the arrays with which its run starts.
use Rattle.std.specs.Prelude.{◌≡◌, ℕ, zero, suc, ◌+◌, ◌-◌, ◌≤◌, ◌<◌, ◌^◌}
use Rattle.std.specs.Prelude.{List, [], ◌∷◌, length, map, take, All}
use Rattle.std.specs.Prelude.{Some, slice_index, slice_index_or, replicate}
use Rattle.limits.specs.Limits.{greatest_position_count}
use Rattle.numbers.specs.Arithmetic.{Arithmetic}
use Rattle.kernel_code.specs.declared.syntax.Arr.TheVariants.{Range, Values}
use Rattle.level_core.specs.declared.letter.Letter.{Letter}
use Rattle.level_core.specs.Kinds.{parents_below}
use Rattle.level_core.specs.Laws.{AreAtStart}
use Rattle.level_core.specs.Meaning.{Arrays}
use Rattle.format_spec.specs.declared.format.FormatLevel.{FormatLevel}
use Rattle.format_spec.specs.Formats.{letters_of, IsFormat}
use Rattle.index_notation.specs.Statement.{IsNumberedWithSums}
use Rattle.index_notation.specs.declared.syntax.Statement.{Statement}
use Rattle.iteration_graph.specs.Edges.{format_of}
use Rattle.expr_terms.specs.Nested.{flat, values_with}
use Rattle.expr_terms.specs.Ranges.{mode_size}
use Rattle.workspaces.specs.Nested.{paths_with}
use Rattle.concrete_notation.specs.Contributions.{Inputs}
use Rattle.tensor_storage.specs.declared.level.StorageLevel.{StorageLevel}
use Rattle.tensor_storage.specs.Levels.{meaning}
use Rattle.tensor_storage.specs.Storages.{Storage, IsStorage, storage_of, in_level_order}
use Rattle.lowering.specs.Stored.{inputs_of}
use Rattle.lowering.specs.Sums.{first_sum}

-- the range of each variable in standing order, the operands by their numbers from 1 on, and the result's format
pub record Store : Type 0 where
  pub ranges : List ℕ
  pub operands : List Storage
  pub format : List FormatLevel

-- the ranges that the result's levels store: those of the left side's variables, which come first
abbrev pub result_sizes : Store → List ℕ
result_sizes store = in_level_order store.format store.ranges

-- the arrays of these levels of a tensor, from the level of this number on, are those of the levels
abbrev pub AreHeld : List StorageLevel → ℕ → ℕ → Arrays → Type 0
AreHeld [] tensor level arrays = Unit {0}
AreHeld (l ∷ ls) tensor level arrays = meaning.holds l tensor level arrays × AreHeld ls tensor (suc level) arrays

-- the arrays of a tensor are those of what is stored of it; its levels are numbered from 1
pub record IsHeld (storage : Storage) (tensor : ℕ) (arrays : Arrays) : Type 0 where
  pub levels : AreHeld storage.levels tensor 1 arrays
  pub values : arrays (Values tensor) ≡ Some storage.values

-- so are those of each operand, from the tensor of this number on
abbrev pub OperandsHeld : List Storage → ℕ → Arrays → Type 0
OperandsHeld [] tensor arrays = Unit {0}
OperandsHeld (operand ∷ operands) tensor arrays = IsHeld operand tensor arrays × OperandsHeld operands (suc tensor) arrays

-- the result's arrays as a run starts, from the level of this number on: each level has the parents that dense levels alone make
-- above it, and none below another level; the values are a zero for each parent behind the last level
abbrev pub StartsBelow : ℕ → List Letter → List ℕ → ℕ → ℕ → Arrays → Type 0
StartsBelow nothing (letter ∷ letters) (size ∷ sizes) parents level arrays =
    AreAtStart letter size parents 0 level arrays
    × StartsBelow nothing letters sizes (parents_below letter size parents) (suc level) arrays
StartsBelow nothing _ _ parents level arrays = arrays (Values 0) ≡ Some (replicate parents nothing)

-- the arrays with which the run of a kernel starts
pub record IsGiven (nothing : ℕ) (store : Store) (arrays : Arrays) : Type 0 where
  pub ranges : arrays Range ≡ Some store.ranges
  pub operands : OperandsHeld store.operands 1 arrays
  pub result : StartsBelow nothing (letters_of store.format) (result_sizes store) 1 1 arrays

-- no dense level that has dense levels alone above it would have more positions than may be
abbrev pub StartsFew : List Letter → List ℕ → ℕ → Type 0
StartsFew (letter ∷ letters) (size ∷ sizes) parents =
    (parents_below letter size parents ≤ greatest_position_count) × StartsFew letters sizes (parents_below letter size parents)
StartsFew _ _ parents = Unit {0}

-- the ranges that the levels of a tensor store: each the greatest range of the variables that stand at its mode in any access
abbrev pub level_sizes : Statement → (ℕ → ℕ) → ℕ → List FormatLevel → List ℕ
level_sizes s ranges tensor format = map (λ level. mode_size s ranges tensor level.mode) format

-- what is stored of an operand keeps the rules of its format, for levels of these ranges, and its values are words
pub record IsOperand (format : List FormatLevel) (sizes : List ℕ) (operand : Storage) : Type 0 where
  pub format_is : operand.format ≡ format
  pub storage : IsStorage operand
  pub keeps : All meaning.keeps operand.levels
  pub sizes_are : map meaning.size operand.levels ≡ sizes
  pub words : All (λ v. v < 2 ^ 64) operand.values

-- so does each operand of a statement, from the tensor of this number on
abbrev pub AreOperands : Statement → List (List FormatLevel) → (ℕ → ℕ) → ℕ → List Storage → Type 0
AreOperands s formats ranges tensor [] = Unit {0}
AreOperands s formats ranges tensor (operand ∷ operands) =
    IsOperand (format_of formats tensor) (level_sizes s ranges tensor (format_of formats tensor)) operand
    × AreOperands s formats ranges (suc tensor) operands

-- the statement reads each nested sum of a written one as a tensor, and tensors alone have formats
pub record IsFlat (s : Statement) (formats : List (List FormatLevel)) : Type 0 where
  pub written : Statement
  pub numbered : IsNumberedWithSums written
  pub is : s ≡ flat written
  pub few : length formats ≤ length written.tensors

-- a store of a statement and formats: a range for each variable, none above the limit, an operand for each tensor of the right side but
-- those that stand for nested sums, and a result that can be begun
pub record IsStoreOf (s : Statement) (formats : List (List FormatLevel)) (store : Store) : Type 0 where
  pub each : length store.ranges ≡ length s.vars
  pub small : All (λ range. range ≤ greatest_position_count) store.ranges
  pub operands : suc (length store.operands + length s.sums) ≡ length s.tensors
  pub operands_keep : AreOperands s formats (slice_index store.ranges) 1 store.operands
  pub format_is : store.format ≡ format_of formats 0
  pub format : IsFormat store.format
  pub few : StartsFew (letters_of store.format) (result_sizes store) 1

-- what is stored where there is no operand
abbrev nothing_stored : Storage
nothing_stored = storage_of [] [] []

-- what is stored of a tensor of the right side; the result is tensor 0
abbrev pub operand_of : Store → ℕ → Storage
operand_of store zero = nothing_stored
operand_of store (suc n) = slice_index_or store.operands n nothing_stored

-- what is told of tensors, and behind them of a statement's nested sums, each of which it reads as a tensor: the sum of what stands inside
-- over the range of its variable, and a path where that is present at some coordinate of it
abbrev pub told_with_sums : Arithmetic → Statement → Inputs → Inputs
told_with_sums a s inputs = record {
  paths = paths_with inputs.ranges (length s.vars) (take (first_sum s) s.accesses) (length s.tensors - length s.sums) s.sums inputs.paths;
  values = values_with a inputs.ranges (length s.vars) (take (first_sum s) s.accesses) (length s.tensors - length s.sums) s.sums
      inputs.values;
  ranges = inputs.ranges;
}

-- what a store tells of its operands: the paths of each, with the value at which each ends, and else zero
abbrev pub told_alone : Arithmetic → Store → Inputs
told_alone a store = inputs_of a (operand_of store) (slice_index store.ranges)

-- what it tells a statement, with its nested sums
abbrev pub told_by : Arithmetic → Statement → Store → Inputs
told_by a s store = told_with_sums a s (told_alone a store)
