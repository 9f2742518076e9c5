-- When facts of arrays are true of every store of a statement and formats.
use Rattle.std.specs.Prelude.{◌≡◌, ℕ, ◌+◌, ◌<◌, List, [], ◌∷◌, map, length, All, Option, None, Some, slice_index}
use Rattle.lists.specs.Each.{Each}
use Rattle.kernel_code.specs.declared.syntax.Arr.TheVariants.{Range}
use Rattle.kernel_code.specs.declared.syntax.Kernel.{Kernel}
use Rattle.kernel_code.specs.Kernels.{start_state}
use Rattle.level_core.specs.Meaning.{Arrays}
use Rattle.format_spec.specs.declared.format.FormatLevel.{FormatLevel}
use Rattle.format_spec.specs.Formats.{letters_of}
use Rattle.index_notation.specs.declared.syntax.Statement.{Statement}
use Rattle.tensor_storage.specs.declared.level.StorageLevel.{StorageLevel}
use Rattle.tensor_storage.specs.Levels.{meaning}
use Rattle.kernel_correctness.specs.Stores.{Store, IsStoreOf, IsGiven, AreHeld, level_sizes}
use Rattle.store_facts.specs.declared.facts.StoreFact.{StoreFact}
use Rattle.store_facts.specs.Facts.{IsFact, KeepsFacts}

-- levels of a tensor, of these formats, that arrays hold beside the ranges of the statement's variables
pub record HeldLevels (s : Statement) (tensor number : ℕ) (format : List FormatLevel) (arrays : Arrays) : Type 0 where
  pub ranges : List ℕ
  pub ranges_are : arrays Range ≡ Some ranges
  pub many : length ranges ≡ length s.vars
  pub levels : List StorageLevel
  pub letters : map meaning.kind levels ≡ letters_of format
  pub sizes : map meaning.size levels ≡ level_sizes s (slice_index ranges) tensor format
  pub keep : All meaning.keeps levels
  pub held : AreHeld levels tensor number arrays

-- what is known of one level is true wherever it is held
abbrev pub IsTrueOfLevel : Statement → ℕ → ℕ → FormatLevel → Option StoreFact → Type 0
IsTrueOfLevel s tensor number level None = Unit {0}
IsTrueOfLevel s tensor number level (Some fact) =
    (arrays : Arrays) → HeldLevels s tensor number (level ∷ []) arrays → IsFact arrays fact

-- so it is of the levels of a tensor, from the one of this number on
abbrev pub AreTrueOfLevels : Statement → ℕ → ℕ → List FormatLevel → List StoreFact → Type 0
AreTrueOfLevels s tensor number format facts =
    (arrays : Arrays) → HeldLevels s tensor number format arrays → Each (IsFact arrays) facts

-- so it is of a tensor of this format, but the result and those that stand for nested sums
abbrev pub IsTrueOfTensor : Statement → ℕ → List FormatLevel → List StoreFact → Type 0
IsTrueOfTensor s tensor format facts =
    (arrays : Arrays) → (0 < tensor → tensor + length s.sums < length s.tensors → HeldLevels s tensor 1 format arrays)
    → Each (IsFact arrays) facts

-- so it is of operands, on every store
abbrev pub AreTrueOfOperands : Statement → List (List FormatLevel) → List StoreFact → Type 0
AreTrueOfOperands s formats facts =
    (nothing : ℕ) (store : Store) (arrays : Arrays) → IsStoreOf s formats store → IsGiven nothing store arrays
    → Each (IsFact arrays) facts

-- the facts are true where the run of a kernel starts, on every store of the statement and formats
pub record AreTrue (s : Statement) (formats : List (List FormatLevel)) (facts : List StoreFact) : Type 0 where
  pub keeps : (nothing : ℕ) (store : Store) (arrays : Arrays) (k : Kernel) → IsStoreOf s formats store → IsGiven nothing store arrays
      → KeepsFacts facts (start_state k arrays)
