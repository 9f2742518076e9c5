-- What is known of the arrays that a kernel is run on, and which expressions may stand for others where it holds.
use Rattle.std.specs.Prelude.{◌≡◌, ℕ, ◌<◌, ◌^◌, false, List, Option, Some, slice_get}
use Rattle.std.specs.List.{All}
use Rattle.kernel_code.specs.declared.syntax.Arr.{Arr}
use Rattle.kernel_code.specs.declared.syntax.Arr.TheVariants as arr
use Rattle.kernel_code.specs.declared.syntax.KExpr.{KExpr}
use Rattle.kernel_code.specs.Arrays.{may_write}
use Rattle.kernel_code.specs.Meaning.{State, value, word_at}
use Rattle.store_facts.specs.declared.facts.StoreFact.{StoreFact}
use Rattle.store_facts.specs.declared.facts.StoreFact.TheVariants.{Size, Coordinates}

-- the range of a variable, if there is one
abbrev pub range_of : (Arr → Option (List ℕ)) → ℕ → Option ℕ
range_of arrays variable = word_at (arrays arr.Range) (Some variable)

-- a word is below the range of a variable
abbrev pub IsBelowRange : (Arr → Option (List ℕ)) → ℕ → ℕ → Type 0
IsBelowRange arrays variable word = (range : ℕ) × (range_of arrays variable ≡ Some range) × (word < range)

-- What a fact says of arrays. The size of a level, wherever the level has one, is the range of the variable; each coordinate that stands
-- in the level's array is below that range, unless it is an array that kernels may write: of those nothing is said.
abbrev pub IsFact : (Arr → Option (List ℕ)) → StoreFact → Type 0
IsFact arrays (Size tensor level variable) =
    (words : List ℕ) (size : ℕ) → arrays (arr.Dimension tensor level) ≡ Some words → slice_get words 0 ≡ Some size
    → range_of arrays variable ≡ Some size
IsFact arrays (Coordinates tensor level variable) =
    may_write (arr.Coordinates tensor level) ≡ false → (words : List ℕ) (place word : ℕ)
    → arrays (arr.Coordinates tensor level) ≡ Some words → slice_get words place ≡ Some word → IsBelowRange arrays variable word

-- a state in which facts hold and ranges are words
pub record KeepsFacts (facts : List StoreFact) (s : State) : Type 0 where
  pub each : All (IsFact s.arrays) facts
  pub words : (ranges : List ℕ) (variable range : ℕ) → s.arrays arr.Range ≡ Some ranges → slice_get ranges variable ≡ Some range
      → range < 2 ^ 64

-- where facts hold, this one does
pub record Tells (facts : List StoreFact) (fact : StoreFact) : Type 0 where
  pub at : (s : State) → KeepsFacts facts s → IsFact s.arrays fact

-- where facts hold and the first expression has a value, the second has the same
pub record Becomes (facts : List StoreFact) (e f : KExpr) : Type 0 where
  pub at : (s : State) (v : ℕ) → KeepsFacts facts s → value e s ≡ Some v → value f s ≡ Some v

-- where facts hold and an expression has a value, that is below the range of a variable
pub record IsBelow (facts : List StoreFact) (e : KExpr) (variable : ℕ) : Type 0 where
  pub at : (s : State) (v : ℕ) → KeepsFacts facts s → value e s ≡ Some v → IsBelowRange s.arrays variable v
