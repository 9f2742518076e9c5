-- Arrays that no kernel writes, and the words among them that are known to be words.
use Rattle.std.specs.Prelude.{◌≡◌, ◌≢◌, ℕ, ◌<◌, ◌^◌, ◌%◌, false, List, Some, slice_get}
use Rattle.std.specs.Int.{bit_at}
use Rattle.kernel_code.specs.declared.syntax.Arr.{Arr}
use Rattle.kernel_code.specs.declared.syntax.Arr.TheVariants.{Range}
use Rattle.kernel_code.specs.declared.syntax.KExpr.{KExpr}
use Rattle.kernel_code.specs.Arrays.{may_write}
use Rattle.kernel_code.specs.Keeps.{Mentions}
use Rattle.kernel_code.specs.Meaning.{State}

-- no kernel writes the array
abbrev pub IsReadOnly : Arr → Type 0
IsReadOnly a = may_write a ≡ false

-- every variable
abbrev pub AnyVariable : ℕ → Type 0
AnyVariable y = Unit {0}

-- the ranges of the variables are words
pub record HasWords (s : State) : Type 0 where
  pub words : (xs : List ℕ) (i v : ℕ) → s.arrays Range ≡ Some xs → slice_get xs i ≡ Some v → v < 2 ^ 64

-- where the bit of a variable is 0, the one at its remainder by 64, an expression mentions neither it nor an array that may be written
pub record Covers (bits : ℕ) (e : KExpr) : Type 0 where
  pub at : (x : ℕ) → bit_at bits (x % 64) ≡ 0 → Mentions (λ y. x ≢ y) IsReadOnly e

-- each bit that is 0 in the second is 0 in the first
pub record IsWithin (bits more : ℕ) : Type 0 where
  pub at : (x : ℕ) → bit_at more (x % 64) ≡ 0 → bit_at bits (x % 64) ≡ 0
