-- What every run keeps of the arrays, whatever its kernel does.
use Rattle.std.specs.Prelude.{◌≡◌, ℕ, false, List, Option, Some}
use Rattle.kernel_code.specs.declared.syntax.Arr.{Arr}
use Rattle.kernel_code.specs.Arrays.{may_write}

-- an array that a kernel mayn't write is as it was, and one that was there is there
pub record Keeps (before after : Arr → Option (List ℕ)) : Type 0 where
  pub unwritten : (x : Arr) → may_write x ≡ false → after x ≡ before x
  pub there : (x : Arr) (xs : List ℕ) → before x ≡ Some xs → (ys : List ℕ) × (after x ≡ Some ys)
