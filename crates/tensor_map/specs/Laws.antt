-- What follows from the definitions of `Entries`: sums at coordinate lists, and increasing rows.
use Rattle.std.specs.Prelude.{◌≡◌, ◌≢◌, ℕ, ◌^◌, ◌<◌, true, false, nat_eq, List, [], ◌∷◌}
use Rattle.std.specs.Cmp.Lexicographic.{pointwise}
use Rattle.numbers.specs.Arithmetic.{Arithmetic}
use Rattle.tensor_map.specs.Entries.{Entry}

-- whether two coordinate lists are the same, told by the test or by a proof
pub data Tested (xs ys : List ℕ) : Type 0 where
  same : xs ≡ ys → pointwise nat_eq xs ys ≡ true → Tested xs ys
  other : xs ≢ ys → pointwise nat_eq xs ys ≡ false → Tested xs ys

-- every value is a word other than zero
abbrev pub AllNonzero : Arithmetic → List Entry → Type 0
AllNonzero a [] = Unit {0}
AllNonzero a (entry ∷ entries) = (entry.value < 2 ^ 64) × (entry.value ≢ a.zero) × AllNonzero a entries
