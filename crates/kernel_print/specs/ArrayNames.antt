-- That each array has a name of its own.
use Rattle.std.specs.Prelude.{◌≡◌, ℕ, ◌^◌, ◌<◌, false, List, [], ◌∷◌, ◌++◌}
use Rattle.std.specs.Char.{is_ascii_digit}
use Rattle.kernel_code.specs.declared.syntax.Arr.{Arr}
use Rattle.kernel_code.specs.declared.syntax.Arr.TheVariants as array
use Rattle.kernel_print.specs.Text.{array_text}

abbrev pub IsWord : ℕ → Type 0
IsWord n = n < 2 ^ 64

-- the numbers in the name of an array are words, as those of each array in a program are
abbrev pub HasWords : Arr → Type 0
HasWords array.Range = Unit {0}
HasWords (array.Values n) = IsWord n
HasWords (array.Dimension n level) = IsWord n × IsWord level
HasWords (array.Ends n level) = IsWord n × IsWord level
HasWords (array.Coordinates n level) = IsWord n × IsWord level
HasWords (array.Width n level) = IsWord n × IsWord level
HasWords (array.Key n key) = IsWord n × IsWord key
HasWords (array.Sums n) = IsWord n
HasWords (array.ListCoordinates n) = IsWord n
HasWords (array.ListPositions n) = IsWord n

-- no digit stands first
abbrev pub BeginsWithoutDigit : List ℕ → Type 0
BeginsWithoutDigit [] = Unit {0}
BeginsWithoutDigit (byte ∷ text) = is_ascii_digit byte ≡ false

-- where the names of two arrays, and what stands behind each, are one text, they are one array, with one text behind it
abbrev pub NamesTellArrays : Type 0
NamesTellArrays = (a b : Arr) (behind behind' : List ℕ) → HasWords a → HasWords b → BeginsWithoutDigit behind
    → BeginsWithoutDigit behind'
    → array_text a ++ behind ≡ array_text b ++ behind' → (a ≡ b) × (behind ≡ behind')
