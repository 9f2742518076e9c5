-- What is kept of the number that the digits so far stand for.
use Rattle.std.specs.Prelude.{◌≡◌, ℕ, ◌^◌, ◌≤◌, Option, Some, None}

-- the number, where it is below 2^64
abbrev pub IsKept : Option ℕ → ℕ → Type 0
IsKept None n = 2 ^ 64 ≤ n
IsKept (Some m) n = m ≡ n
