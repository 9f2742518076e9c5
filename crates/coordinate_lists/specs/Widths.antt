-- How much memory a coordinate takes.
use Rattle.std.specs.Prelude.{ℕ, ◌^◌, nat_lt, Bool}

-- whether coordinates below a range need more than four bytes
abbrev pub needs_wide : ℕ → Bool
needs_wide range = nat_lt (2 ^ 32) range
