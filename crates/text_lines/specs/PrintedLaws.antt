-- The texts of numbers as tokens of a line.
use Rattle.std.specs.Prelude.{ℕ, ◌≤◌}

-- a byte from `-` on, as the digits are
abbrev pub IsFilled : ℕ → Type 0
IsFilled byte = 45 ≤ byte
