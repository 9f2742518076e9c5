-- Sums of values: over a list, and over a range.
use Rattle.std.specs.Prelude.{ℕ, zero, suc, List, [], ◌∷◌}
use Rattle.numbers.specs.Arithmetic.{Arithmetic}

-- the sum of a list of values
abbrev pub total_of : Arithmetic → List ℕ → ℕ
total_of a [] = a.zero
total_of a (x ∷ xs) = a.plus x (total_of a xs)

-- the sum of f over the numbers below n
abbrev pub sum_below : Arithmetic → ℕ → (ℕ → ℕ) → ℕ
sum_below a zero f = a.zero
sum_below a (suc n) f = a.plus (f n) (sum_below a n f)
