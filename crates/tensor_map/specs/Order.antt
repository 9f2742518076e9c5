-- The lexicographic order of coordinate lists.
use Rattle.std.specs.Prelude.{◌≡◌, ℕ, ◌<◌, List, [], ◌∷◌, ◌⊎◌}

-- the first pair that differs decides, and a list comes before a longer one that it begins
abbrev pub IsBefore : List ℕ → List ℕ → Type 0
IsBefore [] [] = ⊥
IsBefore [] (y ∷ ys) = Unit {0}
IsBefore (x ∷ xs) [] = ⊥
IsBefore (x ∷ xs) (y ∷ ys) = (x < y) ⊎ ((x ≡ y) × IsBefore xs ys)

-- the coordinate list is before each of these
abbrev pub IsBeforeAll : List ℕ → List (List ℕ) → Type 0
IsBeforeAll coords [] = Unit {0}
IsBeforeAll coords (later ∷ others) = IsBefore coords later × IsBeforeAll coords others

-- each coordinate list is before all that follow it
abbrev pub Increasing : List (List ℕ) → Type 0
Increasing [] = Unit {0}
Increasing (coords ∷ others) = IsBeforeAll coords others × Increasing others
