-- The coordinates at which a merged loop turns.
use Rattle.std.specs.Prelude.{◌≡◌, ◌⊎◌, ℕ, ◌+◌, ◌≤◌, ◌<◌, List, [], ◌∷◌, ◌++◌}
use Rattle.tensor_map.specs.Entries.{Entry}

-- numbers that rise strictly, from least on, below n
abbrev pub RiseBelow : ℕ → ℕ → List ℕ → Type 0
RiseBelow least n [] = least ≤ n
RiseBelow least n (x ∷ xs) = (least ≤ x) × (x < n) × RiseBelow (x + 1) n xs

abbrev pub IsOneOf : ℕ → List ℕ → Type 0
IsOneOf x [] = ⊥
IsOneOf x (y ∷ ys) = (x ≡ y) ⊎ IsOneOf x ys

-- the rows of some coordinates, one after another
abbrev pub rows_at : List ℕ → (ℕ → List Entry) → List Entry
rows_at [] f = []
rows_at (x ∷ xs) f = f x ++ rows_at xs f
