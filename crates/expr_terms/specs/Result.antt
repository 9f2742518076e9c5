-- Where a result has values: below the ranges of the left side's variables.
use Rattle.std.specs.Prelude.{ℕ, ◌<◌, List, [], ◌∷◌}

-- as many coordinates as ranges, and each below its range
abbrev pub AreBelow : List ℕ → List ℕ → Type 0
AreBelow [] [] = Unit {0}
AreBelow [] (range ∷ ranges) = ⊥
AreBelow (x ∷ coords) [] = ⊥
AreBelow (x ∷ coords) (range ∷ ranges) = (x < range) × AreBelow coords ranges
