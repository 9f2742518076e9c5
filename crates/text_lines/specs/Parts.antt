-- The parts into which std's `slice_split` cuts a list, one by one.
use Rattle.std.specs.Prelude.{Bool, List, [], ◌∷◌}
use Rattle.std.specs.List.{slice_split}

-- the parts behind the first, where the rest begins with what ends that
abbrev pub parts_behind : {X : Type 0} → (X → Bool) → List X → List (List X)
parts_behind p [] = []
parts_behind p (x ∷ xs) = slice_split p xs
