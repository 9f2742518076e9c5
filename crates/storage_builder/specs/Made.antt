-- The levels whose words were handed over.
use Rattle.std.specs.Prelude.{ℕ, List, [], ◌∷◌}
use Rattle.level_core.specs.declared.letter.Letter.{Letter}
use Rattle.tensor_storage.specs.declared.level.StorageLevel.{StorageLevel}
use Rattle.tensor_storage.specs.declared.words.LevelWords.{LevelWords}
use Rattle.tensor_storage.specs.Handed.{IsHandedOver, AreAlike}
use Rattle.storage_arrays.specs.Arrays.{positions_in}

-- finished levels of these kinds and ranges, one below another, the first of which has so many parents, have these words
abbrev pub AreHandedOver : List Letter → List ℕ → List LevelWords → ℕ → List StorageLevel → Type 0
AreHandedOver [] sizes words parents [] = Unit {0}
AreHandedOver [] sizes words parents (l ∷ ls) = ⊥
AreHandedOver (letter ∷ letters) sizes words parents [] = ⊥
AreHandedOver (letter ∷ letters) [] words parents (l ∷ ls) = ⊥
AreHandedOver (letter ∷ letters) (size ∷ sizes) [] parents (l ∷ ls) = ⊥
AreHandedOver (letter ∷ letters) (size ∷ sizes) (part ∷ parts) parents (l ∷ ls) =
    IsHandedOver letter size parents part l × AreHandedOver letters sizes parts (positions_in parents l) ls

-- levels that are the same but for their room, one by one
abbrev pub AllAlike : List StorageLevel → List StorageLevel → Type 0
AllAlike [] [] = Unit {0}
AllAlike [] (m ∷ ms) = ⊥
AllAlike (l ∷ ls) [] = ⊥
AllAlike (l ∷ ls) (m ∷ ms) = AreAlike l m × AllAlike ls ms

-- the positions of the last level below so many parents, or these where there is none
abbrev pub values_for : ℕ → List StorageLevel → ℕ
values_for parents [] = parents
values_for parents (l ∷ ls) = values_for (positions_in parents l) ls
