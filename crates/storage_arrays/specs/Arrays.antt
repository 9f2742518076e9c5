-- Finished levels that stand one below another.
use Rattle.std.specs.Prelude.{ℕ, List, [], ◌∷◌}
use Rattle.tensor_storage.specs.declared.level.StorageLevel.{StorageLevel}
use Rattle.tensor_storage.specs.Levels.{meaning}

-- how many positions a level has below so many parents
abbrev pub positions_in : ℕ → StorageLevel → ℕ
positions_in parents l = meaning.positions l parents

-- each level is finished, and has the positions of the level above as parents
abbrev pub AreDone : ℕ → List StorageLevel → Type 0
AreDone parents [] = Unit {0}
AreDone parents (l ∷ ls) = meaning.has_parents l parents × AreDone (positions_in parents l) ls
