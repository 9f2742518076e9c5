-- What the arrays of a level hold: of a full one its size, of one that stores coordinates in order none above its range.
use Rattle.std.specs.Prelude.{◌≡◌, ℕ, true, false, List, [], ◌∷◌, Some}
use Rattle.kernel_code.specs.declared.syntax.Arr.TheVariants.{Dimension, Coordinates}
use Rattle.level_core.specs.GroupLaws.{CoordsBelow}
use Rattle.level_core.specs.Kinds.{properties}
use Rattle.level_core.specs.Meaning.{Arrays}
use Rattle.tensor_storage.specs.declared.level.StorageLevel.{StorageLevel}
use Rattle.tensor_storage.specs.Levels.{meaning}
use Rattle.tensor_storage.proofs.EachKind.{each_gives}

pub size_held : (l : StorageLevel) (tensor level : ℕ) (arrays : Arrays) (words : List ℕ) → (properties (meaning.kind l)).full ≡ true
    → meaning.holds l tensor level arrays → arrays (Dimension tensor level) ≡ Some words → words ≡ meaning.size l ∷ []
size_held = each_gives _ (λ L wrap gives l. gives.size_held l)

pub coordinates_held : (l : StorageLevel) (tensor level : ℕ) (arrays : Arrays) (words : List ℕ)
    → (properties (meaning.kind l)).full ≡ false → (properties (meaning.kind l)).ordered ≡ true → meaning.keeps l
    → meaning.holds l tensor level arrays → arrays (Coordinates tensor level) ≡ Some words → CoordsBelow (meaning.size l) words
coordinates_held = each_gives _ (λ L wrap gives l. gives.coordinates_held l)
