-- A kernel's run starts on the arrays of its store.
use Rattle.std.specs.Prelude.{◌≡◌, ℕ, suc, List, [], ◌∷◌, refl}
use Rattle.kernel_code.specs.declared.syntax.Arr.{Arr}
use Rattle.kernel_code.specs.declared.syntax.Arr.TheVariants.{Range, Values, Dimension, Ends, Coordinates, Width, Key, Sums}
use Rattle.kernel_code.specs.declared.syntax.Arr.TheVariants.{ListCoordinates, ListPositions}
use Rattle.kernel_code.specs.declared.syntax.Kernel.{Kernel}
use Rattle.kernel_code.specs.Kernels.{start_arrays}
use Rattle.level_core.specs.declared.letter.Letter.{Letter}
use Rattle.level_core.specs.Fragments.{IsOf}
use Rattle.level_core.specs.Laws.{AreAtStart}
use Rattle.level_core.specs.Meaning.{Arrays}
use Rattle.level_core.proofs.KindLaws.{starts_there}
use Rattle.tensor_storage.specs.Laws.{laws}
use Rattle.tensor_storage.specs.declared.level.StorageLevel.{StorageLevel}
use Rattle.tensor_storage.specs.Storages.{Storage}
use Rattle.kernel_correctness.specs.Laws.{StartsOnStore}
use Rattle.kernel_correctness.specs.Stores.{AreHeld, OperandsHeld, StartsBelow}
use Rattle.level_core.specs.Kinds.{parents_below}

-- the arrays of a level of a tensor are the given ones
given_of : (kernel : Kernel) (arrays : Arrays) (tensor level : ℕ) (x : Arr) → IsOf tensor level x → start_arrays kernel arrays x ≡ arrays x
given_of kernel arrays tensor level Range h = absurd h
given_of kernel arrays tensor level (Values n) h = absurd h
given_of kernel arrays tensor level (Dimension n k) h = refl
given_of kernel arrays tensor level (Ends n k) h = refl
given_of kernel arrays tensor level (Coordinates n k) h = refl
given_of kernel arrays tensor level (Width n k) h = refl
given_of kernel arrays tensor level (Key n k) h = absurd h
given_of kernel arrays tensor level (Sums n) h = absurd h
given_of kernel arrays tensor level (ListCoordinates n) h = absurd h
given_of kernel arrays tensor level (ListPositions n) h = absurd h

held : (kernel : Kernel) (arrays : Arrays) (levels : List StorageLevel) (tensor level : ℕ) → AreHeld levels tensor level arrays
    → AreHeld levels tensor level (start_arrays kernel arrays)
held kernel arrays [] tensor level h = h
held kernel arrays (l ∷ ls) tensor level h = (
  laws.held_there l tensor level arrays (start_arrays kernel arrays) (given_of kernel arrays tensor level) h.0,
  held kernel arrays ls tensor (suc level) h.1,
)

operands_held : (kernel : Kernel) (arrays : Arrays) (operands : List Storage) (tensor : ℕ) → OperandsHeld operands tensor arrays
    → OperandsHeld operands tensor (start_arrays kernel arrays)
operands_held kernel arrays [] tensor h = h
operands_held kernel arrays (operand ∷ operands) tensor h = (
  record { levels = held kernel arrays operand.levels tensor 1 h.0.levels; values = h.0.values },
  operands_held kernel arrays operands (suc tensor) h.1,
)

at_start : (kernel : Kernel) (arrays : Arrays) (letter : Letter) (n parents level : ℕ) → AreAtStart letter n parents 0 level arrays
    → AreAtStart letter n parents 0 level (start_arrays kernel arrays)
at_start kernel arrays letter n parents level h =
    starts_there letter n parents 0 level arrays (start_arrays kernel arrays) (given_of kernel arrays 0 level) h

starts_below : (kernel : Kernel) (arrays : Arrays) (nothing : ℕ) (letters : List Letter) (sizes : List ℕ) (parents level : ℕ)
    → StartsBelow nothing letters sizes parents level arrays → StartsBelow nothing letters sizes parents level (start_arrays kernel arrays)
starts_below kernel arrays nothing [] [] parents level h = h
starts_below kernel arrays nothing [] (size ∷ sizes) parents level h = h
starts_below kernel arrays nothing (letter ∷ letters) [] parents level h = h
starts_below kernel arrays nothing (letter ∷ letters) (size ∷ sizes) parents level h = (
  at_start kernel arrays letter size parents level h.0,
  starts_below kernel arrays nothing letters sizes (parents_below letter size parents) (suc level) h.1,
)

pub starts_on_store : StartsOnStore
starts_on_store nothing store kernel arrays given = record {
  ranges = given.ranges;
  operands = operands_held kernel arrays store.operands 1 given.operands;
  result = starts_below kernel arrays nothing _ _ 1 1 given.result;
}
