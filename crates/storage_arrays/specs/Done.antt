-- The levels of packed tensors are finished.
use Rattle.std.specs.Prelude.{ℕ, List}
use Rattle.format_spec.specs.declared.format.FormatLevel.{FormatLevel}
use Rattle.tensor_storage.specs.Stands.{IsPacked}
use Rattle.tensor_storage.specs.Storages.{Storage}
use Rattle.tensor_storage.specs.Tables.{Table}
use Rattle.storage_arrays.specs.Arrays.{AreDone}

abbrev pub PackedAreDone : Type 0
PackedAreDone = (zero : ℕ) (format : List FormatLevel) (ranges : List ℕ) (table : Table) (storage : Storage)
    → IsPacked zero format ranges table storage → AreDone 1 storage.levels
