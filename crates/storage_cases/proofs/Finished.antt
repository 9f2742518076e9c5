-- What comes of packing entries.
use Rattle.std.specs.Prelude.{ℕ, List, Result, Ok, Err, MatchResult, IfOk}
use Rattle.format_spec.specs.declared.format.FormatLevel.{FormatLevel}
use Rattle.tensor_map.specs.Entries.{Entry}
use Rattle.tensor_storage.specs.Arranged.{IsPackedFrom, IsRefusalOf}
use Rattle.tensor_storage.specs.Storages.{Storage}
use Rattle.tensor_storage.specs.declared.packing.PackRefusal.{PackRefusal}
use Rattle.storage_arrays.specs.Arrays.{AreDone}
use Rattle.storage_arrays.proofs.Packed.{packed_are_done}

-- where there is a tensor, its levels are finished
pub finished : (zero : ℕ) (format : List FormatLevel) (ranges : List ℕ) (entries : List Entry) (r : Result Storage PackRefusal)
    → MatchResult r (IsPackedFrom zero format ranges entries) (IsRefusalOf format ranges entries)
    → IfOk r (λ tensor. AreDone 1 tensor.levels)
finished z format ranges entries (Ok t) h = packed_are_done _ _ _ _ _ h.packed
finished z format ranges entries (Err refusal) h = tt
