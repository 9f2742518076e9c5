use Rattle.std.specs.Prelude.{ℕ, ◌<◌, length, slice_index, slice_index_or}
use Rattle.tensor_map.specs.Entries.{Entry}
use Rattle.storage_cases.proofs.tensors.are_inside.Given as goal

abbrev pub invariant-loop-i : goal.invariant-loop-i
invariant-loop-i l = (k : ℕ) (d : Entry) → k < l.i → (mode : ℕ) → mode < length l.ranges
    → slice_index (slice_index_or l.entries.list k d).coords mode < slice_index l.ranges mode
