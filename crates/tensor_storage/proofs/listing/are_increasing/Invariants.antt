use Rattle.std.specs.Prelude.{ℕ, suc, ◌<◌, slice_index_or}
use Rattle.tensor_map.specs.Entries.{Entry}
use Rattle.tensor_map.specs.Order.{IsBefore}
use Rattle.tensor_storage.proofs.listing.are_increasing.Given as goal

abbrev pub invariant-loop-next : goal.invariant-loop-next
invariant-loop-next l = (k : ℕ) (d : Entry) → suc k < l.next
    → IsBefore (slice_index_or l.entries.list k d).coords (slice_index_or l.entries.list (suc k) d).coords
