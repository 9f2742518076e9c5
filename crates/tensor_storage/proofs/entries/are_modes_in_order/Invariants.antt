use Rattle.std.specs.Prelude.{◌≡◌, ◌<◌, ℕ, slice_index}
use Rattle.format_spec.specs.Formats.{modes_of}
use Rattle.tensor_storage.proofs.entries.are_modes_in_order.Given as goal

abbrev pub invariant-loop-level : goal.invariant-loop-level
invariant-loop-level l = (k : ℕ) → k < l.level → slice_index (modes_of l.format) k ≡ k
