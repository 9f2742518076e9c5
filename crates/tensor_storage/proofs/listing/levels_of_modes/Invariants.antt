use Rattle.std.specs.Prelude.{◌≡◌, ℕ, ◌<◌, All, length, slice_index}
use Rattle.format_spec.specs.Formats.{modes_of}
use Rattle.tensor_storage.proofs.listing.levels_of_modes.Given as goal

abbrev pub invariant-loop-mode : goal.invariant-loop-mode
invariant-loop-mode l = (length l.places.items ≡ l.mode) × All (λ place. place < length l.format) l.places.items
    × ((mode : ℕ) → mode < l.mode → slice_index (modes_of l.format) (slice_index l.places.items mode) ≡ mode)
