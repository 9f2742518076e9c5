-- What the numbers of a plainly written line are read as.
use Rattle.std.specs.Prelude.{◌≡◌, ℕ, ◌<◌, List, length, slice_index, Some, Ok}
use Rattle.tns_io.specs.Reading.{coordinate_from}

-- these numbers, each such as a coordinate in a file may be, are these coordinates, counted from 0
pub record CountFromZero (numbers coords : List ℕ) : Type 0 where
  pub long : length coords ≡ length numbers
  pub each : (mode : ℕ) → mode < length numbers → coordinate_from (Some (slice_index numbers mode)) ≡ Ok (slice_index coords mode)
