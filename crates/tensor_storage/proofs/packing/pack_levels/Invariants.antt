use Rattle.std.specs.Prelude.{◌≤◌}
use Rattle.limits.specs.Limits.{greatest_position_count}
use Rattle.format_spec.specs.Formats.{letters_of}
use Rattle.tensor_storage.specs.Levels.{meaning}
use Rattle.tensor_storage.specs.Packed.{ArePacked}
use Rattle.tensor_storage.specs.Places.{places_in}
use Rattle.tensor_storage.specs.Storages.{in_level_order}
use Rattle.tensor_storage.proofs.packing.pack_levels.Given as goal

abbrev pub invariant-loop-level : goal.invariant-loop-level
invariant-loop-level g l =
    (ArePacked meaning (letters_of l.format) (in_level_order l.format l.ranges) (g.T.RowTable.table l.table) l.level l.levels
    (places_in l.places) l.parents) × (l.parents ≤ greatest_position_count)
