use Rattle.std.specs.Prelude.{◌≡◌, ◌≤◌, take, All}
use Rattle.limits.specs.Limits.{greatest_position_count}
use Rattle.tensor_storage.specs.Storages.{in_level_order}
use Rattle.storage_builder.proofs.sizes.level_sizes.Given as goal

abbrev pub invariant-loop-level : goal.invariant-loop-level
invariant-loop-level l =
    (l.sizes.items ≡ take l.level (in_level_order l.format l.ranges)) × All (λ size. size ≤ greatest_position_count) l.sizes.items
