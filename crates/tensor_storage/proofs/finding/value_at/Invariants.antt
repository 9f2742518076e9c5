use Rattle.std.specs.Prelude.{length}
use Rattle.tensor_storage.specs.Storages.{in_level_order}
use Rattle.tensor_storage.proofs.Paths.{Reached}
use Rattle.tensor_storage.proofs.finding.value_at.Given as goal

abbrev pub invariant-loop-depth : goal.invariant-loop-depth
invariant-loop-depth g l = Reached g.L.LevelKind.meaning l.levels (in_level_order l.format l.coords) (length l.values) l.depth l.span
