use Rattle.std.specs.Prelude.{◌≡◌, drop, length}
use Rattle.level_core.specs.Logs.{total}
use Rattle.compressed_level.specs.Compressed.{PartsRise}
use Rattle.level_checks.proofs.Loops.{Same}
use Rattle.level_checks.proofs.compressed.parts_rise.Given as goal

abbrev pub invariant-loop-count : goal.invariant-loop-count
invariant-loop-count l = Same (PartsRise l.unique (drop l.count-index l.counts) l.rest) (PartsRise l.unique l.counts l.coords)
    × (total (drop l.count-index l.counts) ≡ length l.rest)
