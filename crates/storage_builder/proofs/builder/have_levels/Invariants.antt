use Rattle.std.specs.Prelude.{◌≤◌}
use Rattle.limits.specs.Limits.{greatest_position_count}
use Rattle.level_checks.proofs.Loops.{Same}
use Rattle.storage_builder.proofs.Having.{Left}
use Rattle.storage_builder.proofs.builder.have_levels.Given as goal

abbrev pub invariant-loop-number : goal.invariant-loop-number
invariant-loop-number l = Same (Left l.format l.sizes l.parts l.number l.parents l.values) (Left l.format l.sizes l.parts 0 1 l.values)
    × (l.parents ≤ greatest_position_count)
