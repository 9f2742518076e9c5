use Rattle.std.specs.Prelude.{◌≡◌, ◌≤◌, length}
use Rattle.level_checks.proofs.HashedWords.{most_in}
use Rattle.level_checks.proofs.hashed.most_filled.Given as goal

abbrev pub invariant-loop-parent : goal.invariant-loop-parent
invariant-loop-parent l = (l.most ≡ most_in l.slots l.width l.parent) × (l.most ≤ length l.slots)
