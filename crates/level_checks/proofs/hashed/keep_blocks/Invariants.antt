use Rattle.std.specs.Prelude.{ℕ, ◌*◌, ◌<◌, slice_index}
use Rattle.hashed_level.specs.Slots.{KeepsBlock}
use Rattle.level_checks.proofs.hashed.keep_blocks.Given as goal

abbrev pub invariant-loop-parent : goal.invariant-loop-parent
invariant-loop-parent l = (p : ℕ) → p < l.parent → KeepsBlock (slice_index l.slots) l.size l.width (p * l.width)
