use Rattle.std.specs.Prelude.{ℕ, ◌<◌, slice_index}
use Rattle.level_checks.specs.Found.{KeepsSlot}
use Rattle.level_checks.proofs.blocks.keeps_block.Given as goal

abbrev pub invariant-loop-at : goal.invariant-loop-at
invariant-loop-at l = (j : ℕ) → j < l.at → KeepsSlot (slice_index l.slots) l.size l.width l.base j
