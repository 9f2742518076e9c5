use Rattle.std.specs.Prelude.{◌≡◌, ◌+◌, ◌%◌, slice_index}
use Rattle.level_checks.proofs.BlockSteps.{Passed}
use Rattle.level_checks.proofs.blocks.is_found_at.Given as goal

abbrev pub invariant-loop-step : goal.invariant-loop-step
invariant-loop-step l = (l.place ≡ (l.x + l.step) % l.width) × Passed (slice_index l.slots) l.width l.base l.x l.at l.step
