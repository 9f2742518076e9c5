use Rattle.std.specs.Prelude.{◌≡◌}
use Rattle.format_spec.specs.Formats.{standing}
use Rattle.format_spec.proofs.modes.standing_order.Given as goal

abbrev pub invariant-loop-mode : goal.invariant-loop-mode
invariant-loop-mode l = (l.modes.items ≡ standing l.mode) × (l.modes.capacity ≡ 6)
