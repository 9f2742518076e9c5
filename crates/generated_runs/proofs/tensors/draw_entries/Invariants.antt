use Rattle.std.proofs.Common.{◌≡◌, ◌*◌}
use Rattle.generated_runs.specs.Draws.{state_after}
use Rattle.generated_runs.specs.Generated.{first_drawn}
use Rattle.generated_runs.proofs.tensors.draw_entries.Given as goal

abbrev pub invariant-loop-drawn : goal.invariant-loop-drawn
invariant-loop-drawn l = (l.entries.order ≡ 2) × (l.entries.list ≡ first_drawn l.n l.initial.draws.state l._drawn)
    × (l.draws.state ≡ state_after l.initial.draws.state (3 * l._drawn))
