use Rattle.std.specs.Prelude.{drop}
use Rattle.std.specs.List.{flat_map}
use Rattle.outside.specs.Sink.{AppendsSoFar}
use Rattle.reports.specs.Plans.{next_mode}
use Rattle.reports.proofs.plans.put_next_modes.Given as goal

abbrev pub invariant-loop-mode : goal.invariant-loop-mode
invariant-loop-mode g l = AppendsSoFar (g.S.Sink.state l.fn.sink) (g.S.Sink.state l.sink) (flat_map next_mode l.modes)
    (flat_map next_mode (drop l.mode-index l.modes))
