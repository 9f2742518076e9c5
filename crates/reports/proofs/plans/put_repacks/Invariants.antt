use Rattle.std.specs.Prelude.{drop}
use Rattle.std.specs.List.{flat_map}
use Rattle.outside.specs.Sink.{AppendsSoFar}
use Rattle.reports.specs.Plans.{repack_line}
use Rattle.reports.proofs.plans.put_repacks.Given as goal

abbrev pub invariant-loop-repack : goal.invariant-loop-repack
invariant-loop-repack g l = AppendsSoFar (g.S.Sink.state l.fn.sink) (g.S.Sink.state l.sink) (flat_map (repack_line l.statement) l.plan)
    (flat_map (repack_line l.statement) (drop l.repack-index l.plan))
