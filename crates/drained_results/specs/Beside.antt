-- A result that rows are appended to, beside a workspace that is drained into it: each leaves what the other holds.
use Rattle.appended_results.specs.Sink.{appended_sink}
use Rattle.appended_results.specs.declared.sink.AppendedSink.{AppendedSink}
use Rattle.drained_workspaces.specs.Drained.{AreBeside}
use Rattle.pair_workspaces.specs.Sinks.{pair_sink}
use Rattle.pair_workspaces.specs.declared.sink.PairSink.{PairSink}
use Rattle.touched_workspaces.specs.Sinks.{touched_sink}
use Rattle.touched_workspaces.specs.declared.sink.TouchedSink.{TouchedSink}

abbrev pub AppendedBesideTouched : Type 0
AppendedBesideTouched = (k : AppendedSink) (w : TouchedSink) → AreBeside appended_sink k touched_sink w

abbrev pub AppendedBesidePairs : Type 0
AppendedBesidePairs = (k : AppendedSink) (w : PairSink) → AreBeside appended_sink k pair_sink w
