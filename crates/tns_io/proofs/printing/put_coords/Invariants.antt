use Rattle.std.proofs.Common.{drop}
use Rattle.outside.specs.Sink.{AppendsSoFar}
use Rattle.tns_io.specs.Text.{coords_text}
use Rattle.tns_io.proofs.printing.put_coords.Given as goal

abbrev pub invariant-loop-coordinate : goal.invariant-loop-coordinate
invariant-loop-coordinate g l =
    AppendsSoFar (g.K.Sink.state l.fn.sink) (g.K.Sink.state l.sink) (coords_text l.coords) (coords_text (drop l.coordinate-index l.coords))
