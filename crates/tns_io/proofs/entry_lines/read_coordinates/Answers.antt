use Rattle.std.proofs.Common.{arith, sym}
use Rattle.tns_io.proofs.FieldLaws.{coordinates_set}
use Rattle.tns_io.proofs.entry_lines.read_coordinates.Goals as goal

pub loop-coordinate-preserved : goal.loop-coordinate-preserved
loop-coordinate-preserved c =
    coordinates_set c.loop-coordinate.coordinate-index _ _ _ c.loop-coordinate.coords _ _
    (omega (arith, c.loop-coordinate-test.true, c.loop-coordinate.auto.coords)) c.loop-coordinate.invariant c.in-Some.ensures
    (sym c.in_ok-coordinate.ensures)
