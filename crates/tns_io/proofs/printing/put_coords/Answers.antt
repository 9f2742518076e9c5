use Rattle.std.specs.Prelude.{◌+◌, drop}
use Rattle.text_lines.proofs.PutPieces.{more_so_far, refused, rest_told, then_rest}
use Rattle.tns_io.specs.Text.{coords_text}
use Rattle.tns_io.proofs.PrintLaws.{coords_step}
use Rattle.tns_io.proofs.printing.put_coords.Goals as goal

pub loop-coordinate-preserved : goal.loop-coordinate-preserved
loop-coordinate-preserved g c =
    more_so_far _ _ _ _ _ _
    (rest_told _ _ _ _ _ (coords_step c.args.coords.now c.loop-coordinate.coordinate-index c.loop-coordinate-test.true)
    c.loop-coordinate.invariant)
    c.in_ok-put_coordinate.ensures

pub returns-in_err-put_coordinate : goal.returns-in_err-put_coordinate
returns-in_err-put_coordinate g c =
    then_rest _ _ _ _ _ _
    (rest_told _ _ _ _ _ (coords_step c.args.coords.now c.loop-coordinate.coordinate-index c.loop-coordinate-test.true)
    c.loop-coordinate.invariant)
    (refused c.from_residual.result c.in_err-put_coordinate.field-0.0 _ _ _
    (coords_text (drop (c.loop-coordinate.coordinate-index + 1) c.args.coords.now))
    c.from_residual.ensures.1 c.in_err-put_coordinate.ensures)
