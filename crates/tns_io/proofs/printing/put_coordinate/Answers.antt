use Rattle.std.specs.Prelude.{◌+◌, ◌∷◌, []}
use Rattle.std.specs.Fmt.{decimal}
use Rattle.std.proofs.Common.{arith}
use Rattle.limits.proofs.Limits.{positions_are_small}
use Rattle.text_lines.proofs.PutPieces.{printed, refused, then_printed}
use Rattle.tns_io.proofs.printing.put_coordinate.Goals as goal

pub overflow_add-coordinate : goal.overflow_add-coordinate
overflow_add-coordinate g c = omega (arith, positions_are_small)

pub returns-in_err-put_u64 : goal.returns-in_err-put_u64
returns-in_err-put_u64 g c =
    refused c.from_residual.result c.in_err-put_u64.field-0.0 _ _ (decimal (c.args.coordinate + 1)) (32 ∷ []) c.from_residual.ensures.1
    c.in_err-put_u64.ensures.part

pub returns : goal.returns
returns g c =
    then_printed _ _ _ _ (decimal (c.args.coordinate + 1)) (32 ∷ []) c.in_ok-put_u64.ensures.whole
    (printed _ _ _ _ c.put_all.ensures.whole c.put_all.ensures.part)
