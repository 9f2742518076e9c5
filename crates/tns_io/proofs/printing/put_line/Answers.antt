use Rattle.std.specs.Prelude.{◌++◌, ◌∷◌, []}
use Rattle.std.specs.Fmt.{signed_decimal}
use Rattle.numbers.specs.Signed.{written_of}
use Rattle.text_lines.proofs.PutPieces.{printed, refused, then_printed}
use Rattle.tns_io.specs.Text.{coords_text}
use Rattle.tns_io.proofs.printing.put_line.Goals as goal

pub returns-in_err-put_coords : goal.returns-in_err-put_coords
returns-in_err-put_coords g c =
    refused c.from_residual.result c.in_err-put_coords.field-0.0 _ _ (coords_text c.args.coords.now)
    (signed_decimal (written_of g.S.Semiring.is_signed c.args.value) ++ 10 ∷ [])
    c.from_residual.ensures.1 c.in_err-put_coords.ensures

pub returns-in_err-put_value : goal.returns-in_err-put_value
returns-in_err-put_value g c =
    let r = c.from_residual-in_err-put_value in
    then_printed _ _ _ _ (coords_text c.args.coords.now) (signed_decimal (written_of g.S.Semiring.is_signed c.args.value)
    ++ 10 ∷ []) c.in_ok-put_coords.ensures
    (refused r.result c.in_err-put_value.field-0.0 _ _ (signed_decimal (written_of g.S.Semiring.is_signed c.args.value))
    (10 ∷ []) r.ensures.1
    c.in_err-put_value.ensures)

pub returns : goal.returns
returns g c =
    then_printed _ _ _ _ (coords_text c.args.coords.now) (signed_decimal (written_of g.S.Semiring.is_signed c.args.value)
    ++ 10 ∷ []) c.in_ok-put_coords.ensures
    (then_printed _ _ _ _ (signed_decimal (written_of g.S.Semiring.is_signed c.args.value)) (10 ∷ []) c.in_ok-put_value.ensures
    (printed _ _ _ _ c.put_all.ensures.whole c.put_all.ensures.part))
