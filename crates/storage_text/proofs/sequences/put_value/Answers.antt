use Rattle.text_lines.proofs.PutPieces.{refused, then_printed}
use Rattle.storage_text.proofs.sequences.put_value.Goals as goal

pub returns-in_err-put_all : goal.returns-in_err-put_all
returns-in_err-put_all g c =
    refused c.from_residual.result c.in_err-put_all.field-0.0 _ _ _ _ c.from_residual.ensures.1 c.in_err-put_all.ensures.part

pub returns : goal.returns
returns g c = then_printed _ _ _ _ _ _ c.in_ok-put_all.ensures.whole c.put_written.ensures
