use Rattle.std.proofs.Common.{refl}
use Rattle.mtx_io.specs.Matrix.{matrix_of_text}
use Rattle.operand_files.proofs.FileLaws.{told_bad}
use Rattle.operand_files.proofs.decoding.decode_matrix.Goals as goal

pub returns-in-Err-Line : goal.returns-in-Err-Line
returns-in-Err-Line g c =
    let file = c.args.file.reader in
    let bad = (rw c.in-Err-Line.field-0-is at c.in-Err-Line.ensures).1 in
    rw c.in-Err-Line.field-0-is (
      refl,
      told_bad file.order (matrix_of_text g.S.Semiring.arithmetic g.S.Semiring.has_minus g.S.Semiring.is_signed file.order file.text)
          c.in-Err-Line.line bad.number c.in-Err-Line.kind bad.line_is bad.bad,
    )
