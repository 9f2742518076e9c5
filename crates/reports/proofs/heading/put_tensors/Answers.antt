use Rattle.std.specs.Prelude.{ℕ, ◌+◌, drop}
use Rattle.std.proofs.Common.{arith}
use Rattle.text_lines.proofs.PutPieces.{more_so_far, refused, rest_told, then_rest}
use Rattle.reports.specs.Reports.{tensor_lines}
use Rattle.reports.proofs.Lines.{got, lines_step}
use Rattle.reports.proofs.heading.put_tensors.Goals as goal

pub loop-number-preserved : goal.loop-number-preserved
loop-number-preserved g c =
    let names = c.args.names.now in
    let formats = c.args.formats.now in
    let i : ℕ = c.loop-number.number in
    let name = c.index-names-number.result in
    let format = c.index-formats-number.result in
    let named = got names i name c.loop-number-test.true c.index-names-number.is in
    let formatted = got formats i format (omega (arith, c.requires, c.loop-number-test.true)) c.index-formats-number.is in
    more_so_far _ _ _ _ _ _
    (rest_told _ _ _ _ _ (lines_step names formats i name c.as_slice.result.now format named c.as_slice.ensures formatted)
    c.loop-number.invariant) c.in_ok-put_tensor.ensures

pub returns-in_err-put_tensor : goal.returns-in_err-put_tensor
returns-in_err-put_tensor g c =
    let names = c.args.names.now in
    let formats = c.args.formats.now in
    let i : ℕ = c.loop-number.number in
    let name = c.index-names-number.result in
    let format = c.index-formats-number.result in
    let named = got names i name c.loop-number-test.true c.index-names-number.is in
    let formatted = got formats i format (omega (arith, c.requires, c.loop-number-test.true)) c.index-formats-number.is in
    then_rest _ _ _ _ _ _
    (rest_told _ _ _ _ _ (lines_step names formats i name c.as_slice.result.now format named c.as_slice.ensures formatted)
    c.loop-number.invariant)
    (refused c.from_residual.result c.in_err-put_tensor.field-0.0 _ _ _ (tensor_lines (i + 1) (drop (i + 1) names) (drop (i + 1) formats))
    c.from_residual.ensures.1 c.in_err-put_tensor.ensures)
