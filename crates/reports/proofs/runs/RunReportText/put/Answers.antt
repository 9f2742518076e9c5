use Rattle.std.specs.Prelude.{ℕ, List}
use Rattle.std.proofs.lemmas.Result.{IfErr-weaker}
use Rattle.text_lines.proofs.PutPieces.{part_printed, refused}
use Rattle.text_lines.proofs.PutsLemmas.{part_of_second}
use Rattle.reports.specs.Reports.{kernel_report, result_report}
use Rattle.reports.proofs.runs.RunReportText.put.Goals as goal

pub returns-in_err-put-clause-part : goal.returns-in_err-put-clause-part
returns-in_err-put-clause-part g c =
    let report = c.args.self.now in
    let of = report.kernel in
    let kernel : List ℕ = kernel_report of.statement.now of.order.now of.formats.now of.kernel.now in
    let outcome : List ℕ = result_report g.S.Semiring.is_signed of.statement.now report.turns.now report.tensor.now in
    let r = c.from_residual in
    part_printed r.result _ _ _ (refused r.result c.in_err-put.field-0.0 _ _ kernel outcome r.ensures.1 c.in_err-put.ensures.part)

pub returns-clause-part : goal.returns-clause-part
returns-clause-part g c =
    let report = c.args.self.now in
    let of = report.kernel in
    let kernel : List ℕ = kernel_report of.statement.now of.order.now of.formats.now of.kernel.now in
    let outcome : List ℕ = result_report g.S.Semiring.is_signed of.statement.now report.turns.now report.tensor.now in
    IfErr-weaker c.put_result.result _ _ (λ why part. part_of_second _ _ _ kernel outcome why c.in_ok-put.ensures.whole part)
    c.put_result.ensures.part
