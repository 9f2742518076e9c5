use Rattle.std.specs.Prelude.{ℕ, List}
use Rattle.std.proofs.lemmas.Result.{IfErr-weaker}
use Rattle.text_lines.proofs.PutPieces.{part_printed, refused}
use Rattle.text_lines.proofs.PutsLemmas.{part_of_second}
use Rattle.kernel_print.specs.Text.{kernel_text}
use Rattle.reports.specs.Reports.{heading_text}
use Rattle.reports.proofs.kernels.KernelReportText.put.Goals as goal

pub returns-in_err-put_heading-clause-part : goal.returns-in_err-put_heading-clause-part
returns-in_err-put_heading-clause-part g c =
    let report = c.args.self.now in
    let heading : List ℕ = heading_text report.statement.now report.order.now report.formats.now in
    let kernel : List ℕ = kernel_text report.kernel.now in
    let r = c.from_residual in
    part_printed r.result _ _ _
    (refused r.result c.in_err-put_heading.field-0.0 _ _ heading kernel r.ensures.1 c.in_err-put_heading.ensures.part)

pub returns-clause-part : goal.returns-clause-part
returns-clause-part g c =
    let report = c.args.self.now in
    let heading : List ℕ = heading_text report.statement.now report.order.now report.formats.now in
    let kernel : List ℕ = kernel_text report.kernel.now in
    IfErr-weaker c.put_kernel.result _ _ (λ why part. part_of_second _ _ _ heading kernel why c.in_ok-put_heading.ensures.whole part)
    c.put_kernel.ensures.part
