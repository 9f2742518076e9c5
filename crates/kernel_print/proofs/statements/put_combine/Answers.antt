use Rattle.std.specs.Prelude.{ℕ, List, ◌++◌, codes}
use Rattle.std.specs.Fmt.{decimal}
use Rattle.std.proofs.Common.{ap}
use Rattle.kernel_print.specs.Text.{expr_text}
use Rattle.text_lines.proofs.PutPieces.{then_printed, refused, retold}
use Rattle.kernel_print.proofs.statements.put_combine.Goals as goal

pub returns-in_err-put_numbered : goal.returns-in_err-put_numbered
returns-in_err-put_numbered g c =
    refused c.from_residual.result c.in_err-put_numbered.field-0.0 _ _ _ _ c.from_residual.ensures.1 c.in_err-put_numbered.ensures

pub returns : goal.returns
returns g c =
    let values : List ℕ = expr_text c.args.e.now ++ (codes ", " ++ (expr_text c.args.f.now ++ codes ");\n")) in
    retold _ _ _ _ _ (ap (λ (o : List ℕ). codes "x" ++ (decimal c.args.x ++ (o ++ values))) c.combining.ensures)
    (then_printed _ _ _ _ (codes "x" ++ decimal c.args.x) (c.combining.result.now ++ values) c.in_ok-put_numbered.ensures c.put_two.ensures)
