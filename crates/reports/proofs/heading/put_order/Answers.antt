use Rattle.std.specs.Prelude.{ℕ, List, ◌++◌, codes}
use Rattle.std.specs.List.{flat_map}
use Rattle.text_lines.proofs.PutPieces.{printed, refused, then_printed}
use Rattle.reports.specs.Reports.{variable_text}
use Rattle.reports.proofs.heading.put_order.Goals as goal

pub returns-in_err-put_all : goal.returns-in_err-put_all
returns-in_err-put_all g c =
    let v : List ℕ = flat_map (variable_text c.args.names.now) c.args.order.now in
    refused c.from_residual.result c.in_err-put_all.field-0.0 _ _ (codes "// order") (v ++ codes "\n") c.from_residual.ensures.1
    c.in_err-put_all.ensures.part

pub returns-in_err-put_variables : goal.returns-in_err-put_variables
returns-in_err-put_variables g c =
    let v : List ℕ = flat_map (variable_text c.args.names.now) c.args.order.now in
    let r = c.from_residual-in_err-put_variables in
    then_printed _ _ _ _ (codes "// order") (v ++ codes "\n") c.in_ok-put_all.ensures.whole
    (refused r.result c.in_err-put_variables.field-0.0 _ _ v (codes "\n") r.ensures.1 c.in_err-put_variables.ensures)

pub returns : goal.returns
returns g c =
    let v : List ℕ = flat_map (variable_text c.args.names.now) c.args.order.now in
    then_printed _ _ _ _ (codes "// order") (v ++ codes "\n") c.in_ok-put_all.ensures.whole
    (then_printed _ _ _ _ v (codes "\n") c.in_ok-put_variables.ensures
    (printed _ _ _ _ c.put_all-2.ensures.whole c.put_all-2.ensures.part))
