use Rattle.std.specs.Prelude.{ℕ, List, ◌++◌, codes}
use Rattle.format_spec.specs.Words.{format_text}
use Rattle.text_lines.proofs.PutPieces.{printed, refused, then_printed}
use Rattle.reports.specs.Reports.{title_text}
use Rattle.reports.proofs.heading.put_tensor.Goals as goal

pub returns-in_err-put_title : goal.returns-in_err-put_title
returns-in_err-put_title g c =
    let t : List ℕ = title_text c.args.number c.args.name.now in
    let f : List ℕ = format_text c.args.format.now in
    refused c.from_residual.result c.in_err-put_title.field-0.0 _ _ t (f ++ codes "\n") c.from_residual.ensures.1
    c.in_err-put_title.ensures.part

pub returns-in_err-put_format : goal.returns-in_err-put_format
returns-in_err-put_format g c =
    let t : List ℕ = title_text c.args.number c.args.name.now in
    let f : List ℕ = format_text c.args.format.now in
    let r = c.from_residual-in_err-put_format in
    then_printed _ _ _ _ t (f ++ codes "\n") c.in_ok-put_title.ensures.whole
    (refused r.result c.in_err-put_format.field-0.0 _ _ f (codes "\n") r.ensures.1 c.in_err-put_format.ensures.part)

pub returns : goal.returns
returns g c =
    let t : List ℕ = title_text c.args.number c.args.name.now in
    let f : List ℕ = format_text c.args.format.now in
    then_printed _ _ _ _ t (f ++ codes "\n") c.in_ok-put_title.ensures.whole
    (then_printed _ _ _ _ f (codes "\n") c.in_ok-put_format.ensures.whole
    (printed _ _ _ _ c.put_all.ensures.whole c.put_all.ensures.part))
