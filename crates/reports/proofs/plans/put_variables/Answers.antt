use Rattle.std.specs.Prelude.{◌≡◌, ℕ, List, ◌++◌}
use Rattle.std.specs.List.{flat_map}
use Rattle.std.proofs.Common.{◌∙◌, sym, ap}
use Rattle.bindings.specs.Names.{name_at}
use Rattle.text_lines.proofs.PutPieces.{refused, retold, then_printed}
use Rattle.reports.specs.Plans.{next_variable, variables_text}
use Rattle.reports.proofs.plans.put_variables.Goals as goal

pub returns-in_err-put_all : goal.returns-in_err-put_all
returns-in_err-put_all g c =
    let names = c.args.names.now in
    let rest : List ℕ = flat_map (next_variable names) c.in-Some.others.now in
    let same : c.name_at-name.result.now ++ rest ≡ variables_text names c.args.numbers.now =
    ap (λ (n : List ℕ). n ++ rest) c.name_at-name.ensures ∙ ap (variables_text names) (sym c.in-Some.ensures.cases.0) in
    retold _ _ _ _ _ same
    (refused c.from_residual.result c.in_err-put_all.field-0.0 _ _ c.name_at-name.result.now rest c.from_residual.ensures.1
    c.in_err-put_all.ensures.part)

pub returns : goal.returns
returns g c =
    let names = c.args.names.now in
    let rest : List ℕ = flat_map (next_variable names) c.in-Some.others.now in
    let same : c.name_at-name.result.now ++ rest ≡ variables_text names c.args.numbers.now =
    ap (λ (n : List ℕ). n ++ rest) c.name_at-name.ensures ∙ ap (variables_text names) (sym c.in-Some.ensures.cases.0) in
    retold _ _ _ _ _ same
    (then_printed _ _ _ _ c.name_at-name.result.now rest c.in_ok-put_all.ensures.whole c.put_next_variables.ensures)
