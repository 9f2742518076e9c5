use Rattle.std.specs.Prelude.{not, ◌&&◌}
use Rattle.std.proofs.Common.{◌∙◌, sym, ap}
use Rattle.expr_terms.specs.Terms.{contains, stands_in}
use Rattle.nested_sums.proofs.FreeVariables.{contains_filtered}
use Rattle.nested_sums.proofs.units.lacks.Goals as goal

pub returns-then-stands : goal.returns-then-stands
returns-then-stands c =
    let piece = c.args.piece.now in
    sym (contains_filtered (λ v. not (stands_in c.args.accesses.now v piece.factors)) piece.over c.args.var
    ∙ ap (λ b. not b && contains piece.over c.args.var) (sym c.stands_in-stands.ensures ∙ c.if-stands.true))

pub returns : goal.returns
returns c =
    let piece = c.args.piece.now in
    c.has_number.ensures ∙ ap (λ l. contains l c.args.var) c.as_slice-over.ensures
    ∙ sym (contains_filtered (λ v. not (stands_in c.args.accesses.now v piece.factors)) piece.over c.args.var
    ∙ ap (λ b. not b && contains piece.over c.args.var) (sym c.stands_in-stands.ensures ∙ c.if-stands.false))
