use Rattle.std.specs.Prelude.{◌≡◌, ◌++◌}
use Rattle.std.proofs.Common.{◌∙◌, sym, ap, subst}
use Rattle.level_rows.specs.Placing.{insert_rows_code, PlacesRows}
use Rattle.level_rows.proofs.PlaceSteps.{placed_all}
use Rattle.level_rows.proofs.placing.emit_insert_rows.Goals as goal

pub returns : goal.returns
returns g c =
    let at = c.args.at in
    let kind = g.L.LevelKind.meaning.kind c.args.level.now in
    let code_is : c.append.new.self ≡ c.in_ok-code.code
    ++ insert_rows_code at.base at.workspace at.list c.args.first c.in_ok-insert.insert = c.in_ok-append.ensures.ok
    ∙ ap (λ d. c.in_ok-code.code ++ d) c.in_ok-insert_rows_statements.ensures in
    subst (PlacesRows g.L.LevelKind.meaning kind at.level at.base at.workspace at.list c.args.parents c.args.most c.args.first c.args.coord)
    (sym code_is)
    (placed_all g.L.LevelKind.meaning g.met.L.LevelKind.laws kind at.level at.base at.workspace at.list c.args.parents c.args.most
    c.args.first c.args.coord c.in_ok-code.code c.in_ok-insert.insert
    c.in_ok-code.ensures c.in_ok-insert.ensures)
