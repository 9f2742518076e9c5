use Rattle.std.specs.Prelude.{◌≡◌, ◌++◌}
use Rattle.std.proofs.Common.{◌∙◌, sym, ap, subst}
use Rattle.level_rows.specs.Draining.{drain_code, DrainsRows}
use Rattle.level_rows.proofs.EmitLaws.{emitted}
use Rattle.level_rows.proofs.emitting.emit_append_rows.Goals as goal

pub returns : goal.returns
returns g c =
    let at = c.args.at in
    let kind = g.L.LevelKind.meaning.kind c.args.level.now in
    let code_is : c.append-2.new.self ≡ c.in_ok-code.code
    ++ drain_code at.base at.workspace at.list c.args.first c.in_ok-append.append c.in_ok-edges.edges = c.in_ok-append-2.ensures.ok
    ∙ ap (λ d. c.in_ok-code.code ++ d) c.in_ok-drain.ensures in
    subst (DrainsRows g.L.LevelKind.meaning kind at.level at.base at.workspace at.list c.args.parents c.args.first c.args.coord)
    (sym code_is)
    (emitted g.L.LevelKind.meaning g.met.L.LevelKind.laws kind at.level at.base at.workspace at.list c.args.parents c.args.first
    c.args.coord c.in_ok-code.code c.in_ok-append.append c.in_ok-edges.edges
    c.in_ok-code.ensures c.in_ok-append.ensures c.in_ok-edges.ensures)
