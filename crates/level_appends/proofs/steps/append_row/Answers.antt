use Rattle.std.specs.Prelude.{◌++◌}
use Rattle.std.proofs.Common.{◌∙◌, sym, ap}
use Rattle.level_appends.specs.Codes.{turn_code}
use Rattle.level_appends.proofs.RowSteps.{appends_row_once, appends_row_below}
use Rattle.level_appends.proofs.steps.append_row.Goals as goal

pub returns-then-props : goal.returns-then-props
returns-then-props g c =
    appends_row_once g.L.LevelKind.meaning g.met.L.LevelKind.laws (g.L.LevelKind.meaning.kind c.args.level.now) c.args.at.level
    c.args.at.base c.args.free c.requires.cursor c.args.parent c.args.coord c.in_ok-append.append c.in_ok-one.one
    c.requires.parent c.requires.coord (sym (ap (λ p. p.branchless) c.props.ensures) ∙ c.if-props.true) c.in_ok-append.ensures
    c.in_ok-one.ensures

pub returns : goal.returns
returns g c =
    appends_row_below g.L.LevelKind.meaning g.met.L.LevelKind.laws (g.L.LevelKind.meaning.kind c.args.level.now) c.args.at.level
    c.args.at.base c.args.free c.requires.cursor c.args.parent c.args.coord c.in_ok-append.append c.in_ok-given.given c.append.new.self
    c.requires.parent c.requires.coord (sym (ap (λ p. p.branchless) c.props.ensures) ∙ c.if-props.false)
    c.in_ok-append.ensures c.in_ok-given.ensures
    (c.in_ok-append-2.ensures.ok ∙ ap (λ k. k ++ c.in_ok-one.one) c.in_ok-code.ensures
    ∙ ap (λ k. turn_code c.args.at.base c.args.parent c.in_ok-given.given ++ k) c.in_ok-one.ensures)
