use Rattle.std.proofs.Common.{◌∙◌, sym, ap}
use Rattle.level_appends.proofs.RowSteps.{ends_level_once, ends_level_below}
use Rattle.level_appends.proofs.steps.end_level.Goals as goal

pub returns-then-props : goal.returns-then-props
returns-then-props g c =
    ends_level_once g.L.LevelKind.meaning g.met.L.LevelKind.laws (g.L.LevelKind.meaning.kind c.args.level.now) c.args.at.level
    c.args.at.base c.args.free c.requires.cursor c.new.result
    (sym (ap (λ p. p.branchless) c.props.ensures) ∙ c.if-props.true) c.new.ensures

pub returns : goal.returns
returns g c =
    ends_level_below g.L.LevelKind.meaning g.met.L.LevelKind.laws (g.L.LevelKind.meaning.kind c.args.level.now) c.args.at.level
    c.args.at.base c.args.free c.requires.cursor c.in_ok-given.given c.in_ok-code.code
    (sym (ap (λ p. p.branchless) c.props.ensures) ∙ c.if-props.false) c.in_ok-given.ensures c.in_ok-code.ensures
