use Rattle.std.proofs.Common.{sym, subst}
use Rattle.level_cursors.specs.Located.{Locates}
use Rattle.level_cursors.proofs.LocateLaws.{located}
use Rattle.level_cursors.proofs.located.locate_at.Goals as goal

pub returns : goal.returns
returns g c =
    let means = g.L.LevelKind.meaning in
    let letter = means.kind c.args.kind.now in
    subst (Locates means letter c.args.tensor c.args.level c.args.base c.args.flag c.args.args.now) (sym c.in_ok-code.ensures)
    (located means g.met.L.LevelKind.laws letter c.args.tensor c.args.level c.args.base c.args.flag c.args.args.now
    c.in_ok-locate.locate c.requires.locates c.in_ok-locate.ensures)
