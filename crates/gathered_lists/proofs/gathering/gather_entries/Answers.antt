use Rattle.std.proofs.Common.{sym, subst}
use Rattle.gathered_lists.specs.Gathered.{Gathers}
use Rattle.gathered_lists.proofs.GatherLaws.{gathers}
use Rattle.gathered_lists.proofs.gathering.gather_entries.Goals as goal

pub returns : goal.returns
returns g c =
    let at = c.args.at in
    let means = g.L.LevelKind.meaning in
    let letter = means.kind c.args.kind.now in
    subst (Gathers means letter at.tensor at.level c.args.list c.args.top c.args.flag c.args.parent.now) (sym c.in_ok-code.ensures)
    (gathers means g.met.L.LevelKind.laws letter at.tensor at.level c.args.list c.args.top c.requires.gathered c.args.flag
    c.args.parent.now c.in_ok-segment.segment c.in_ok-coord.coord c.in_ok-segment.ensures c.in_ok-coord.ensures)
