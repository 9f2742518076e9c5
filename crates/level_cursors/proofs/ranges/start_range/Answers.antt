use Rattle.std.proofs.Common.{sym, subst}
use Rattle.level_cursors.specs.Ranges.{StartsRange}
use Rattle.level_cursors.proofs.RangeLaws.{started}
use Rattle.level_cursors.proofs.ranges.start_range.Goals as goal

pub returns : goal.returns
returns c = subst (StartsRange c.args.front c.args.flag) (sym c.in_ok-code.ensures) (started c.args.front c.args.flag)
