use Rattle.std.proofs.Common.{sym, subst}
use Rattle.level_cursors.specs.Ranges.{StepsRange}
use Rattle.level_cursors.proofs.RangeLaws.{stepped}
use Rattle.level_cursors.proofs.ranges.step_range.Goals as goal

pub returns : goal.returns
returns c = subst (StepsRange c.args.front c.args.x) (sym c.in_ok-code.ensures) (stepped c.args.front c.args.x c.requires)
