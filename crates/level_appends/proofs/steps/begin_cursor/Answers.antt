use Rattle.std.proofs.Common.{sym, subst}
use Rattle.level_appends.specs.Codes.{BeginsCursor}
use Rattle.level_appends.proofs.RowSteps.{begins_cursor}
use Rattle.level_appends.proofs.steps.begin_cursor.Goals as goal

pub returns : goal.returns
returns c = subst (BeginsCursor c.args.base) (sym c.in_ok-code.ensures) (begins_cursor c.args.base)
