use Rattle.std.proofs.Common.{sym, subst}
use Rattle.touched_workspaces.specs.Starts.{BeginsTouched}
use Rattle.touched_workspaces.proofs.StartLaws.{begins}
use Rattle.touched_workspaces.proofs.starts.begin_touched.Goals as goal

pub returns : goal.returns
returns c = subst (BeginsTouched c.args.sink) (sym c.in_ok-code.ensures) (begins c.args.sink)
