use Rattle.std.proofs.Common.{sym, subst}
use Rattle.touched_workspaces.specs.Drains.{EmptiesTouched}
use Rattle.touched_workspaces.proofs.DrainLaws.{empties_touched}
use Rattle.touched_workspaces.proofs.drains.empty_touched.Goals as goal

pub returns : goal.returns
returns c = subst (EmptiesTouched c.args.sink) (sym c.in_ok-code.ensures) (empties_touched c.args.sink)
