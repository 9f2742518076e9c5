use Rattle.std.specs.Prelude.{◌≡◌, filter_map}
use Rattle.index_notation.specs.Statement.{numbers_from}
use Rattle.mode_planner.specs.Plans.{mode_of}
use Rattle.mode_planner.proofs.plans.modes_in_order.Given as goal

abbrev pub invariant-loop-var : goal.invariant-loop-var
invariant-loop-var l = l.modes ≡ filter_map (mode_of l.vars) (numbers_from 0 l.var)
