use Rattle.std.specs.Prelude.{◌≡◌, ◌∷◌, ◌++◌, drop, length}
use Rattle.mode_planner.specs.Plans.{repacks_of}
use Rattle.mode_planner.proofs.plans.repacks.Given as goal

-- those so far, and those of the accesses that are left, are those of the statement
abbrev pub invariant-loop-access : goal.invariant-loop-access
invariant-loop-access l =
    l.repacks ++ repacks_of l.formats l.count (drop l.access-index l.statement.accesses)
    ≡ repacks_of l.formats (length l.statement.vars) (l.statement.left ∷ l.statement.accesses)
