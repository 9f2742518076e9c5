use Rattle.level_core.specs.Entries.{span}
use Rattle.level_core.specs.Logs.{Rises, slice}
use Rattle.level_checks.specs.Orders.{least_behind}
use Rattle.level_checks.proofs.Loops.{Same}
use Rattle.level_checks.proofs.singleton.may_ask_singleton.Given as goal

-- the coordinates from here on rise behind the last one exactly where all do
abbrev pub invariant-loop-at : goal.invariant-loop-at
invariant-loop-at l = Same (Rises l.unique (least_behind l.unique l.last) (slice l.level.coords (span l.at l.fn.span.hi)))
    (Rises l.unique 0 (slice l.level.coords l.fn.span))
