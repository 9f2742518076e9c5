use Rattle.std.specs.Prelude.{◌≡◌, suc, ◌-◌, length, take, drop}
use Rattle.tensor_storage.specs.Levels.{meaning}
use Rattle.level_checks.proofs.Loops.{Same}
use Rattle.storage_builder.specs.Cleared.{IsCleared}
use Rattle.storage_builder.proofs.Clearing.{Opened, Through}
use Rattle.storage_builder.proofs.paths.+clear_paths.Given as goal

abbrev pub decreases-clear_paths : goal.decreases-clear_paths
decreases-clear_paths l = length l.levels.now - l.depth

-- below the entries so far the values are cleared, and the levels can be asked below all entries where they can below the others
abbrev pub invariant-loop-entry : goal.invariant-loop-entry
invariant-loop-entry l =
    Same (Opened meaning (drop (suc l.depth) l.levels) (length l.fn.values) (drop l.entry-index l.found))
    (Opened meaning (drop (suc l.depth) l.levels) (length l.fn.values) l.found)
    × (IsCleared (Through meaning (drop (suc l.depth) l.levels) (take l.entry-index l.found)) l.nothing l.fn.values l.values
    × (length l.values ≡ length l.fn.values))
