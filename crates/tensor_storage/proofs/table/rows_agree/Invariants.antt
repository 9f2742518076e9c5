use Rattle.std.specs.Prelude.{◌≡◌}
use Rattle.tensor_storage.specs.Tables.{agree}
use Rattle.tensor_storage.proofs.table.rows_agree.Given as goal

abbrev pub invariant-loop-level : goal.invariant-loop-level
invariant-loop-level g l = agree (g.T.RowTable.table l.table).coords l.fn.levels l.fn.row l.fn.other
    ≡ agree (g.T.RowTable.table l.table).coords l.level l.fn.row l.fn.other
