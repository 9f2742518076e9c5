use Rattle.std.proofs.Common.{◌≡◌, take}
use Rattle.tensor_map.specs.Columns.{row_of}
use Rattle.tensor_map.proofs.columns.Columns.coords.Given as goal

abbrev pub invariant-loop-column : goal.invariant-loop-column
invariant-loop-column l = l.coords ≡ row_of (λ column. column.items) (take l.column-index l.column-items) l.i
