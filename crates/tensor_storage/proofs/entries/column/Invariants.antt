use Rattle.std.specs.Prelude.{◌≡◌, take}
use Rattle.tensor_storage.specs.Columns.{column_of}
use Rattle.tensor_storage.proofs.entries.column.Given as goal

abbrev pub invariant-loop-number : goal.invariant-loop-number
invariant-loop-number l = l.column ≡ column_of l.format l.entries.list (take l.number-index l.numbers) l.level
