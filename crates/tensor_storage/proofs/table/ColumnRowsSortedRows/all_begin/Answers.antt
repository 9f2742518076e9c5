use Rattle.tensor_storage.proofs.Tables.{all_begin_apart}
use Rattle.tensor_storage.proofs.table.ColumnRowsSortedRows.all_begin.Goals as goal

pub returns : goal.returns
returns g c known = all_begin_apart (g.T.RowTable.table c.args.self.now.table.now) c.args.self.now.through (c.args.self.now.apart known)
