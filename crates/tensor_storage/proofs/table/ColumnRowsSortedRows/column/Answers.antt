use Rattle.std.specs.Prelude.{length, slice_index}
use Rattle.std.proofs.Common.{◌∙◌, ap}
use Rattle.tensor_storage.proofs.Tables.{column_long, column_at}
use Rattle.tensor_storage.proofs.table.ColumnRowsSortedRows.column.Goals as goal

pub returns : goal.returns
returns g c =
    let rows = c.args.self.now in
    let table = g.T.RowTable.table rows.table.now in
    record {
      long = ap length rows.lent ∙ column_long table rows.level;
      at = λ i h. ap (λ xs. slice_index xs i) rows.lent ∙ column_at table rows.level i h;
    }
