use Rattle.std.specs.Prelude.{◌≡◌, length, IfSome}
use Rattle.std.proofs.Common.{sym, ap, subst}
use Rattle.tensor_storage.specs.Arranged.{table_of}
use Rattle.tensor_storage.specs.EntryOrders.{numbers_of}
use Rattle.tensor_storage.specs.Tables.{level_column}
use Rattle.tensor_storage.proofs.entries.EntryRowsRowTable.column.Goals as goal

pub returns-in-Own : goal.returns-in-Own
returns-in-Own c =
    let rows = c.args.self.now in
    let count = length rows.entries.now.list in
    subst (λ numbers. IfSome c.lent_column.result (λ column. column.now
    ≡ level_column (table_of rows.format.now rows.entries.now.list numbers) c.args.level))
    (sym (ap (numbers_of count) c.in-Own.is)) c.lent_column.ensures
