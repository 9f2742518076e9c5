use Rattle.std.specs.Prelude.{◌≡◌, length, IfSome}
use Rattle.std.proofs.Common.{◌∙◌, sym, ap, subst}
use Rattle.tensor_storage.specs.Arranged.{table_of}
use Rattle.tensor_storage.specs.EntryOrders.{numbers_of}
use Rattle.tensor_storage.specs.Tables.{row_values}
use Rattle.tensor_storage.proofs.EntryOrderLaws.{own_values}
use Rattle.tensor_storage.proofs.entries.EntryRowsRowTable.values.Goals as goal

pub returns-in-Own : goal.returns-in-Own
returns-in-Own c =
    let rows = c.args.self.now in
    let count = length rows.entries.now.list in
    subst (λ xs. IfSome c.values.result (λ values. values.now ≡ xs))
    (own_values rows.format.now rows.entries.now.list
    ∙ sym (ap (λ order. row_values (table_of rows.format.now rows.entries.now.list (numbers_of count order))) c.in-Own.is))
    c.values.ensures
