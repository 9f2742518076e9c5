use Rattle.std.specs.Prelude.{◌<◌, length, slice_index}
use Rattle.std.proofs.Common.{◌∙◌, sym, ap, subst, arith, rules}
use Rattle.tensor_storage.proofs.Tables.{column_long, column_at}
use Rattle.tensor_storage.proofs.table.ColumnRowsSortedRows.coord.Goals as goal

pub bounds-self-row : goal.bounds-self-row
bounds-self-row g c =
    let rows = c.args.self.now in
    let long = column_long (g.T.RowTable.table rows.table.now) rows.level in
    let within = c.requires in
    subst (λ xs. c.args.row < length xs) (sym rows.lent) (omega (arith, long, within))

pub offset_bounds-self-row : goal.offset_bounds-self-row
offset_bounds-self-row g c =
    let rows = c.args.self.now in
    let long = column_long (g.T.RowTable.table rows.table.now) rows.level in
    let within = c.requires in
    let inside : c.args.row < length c.args.self.now.column.now =
    subst (λ xs. c.args.row < length xs) (sym rows.lent) (omega (arith, long, within)) in
    search rules

pub returns : goal.returns
returns g c =
    let rows = c.args.self.now in
    ap (λ xs. slice_index xs c.args.row) rows.lent ∙ column_at (g.T.RowTable.table rows.table.now) rows.level c.args.row c.requires
