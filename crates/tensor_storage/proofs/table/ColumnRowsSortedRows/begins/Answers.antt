use Rattle.std.specs.Prelude.{◌≡◌, ◌<◌, ◌-◌, length, slice_index}
use Rattle.std.proofs.Common.{◌∙◌, sym, ap, subst, arith, rules}
use Rattle.tensor_storage.proofs.Tables.{column_long, column_at, begins_behind, begins_apart}
use Rattle.tensor_storage.proofs.table.ColumnRowsSortedRows.begins.Goals as goal

pub bounds-self-before : goal.bounds-self-before
bounds-self-before g c =
    let rows = c.args.self.now in
    let long = column_long (g.T.RowTable.table rows.table.now) rows.level in
    let within = c.requires in
    subst (λ xs. c.args.row - 1 < length xs) (sym rows.lent) (omega (arith, long, within))

pub offset_bounds-self-before : goal.offset_bounds-self-before
offset_bounds-self-before g c =
    let rows = c.args.self.now in
    let long = column_long (g.T.RowTable.table rows.table.now) rows.level in
    let within = c.requires in
    let inside : c.args.row - 1 < length c.args.self.now.column.now =
    subst (λ xs. c.args.row - 1 < length xs) (sym rows.lent) (omega (arith, long, within)) in
    search rules

pub bounds-self-row : goal.bounds-self-row
bounds-self-row g c =
    let rows = c.args.self.now in
    let long = column_long (g.T.RowTable.table rows.table.now) rows.level in
    let within = c.requires in
    subst (λ xs. c.args.row < length xs) (sym rows.lent) (omega (arith, long, within))

pub offset_bounds-self-row : goal.offset_bounds-self-row
offset_bounds-self-row g c =
    let rows = c.args.self.now in
    let long = column_long (g.T.RowTable.table rows.table.now) rows.level in
    let within = c.requires in
    let inside : c.args.row < length c.args.self.now.column.now =
    subst (λ xs. c.args.row < length xs) (sym rows.lent) (omega (arith, long, within)) in
    search rules

pub returns-then-self-before : goal.returns-then-self-before
returns-then-self-before g c =
    let rows = c.args.self.now in
    let table = g.T.RowTable.table rows.table.now in
    let before : slice_index rows.column.now (c.args.row - 1) ≡ table.coords rows.level (c.args.row - 1) =
    ap (λ xs. slice_index xs (c.args.row - 1)) rows.lent
    ∙ column_at table rows.level (c.args.row - 1) (let within = c.requires in omega (arith, within)) in
    let here : slice_index rows.column.now c.args.row ≡ table.coords rows.level c.args.row =
    ap (λ xs. slice_index xs c.args.row) rows.lent ∙ column_at table rows.level c.args.row c.requires in
    sym (begins_apart table.coords rows.through rows.level c.args.row c.if-row-eq0.false rows.among
    (λ same. c.if-self-before.true (before ∙ same ∙ sym here)))

pub differ_elsewhere-requires-clause-level : goal.differ_elsewhere-requires-clause-level
differ_elsewhere-requires-clause-level g c = c.args.self.now.among

pub differ_elsewhere-requires-clause-same : goal.differ_elsewhere-requires-clause-same
differ_elsewhere-requires-clause-same g c =
    let rows = c.args.self.now in
    let table = g.T.RowTable.table rows.table.now in
    let before : slice_index rows.column.now (c.args.row - 1) ≡ table.coords rows.level (c.args.row - 1) =
    ap (λ xs. slice_index xs (c.args.row - 1)) rows.lent
    ∙ column_at table rows.level (c.args.row - 1) (let within = c.requires in omega (arith, within)) in
    let here : slice_index rows.column.now c.args.row ≡ table.coords rows.level c.args.row =
    ap (λ xs. slice_index xs c.args.row) rows.lent ∙ column_at table rows.level c.args.row c.requires in
    sym before ∙ c.if-self-before.false ∙ here

pub returns : goal.returns
returns g c =
    let rows = c.args.self.now in
    c.differ_elsewhere.ensures
    ∙ sym (begins_behind (g.T.RowTable.table rows.table.now).coords rows.through c.args.row c.if-row-eq0.false)
