use Rattle.std.specs.Prelude.{◌<◌, length, slice_index}
use Rattle.std.proofs.Common.{◌∙◌, sym, ap, subst, rules}
use Rattle.tensor_storage.specs.Arranged.{level_coords}
use Rattle.tensor_storage.proofs.EntryOrderLaws.{own_number, column_long, column_at, no_column}
use Rattle.tensor_storage.proofs.entries.EntryRowsRowTable.coord.Goals as goal

pub bounds-as_slice-row : goal.bounds-as_slice-row
bounds-as_slice-row c =
    let rows = c.args.self.now in
    let within : c.args.row < length c.in-Sorted.numbers.items = rw c.in-Sorted.is at c.requires in
    subst (λ xs. c.args.row < length xs) (sym c.as_slice.ensures)
    (column_long rows.format.now rows.entries.now.list c.in-Sorted.numbers.items c.in-Sorted.columns
    (rows.gathered c.in-Sorted.numbers c.in-Sorted.columns c.in-Sorted.is) c.args.level c.args.row within c.in-Some.column.now
    (sym c.in-Some.ensures.value))

pub offset_bounds-as_slice-row : goal.offset_bounds-as_slice-row
offset_bounds-as_slice-row c =
    let rows = c.args.self.now in
    let within : c.args.row < length c.in-Sorted.numbers.items = rw c.in-Sorted.is at c.requires in
    let long : c.args.row < length c.as_slice.result.now = subst (λ xs. c.args.row < length xs) (sym c.as_slice.ensures)
    (column_long rows.format.now rows.entries.now.list c.in-Sorted.numbers.items c.in-Sorted.columns
    (rows.gathered c.in-Sorted.numbers c.in-Sorted.columns c.in-Sorted.is) c.args.level c.args.row within c.in-Some.column.now
    (sym c.in-Some.ensures.value)) in
    search rules

pub returns-in-Own : goal.returns-in-Own
returns-in-Own c =
    let rows = c.args.self.now in
    c.coordinate.ensures ∙ ap (λ number. slice_index (level_coords rows.format.now rows.entries.now.list number) c.args.level)
    (own_number (length rows.entries.now.list) rows.order.now c.args.row c.in-Own.is c.requires)

pub returns-in-Some : goal.returns-in-Some
returns-in-Some c =
    let rows = c.args.self.now in
    let within : c.args.row < length c.in-Sorted.numbers.items = rw c.in-Sorted.is at c.requires in
    rw c.in-Sorted.is (ap (λ xs. slice_index xs c.args.row) c.as_slice.ensures
    ∙ column_at rows.format.now rows.entries.now.list c.in-Sorted.numbers.items c.in-Sorted.columns
    (rows.gathered c.in-Sorted.numbers c.in-Sorted.columns c.in-Sorted.is) c.args.level c.args.row within c.in-Some.column.now
    (sym c.in-Some.ensures.value))

pub returns-in-None : goal.returns-in-None
returns-in-None c =
    let rows = c.args.self.now in
    let within : c.args.row < length c.in-Sorted.numbers.items = rw c.in-Sorted.is at c.requires in
    rw c.in-Sorted.is (no_column rows.format.now rows.entries.now.list c.in-Sorted.numbers.items c.in-Sorted.columns
    (rows.gathered c.in-Sorted.numbers c.in-Sorted.columns c.in-Sorted.is) c.args.level c.args.row within
    (sym c.in-None.ensures.value))
