use Rattle.std.proofs.Common.{◌∙◌, sym, ap}
use Rattle.tensor_map.specs.Entries.{Entries, values_in}
use Rattle.tensor_map.proofs.ColumnRows.{values_are}
use Rattle.tensor_map.proofs.columns.Columns.values.Goals as goal

pub returns : goal.returns
returns c = c.as_slice.ensures.value ∙ sym (values_are _ _ _ c.self.inside.values.items)
    ∙ ap (λ (row : Entries). values_in row.list) c.self.view_is
