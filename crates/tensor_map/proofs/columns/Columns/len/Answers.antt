use Rattle.std.proofs.Common.{◌∙◌, sym, ap, length}
use Rattle.tensor_map.specs.Entries.{Entries}
use Rattle.tensor_map.proofs.ColumnRows.{length_rows}
use Rattle.tensor_map.proofs.columns.Columns.len.Goals as goal

pub returns : goal.returns
returns c = c.len.ensures ∙ c.self.inside.values.ok.0 ∙ sym (length_rows _ _ _ _) ∙ ap (λ (row : Entries). length row.list) c.self.view_is
