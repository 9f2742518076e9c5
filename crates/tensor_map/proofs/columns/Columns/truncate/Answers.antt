use Rattle.std.proofs.Common.{◌∙◌, ap, take, Vec, Global, ℕ}
use Rattle.tensor_map.specs.Columns.{rows_of}
use Rattle.tensor_map.specs.Entries.{Entries}
use Rattle.tensor_map.proofs.ColumnRows.{rows_taken}
use Rattle.tensor_map.proofs.columns.Columns.truncate.Goals as goal

pub returns-clause-list : goal.returns-clause-list
returns-clause-list c =
    ap (rows_of (λ (column : Vec ℕ Global). column.items) (take c.self.inside.order c.self.inside.modes)) c.truncate.ensures.items
    ∙ rows_taken _ _ c.args.count c.self.inside.values.items
    ∙ ap (λ (row : Entries). take c.args.count row.list) c.self.view_is
