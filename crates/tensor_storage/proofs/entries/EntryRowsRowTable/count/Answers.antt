use Rattle.std.specs.Prelude.{length}
use Rattle.std.proofs.Common.{◌∙◌}
use Rattle.tensor_storage.proofs.EntryOrderLaws.{own_count}
use Rattle.tensor_storage.proofs.entries.EntryRowsRowTable.count.Goals as goal

pub returns-in-Own : goal.returns-in-Own
returns-in-Own c =
    c.len.ensures.value ∙ own_count (length c.args.self.now.entries.now.list) c.args.self.now.order.now c.in-Own.is
