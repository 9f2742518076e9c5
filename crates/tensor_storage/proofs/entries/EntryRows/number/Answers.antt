use Rattle.std.specs.Prelude.{length}
use Rattle.tensor_storage.proofs.EntryOrderLaws.{own_number}
use Rattle.tensor_storage.proofs.entries.EntryRows.number.Goals as goal

pub returns-in-Own : goal.returns-in-Own
returns-in-Own c = own_number (length c.args.self.now.entries.now.list) c.args.self.now.order.now c.args.row c.in-Own.is c.requires
