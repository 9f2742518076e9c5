use Rattle.std.specs.Prelude.{All}
use Rattle.std.proofs.Common.{subst}
use Rattle.tensor_map.specs.Entries.{IsEntry}
use Rattle.tensor_storage.proofs.Arranging.{own_order}
use Rattle.tensor_storage.proofs.entries.stand_in_order.Goals as goal

pub returns-then-are_modes_in_order : goal.returns-then-are_modes_in_order
returns-then-are_modes_in_order c = λ same. own_order c.args.format.now c.args.entries.now.list
    (subst (λ n. All (IsEntry n) c.args.entries.now.list) c.requires.order c.len.ensures.entries.each) c.requires.increasing
    (c.are_modes_in_order.ensures c.if-are_modes_in_order.true)
