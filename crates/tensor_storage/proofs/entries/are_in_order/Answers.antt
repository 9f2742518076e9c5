use Rattle.std.specs.Prelude.{length}
use Rattle.std.proofs.Common.{arith}
use Rattle.tensor_storage.proofs.Arranging.{is_before, sorted_range}
use Rattle.tensor_storage.proofs.entries.are_in_order.Goals as goal

pub returns : goal.returns
returns c = λ same. sorted_range (is_before c.args.format.now c.args.entries.now.list) (length c.args.entries.now.list)
    (λ k within. c.loop-next.invariant k (let end = c.loop-next-test.false in let long = c.len-next-end.ensures.value in omega arith))
