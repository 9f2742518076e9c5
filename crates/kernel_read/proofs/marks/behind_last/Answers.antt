use Rattle.kernel_read.proofs.Bytes.{not_last}
use Rattle.kernel_read.proofs.marks.behind_last.Goals as goal

pub returns-else-is_end : goal.returns-else-is_end
returns-else-is_end c =
    not_last c.args.line.now c.args.at c.args.bytes.now c.in_ok-next.next c.in_ok-next.ensures (c.is_end.ensures.no c.if-is_end.false)
