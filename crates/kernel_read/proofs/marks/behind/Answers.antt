use Rattle.kernel_read.proofs.Bytes.{stands_here, stands_not}
use Rattle.kernel_read.proofs.marks.behind.Goals as goal

pub returns-then-starts_with : goal.returns-then-starts_with
returns-then-starts_with c =
    stands_here c.args.line.now c.args.bytes.now c.rest_at.result.now c.args.at c.starts_with.result c.rest_at.ensures c.requires
    c.starts_with.ensures.value (c.starts_with.ensures.bound c.if-starts_with.true) c.if-starts_with.true

pub returns-else-starts_with : goal.returns-else-starts_with
returns-else-starts_with c =
    stands_not c.args.line.now c.args.bytes.now c.rest_at.result.now c.args.at c.starts_with.result c.rest_at.ensures
    c.starts_with.ensures.value c.if-starts_with.false
