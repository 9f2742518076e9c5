use Rattle.std.proofs.Common.{sym}
use Rattle.statement_facts.proofs.alone.with_access.Goals as goal

pub returns-in-Some : goal.returns-in-Some
returns-in-Some c = λ accesses h.
    c.with_variable.ensures c.args.tensor c.args.mode c.args.access.now accesses c.if-access-tensor.false (sym c.in-Some.ensures.value) h
