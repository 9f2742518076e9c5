use Rattle.std.proofs.Common.{sym, subst}
use Rattle.statement_facts.specs.Alone.{StandsIn}
use Rattle.statement_facts.proofs.alone.+standing_in.Goals as goal

pub returns : goal.returns
returns t c =
    subst (λ accesses. StandsIn c.args.tensor c.args.mode accesses c.with_access.result) (sym c.in-Some.ensures.cases.0)
    (c.with_access.ensures c.in-Some.others.now c.standing_in-standing.ensures)
