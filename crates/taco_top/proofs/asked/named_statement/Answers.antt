use Rattle.std.proofs.Common.{sym, subst}
use Rattle.taco_top.specs.Asked.{IsStatementRefused}
use Rattle.taco_top.proofs.NamedTexts.{access_refused, sum_refused}
use Rattle.taco_top.proofs.asked.named_statement.Goals as goal

-- the fault of an access
pub returns-in-Err-clause-refused : goal.returns-in-Err-clause-refused
returns-in-Err-clause-refused c =
    let text = c.args.text.now in
    let written = c.in_ok-written in
    subst (IsStatementRefused text) (sym c.named.ensures)
    (access_refused text written.written c.in-Err.fault written.ensures.statement.0 c.in-Err.ensures)

-- the fault of a nested sum
pub returns-in-Err-check_sums-clause-refused : goal.returns-in-Err-check_sums-clause-refused
returns-in-Err-check_sums-clause-refused c =
    let text = c.args.text.now in
    let written = c.in_ok-written in
    subst (IsStatementRefused text) (sym c.named-in-Err-check_sums.ensures)
    (sum_refused text written.written c.in_ok-statement.statement c.in-Err-check_sums.fault written.ensures.statement.0
    c.in_default.ensures c.in_ok-statement.ensures.whole c.in-Err-check_sums.ensures.first)

-- a statement whose names are in order
pub returns-in-Ok-clause-statement : goal.returns-in-Ok-clause-statement
returns-in-Ok-clause-statement c = (
  record {
    written = c.in_ok-written.written;
    notation = c.in_ok-written.ensures.statement.0;
    names = c.in_default.ensures;
    stands_for = c.in_ok-statement.ensures.whole;
    fine = c.in-Ok.ensures.first;
  },
  c.in_ok-statement.ensures.numbered,
)
