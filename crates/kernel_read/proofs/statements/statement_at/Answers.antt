use Rattle.kernel_read.proofs.StatementForms.{ok_statement}
use Rattle.kernel_read.proofs.StatementForms.{found_assigned, found_called}
use Rattle.kernel_read.proofs.statements.statement_at.Goals as goal

pub returns-in-Some : goal.returns-in-Some
returns-in-Some c =
    found_assigned c.args.line.now c.args.at c.args.combines c.in-Some.found.0 c.in-Some.found.1 (rw c.in-Some.is at c.in_ok-found.ensures)

pub returns-in-Some-2 : goal.returns-in-Some-2
returns-in-Some-2 c =
    found_called c.args.line.now c.args.at c.args.combines c.in-Some-2.found.0 c.in-Some-2.found.1
    (rw c.in-Some-2.is at c.in_ok-found-2.ensures)

pub returns : goal.returns
returns c =
    ok_statement c.args.line.now c.args.at c.args.combines c.stored_at.result c.stored_at.ensures
    (rw c.in_default.is at c.in_ok-found.ensures) (rw c.in_default-2.is at c.in_ok-found-2.ensures)
