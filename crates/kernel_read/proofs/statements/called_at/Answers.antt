use Rattle.kernel_read.proofs.StatementForms.{no_called}
use Rattle.kernel_read.proofs.statements.called_at.Goals as goal

pub returns-in-None : goal.returns-in-None
returns-in-None c =
    no_called c.args.line.now c.args.at
    (record {
      sort = c.in_default.ensures;
      sort_sum = c.in_default-numbered_at.ensures;
      push = rw c.in_default-2.is at c.in_ok-array.ensures;
      cut = rw c.in_default-3.is at c.in_ok-array-2.ensures;
      extend = rw c.in-None.is at c.in_ok-array-3.ensures;
    })
