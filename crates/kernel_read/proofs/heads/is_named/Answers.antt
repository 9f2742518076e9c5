use Rattle.kernel_read.proofs.HeadLaws.{named_last, named_yes}
use Rattle.kernel_read.proofs.heads.is_named.Goals as goal

pub returns-clause-yes : goal.returns-clause-yes
returns-clause-yes c = λ is.
    named_yes c.args.line.now c.args.name.now c.in-Some.before c.in-Some-behind.after c.in-Some.ensures c.in-Some-behind.ensures
    (c.ends_so.ensures.yes is)

pub returns-clause-no : goal.returns-clause-no
returns-clause-no c = λ is.
    named_last c.args.line.now c.args.name.now c.in-Some.before c.in-Some-behind.after c.in-Some.ensures c.in-Some-behind.ensures
    (c.ends_so.ensures.no is)
