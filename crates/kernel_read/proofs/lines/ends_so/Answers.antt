use Rattle.kernel_read.proofs.LineForms.{ends_no, ends_none, ends_yes}
use Rattle.kernel_read.proofs.lines.ends_so.Goals as goal

pub returns-in-Some-clause-yes : goal.returns-in-Some-clause-yes
returns-in-Some-clause-yes c = ends_yes c.args.line.now c.args.at c.args.bytes.now c.in-Some.next c.in-Some.ensures

pub returns-in-Some-clause-no : goal.returns-in-Some-clause-no
returns-in-Some-clause-no c = ends_no c.args.line.now c.args.at c.args.bytes.now c.in-Some.next c.requires c.in-Some.ensures

pub returns-in-None-clause-no : goal.returns-in-None-clause-no
returns-in-None-clause-no c = λ isnt. ends_none c.args.line.now c.args.at c.args.bytes.now c.in-None.ensures
