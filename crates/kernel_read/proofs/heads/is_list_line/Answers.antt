use Rattle.std.specs.Prelude.{◌<◌, ◌^◌}
use Rattle.std.proofs.Common.{arith}
use Rattle.kernel_read.proofs.HeadLaws.{list_none, list_other, list_part, list_yes}
use Rattle.kernel_read.proofs.heads.is_list_line.Goals as goal

pub returns-in_default-clause-no : goal.returns-in_default-clause-no
returns-in_default-clause-no c = λ isnt.
    let word : c.args.list < 2 ^ 64 = omega arith in list_none c.args.line.now c.args.list c.in_default.ensures word

pub returns-then-number-list-clause-yes : goal.returns-then-number-list-clause-yes
returns-then-number-list-clause-yes c =
    list_yes c.args.line.now c.args.list c.in-Some.number c.in-Some.next c.in-Some.ensures c.if-number-list.true

pub returns-then-number-list-clause-no : goal.returns-then-number-list-clause-no
returns-then-number-list-clause-no c =
    list_part c.args.line.now c.args.list c.in-Some.number c.in-Some.next c.in-Some.ensures c.if-number-list.true

pub returns-else-number-list-clause-no : goal.returns-else-number-list-clause-no
returns-else-number-list-clause-no c = λ isnt.
    let word : c.args.list < 2 ^ 64 = omega arith in
    list_other c.args.line.now c.args.list c.in-Some.number c.in-Some.next c.in-Some.ensures word c.if-number-list.false
