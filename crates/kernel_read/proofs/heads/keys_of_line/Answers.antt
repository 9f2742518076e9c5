use Rattle.std.specs.Prelude.{◌<◌, ◌^◌}
use Rattle.std.proofs.Common.{arith}
use Rattle.kernel_read.proofs.HeadLaws.{keys_none, keys_other, keys_part, keys_yes}
use Rattle.kernel_read.proofs.heads.keys_of_line.Goals as goal

pub returns-in_default : goal.returns-in_default
returns-in_default c =
    let word : c.args.workspace < 2 ^ 64 = omega arith in keys_none c.args.line.now c.args.workspace c.in_default.ensures word

pub returns-then-next-line : goal.returns-then-next-line
returns-then-next-line c =
    keys_yes c.args.line.now c.args.workspace c.in-Some.next c.in-Some.numbers c.in-Some.ensures c.if-number-workspace.true
    c.if-next-line.true

pub returns-else-next-line : goal.returns-else-next-line
returns-else-next-line c =
    let word : c.args.workspace < 2 ^ 64 = omega arith in
    keys_part c.args.line.now c.args.workspace c.in-Some.next c.in-Some.numbers c.in-Some.ensures word c.if-next-line.false

pub returns-else-number-workspace : goal.returns-else-number-workspace
returns-else-number-workspace c =
    let word : c.args.workspace < 2 ^ 64 = omega arith in
    keys_other c.args.line.now c.args.workspace c.in-Some.next c.in-Some.numbers c.in-Some.ensures word c.if-number-workspace.false
