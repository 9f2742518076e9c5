use Rattle.std.proofs.Common.{arith}
use Rattle.text_lines.proofs.PlainLaws.{leads_set}
use Rattle.text_lines.proofs.plain.read_numbers.Goals as goal

pub loop-number-preserved : goal.loop-number-preserved
loop-number-preserved c =
    leads_set c.loop-number.number-index c.args.text.now c.loop-number.numbers c.loop-number.rest.now c.in_ok-first.behind.now
    c.in_ok-first.first
    (omega (arith, c.loop-number-test.true, c.loop-number.auto.numbers)) c.loop-number.invariant c.in_ok-first.ensures
