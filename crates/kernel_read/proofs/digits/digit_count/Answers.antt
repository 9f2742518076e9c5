use Rattle.std.proofs.Common.{◌<◌, length, sym, ◌∙◌, arith}
use Rattle.kernel_read.proofs.Bytes.{digits_next}
use Rattle.kernel_read.proofs.digits.digit_count.Goals as goal

pub loop-i-preserved : goal.loop-i-preserved
loop-i-preserved c =
    let within : c.loop-i.i < length c.args.text.now = omega (arith, c.loop-i-test.true) in
    digits_next c.args.text.now c.loop-i.i within c.loop-i.invariant (sym c.is_ascii_digit.ensures.value
    ∙ c.if-not-is_ascii_digit.false)
