use Rattle.std.proofs.Common.{◌<◌, length, sym, ◌∙◌, arith}
use Rattle.std.specs.Char.{is_ascii_digit}
use Rattle.notation_reader.proofs.Bytes.{passes_more}
use Rattle.notation_reader.proofs.scanner.number_length.Goals as goal

pub loop-i-preserved : goal.loop-i-preserved
loop-i-preserved c =
    let within : c.loop-i.i < length c.args.text.now = omega (arith, c.loop-i-test.true) in
    passes_more is_ascii_digit c.args.text.now c.loop-i.i within c.loop-i.invariant (sym c.is_ascii_digit.ensures.value
    ∙ c.if-not-is_ascii_digit.false)
