use Rattle.std.proofs.Common.{◌<◌, length, sym, ◌∙◌, arith}
use Rattle.index_notation.specs.Tokens.{goes_on}
use Rattle.notation_reader.proofs.Bytes.{passes_more}
use Rattle.notation_reader.proofs.scanner.name_length.Goals as goal

pub loop-i-preserved : goal.loop-i-preserved
loop-i-preserved c =
    let within : c.loop-i.i < length c.args.text.now = omega (arith, c.loop-i-test.true) in
    passes_more goes_on c.args.text.now c.loop-i.i within c.loop-i.invariant (sym c.goes_on_in_name.ensures
    ∙ c.if-not-goes_on_in_name.false)
