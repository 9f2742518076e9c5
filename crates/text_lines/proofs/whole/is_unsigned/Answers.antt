use Rattle.std.specs.Prelude.{◌≡◌, ◌&&◌, true}
use Rattle.std.proofs.Common.{◌∙◌, sym, ap}
use Rattle.text_lines.proofs.DecimalLaws.{unsigned_is}
use Rattle.text_lines.specs.Numbers.{is_mantissa}
use Rattle.text_lines.proofs.whole.is_unsigned.Goals as goal

pub returns-then-is_mantissa_text : goal.returns-then-is_mantissa_text
returns-then-is_mantissa_text c =
    let before = c.cut_at_mark.result.0.now in
    let mantissa : is_mantissa before ≡ true = sym c.is_mantissa_text.ensures ∙ c.if-is_mantissa_text.true in
    sym (ap (λ b. b && c.is_power.result) mantissa) ∙ ap (λ power. is_mantissa before && power) c.is_power.ensures
    ∙ unsigned_is c.args.text.now before c.cut_at_mark.result.1.now c.cut_at_mark.ensures.before c.cut_at_mark.ensures.rest
