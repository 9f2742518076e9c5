use Rattle.std.proofs.Common.{ℤ, ◌+◌, ◌-◌, length, sym, subst, rules, w64}
use Rattle.std.proofs.lemmas.Int.{to_z-of_z}
use mir.Val.{SFits}
use Rattle.text_lines.specs.Plain.{IsPlainLine}
use Rattle.text_lines.proofs.PlainLaws.{plain_line}
use Rattle.text_lines.proofs.plain.read_plain_line.Goals as goal

pub returns : goal.returns
returns c =
    let fits : SFits w64 c.in_ok-value.value = search rules in
    subst
    (λ (z : ℤ). IsPlainLine c.args.text.now c.read_numbers.new.numbers
    (length c.args.text.now - length c.in_ok-value.behind.now + c.in_ok-count.count) z)
    (sym (to_z-of_z w64 c.in_ok-value.value fits))
    (plain_line c.args.text.now c.read_numbers.new.numbers c.in_ok-rest.rest.now c.in_ok-value.behind.now c.in_ok-value.value
    c.in_ok-count.count c.in_ok-rest.ensures c.in_ok-value.ensures c.in_ok-count.ensures)
