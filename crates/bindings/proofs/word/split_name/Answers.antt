use Rattle.std.proofs.Common.{◌≡◌, sym, ◌∙◌, ap, false}
use Rattle.bindings.specs.Words.{is_name}
use Rattle.bindings.proofs.Words.{unsplit, no_name_before}
use Rattle.bindings.proofs.word.split_name.Goals as goal

pub returns-in_default : goal.returns-in_default
returns-in_default c = unsplit c.args.word.now c.args.mark c.in_default.ensures

pub returns-else-is_name : goal.returns-else-is_name
returns-else-is_name c =
    let unnamed : is_name c.in-Some.name.now ≡ false = ap is_name (sym c.as_bytes.ensures.value) ∙ sym c.is_name.ensures
    ∙ c.if-is_name.false in
    no_name_before c.args.word.now c.in-Some.name.now c.args.mark c.in-Some.rest.now c.in-Some.ensures.0 c.in-Some.ensures.1
    c.requires.apart unnamed
