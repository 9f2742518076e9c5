use Rattle.std.proofs.Common.{sym, ◌∙◌, ap, Some, refl}
use Rattle.bindings.specs.Words.{SaysFormat}
use Rattle.bindings.proofs.Words.{said_at, says_nothing}
use Rattle.bindings.proofs.word.read_word.Goals as goal

pub returns-in-Some-clause-said : goal.returns-in-Some-clause-said
returns-in-Some-clause-said c =
    ap (λ t. Some (SaysFormat c.in-Some.name.now t)) c.format_text.ensures
    ∙ sym (said_at c.in-Some.name.now 58 c.in-Some.text.now c.args.word.now c.in-Some.ensures.0 refl c.in-Some.ensures.1)

pub returns-in-Some-split_name-clause-said : goal.returns-in-Some-split_name-clause-said
returns-in-Some-split_name-clause-said c = c.file_word.ensures.said
    ∙ sym (said_at c.in-Some-split_name.name.now 61 c.in-Some-split_name.path.now
    c.args.word.now c.in-Some-split_name.ensures.0 refl c.in-Some-split_name.ensures.1)

pub returns-in-Some-split_name-2-clause-said : goal.returns-in-Some-split_name-2-clause-said
returns-in-Some-split_name-2-clause-said c = c.range_word.ensures.said ∙ sym (said_at c.in-Some-split_name-2.name.now 35
    c.in-Some-split_name-2.digits.now c.args.word.now c.in-Some-split_name-2.ensures.0 refl c.in-Some-split_name-2.ensures.1)

pub returns-clause-said : goal.returns-clause-said
returns-clause-said c =
    sym (says_nothing c.args.word.now c.in_default.ensures c.in_default-split_name.ensures c.in_default-split_name-2.ensures)
