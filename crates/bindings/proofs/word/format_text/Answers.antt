use Rattle.bindings.proofs.Words.{cut_at_colon, all_letters}
use Rattle.bindings.proofs.word.format_text.Goals as goal

pub returns-in-Some : goal.returns-in-Some
returns-in-Some c = cut_at_colon c.in-Some.letters.now c.in-Some.order.now c.args.text.now c.in-Some.ensures.0 c.in-Some.ensures.1

pub returns-in-None : goal.returns-in-None
returns-in-None c = all_letters c.args.text.now c.in-None.ensures
