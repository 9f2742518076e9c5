use Rattle.kernel_flow.proofs.TestLemmas.{word_below}
use Rattle.kernel_flow.proofs.learning.add_word_of.Goals as goal

pub returns-in-Var : goal.returns-in-Var
returns-in-Var c =
    word_below c.add_word.result c.args.facts.now c.add_word.new.facts c.in-Var.x c.args.e.now c.in-Var.is c.add_word.ensures
