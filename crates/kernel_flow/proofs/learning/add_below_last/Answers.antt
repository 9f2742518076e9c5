use Rattle.kernel_flow.proofs.TestLemmas.{below_then}
use Rattle.kernel_flow.proofs.learning.add_below_last.Goals as goal

pub returns : goal.returns
returns c =
    below_then c.add_last_apart.result c.args.facts.now c.add_word_of.new.facts c.add_last_apart.new.facts c.args.e.now
    c.in_ok-add_word_of.ensures c.add_last_apart.ensures
