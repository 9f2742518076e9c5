use Rattle.std.proofs.Common.{◌≡◌, ◌++◌}
use Rattle.std.specs.Vec.Iter.{into_iter_items}
use Rattle.taco_top.specs.Program.{words_in}
use Rattle.taco_top.proofs.program.words_of.Given as goal

abbrev pub invariant-loop-word : goal.invariant-loop-word
invariant-loop-word l = words_in l.fn.args ≡ l.words.items ++ into_iter_items l.word-iterator
