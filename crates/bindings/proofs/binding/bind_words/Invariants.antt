use Rattle.std.proofs.Common.{take, map}
use Rattle.bindings.specs.Bindings.{AreSound}
use Rattle.bindings.specs.Tables.{IsBound}
use Rattle.bindings.proofs.binding.bind_words.Given as goal

abbrev pub invariant-loop-at : goal.invariant-loop-at
invariant-loop-at l = IsBound l.statement (map (λ word. word.now) (take l.at l.words)) l.bound
    × AreSound l.statement (map (λ word. word.now) l.words) l.at
