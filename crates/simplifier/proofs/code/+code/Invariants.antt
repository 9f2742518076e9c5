use Rattle.std.specs.Prelude.{◌++◌, take}
use Rattle.simplifier.specs.Folded.{SimpleCode}
use Rattle.simplifier.specs.Same.{SameRuns}
use Rattle.simplifier.proofs.code.+code.Given as goal

abbrev pub invariant-add_code-loop-s : goal.invariant-add_code-loop-s
invariant-add_code-loop-s g l = SameRuns g.S.Semiring.arithmetic l.out (l.fn.out ++ take l.s-index l.code)
    × (SimpleCode g.S.Semiring.arithmetic l.fn.out → SimpleCode g.S.Semiring.arithmetic l.out)
