-- Arrays that are there stay there: no code takes one away, whatever it does to its words. So a scratch list that a kernel has is there
-- wherever the kernel's run comes to.
use Rattle.kernel_code.specs.declared.syntax.Arr.{Arr}
use Rattle.kernel_code.specs.Meaning.{State, Outcome, Ended, Stuck, Over, More}
use Rattle.result_targets.specs.Scratch.{IsThere}

-- each array that is there in the first state is there in the second
abbrev pub StillThere : State → State → Type 0
StillThere s t = (a : Arr) → IsThere (s.arrays a) → IsThere (t.arrays a)

-- so it is of the state that a run ends in
abbrev pub EndsThere : State → Outcome → Type 0
EndsThere s (Ended t) = StillThere s t
EndsThere s (Stuck t statement) = Unit {0}
EndsThere s (Over t a count) = Unit {0}
EndsThere s More = Unit {0}
