use Rattle.kernel_flow.proofs.choices.is_told.Given as goal

abbrev pub invariant-loop-fact : goal.invariant-loop-fact
invariant-loop-fact l = Unit {0}
