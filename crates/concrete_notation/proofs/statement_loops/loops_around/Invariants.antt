use Rattle.std.specs.Prelude.{◌≡◌, take}
use Rattle.concrete_notation.specs.Nests.{loops_of}
use Rattle.concrete_notation.proofs.statement_loops.loops_around.Given as goal

-- the loops among the variables so far
abbrev pub invariant-loop-var : goal.invariant-loop-var
invariant-loop-var l = l.loops ≡ loops_of l.statement (take l.var-index l.order) l.own
