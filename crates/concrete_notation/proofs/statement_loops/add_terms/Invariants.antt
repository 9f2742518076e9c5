use Rattle.std.specs.Prelude.{◌++◌, List, map, take}
use Rattle.concrete_notation.specs.Nests.{Nest}
use Rattle.concrete_notation.specs.Nesting.{nest_in, IsMade}
use Rattle.concrete_notation.proofs.statement_loops.add_terms.Given as goal

-- the terms so far are put in
abbrev pub invariant-loop-term : goal.invariant-loop-term
invariant-loop-term l =
    (done : List Nest) → IsMade done l.fn.before → IsMade (done ++ map (nest_in l.loops) (take l.term-index l.terms)) l.made
