use Rattle.std.specs.Prelude.{[], ◌∷◌, ◌++◌, Some, map, take}
use Rattle.std.proofs.Common.{subst}
use Rattle.concrete_notation.specs.Nesting.{nest_in, IsMade}
use Rattle.concrete_notation.proofs.Made.{next_term}
use Rattle.concrete_notation.proofs.statement_loops.add_terms.Goals as goal

pub loop-term-preserved : goal.loop-term-preserved
loop-term-preserved c done made =
    next_term c.args.loops.now c.args.terms.now c.loop-term.term-index c.term-item.result done
    (Some c.in_ok-all.all) c.loop-term-test.true c.term-item.is
    (subst (λ u. IsMade ((done ++ map (nest_in c.args.loops.now)
    (take c.loop-term.term-index c.args.terms.now)) ++ nest_in c.args.loops.now u ∷ []) (Some c.in_ok-all.all))
    c.in_ok-term.ensures
    (c.in_ok-all.ensures (done ++ map (nest_in c.args.loops.now) (take c.loop-term.term-index c.args.terms.now))
    (c.loop-term.invariant done made)))
