use Rattle.concrete_notation.proofs.Made.{made_first, made_more}
use Rattle.concrete_notation.proofs.statement_loops.add_term.Goals as goal

pub returns-in_ok-all-in-None : goal.returns-in_ok-all-in-None
returns-in_ok-all-in-None c done made =
    made_first c.args.loops.now c.args.term c.in_ok-all-in-None.all c.args.before done c.in-None.is c.in_ok-all-in-None.ensures made

pub returns-in_ok-all-in-Some : goal.returns-in_ok-all-in-Some
returns-in_ok-all-in-Some c done made =
    made_more c.args.loops.now c.args.term c.in_ok-all-in-Some.all c.args.before done c.in-Some.tree c.in-Some.is
    c.in_ok-all-in-Some.ensures made
