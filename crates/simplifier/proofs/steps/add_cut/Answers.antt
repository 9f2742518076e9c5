use Rattle.kernel_code.specs.declared.syntax.KStmt.{Cut}
use Rattle.simplifier.proofs.CodeLemmas.{same_cut, added, added_simple}
use Rattle.simplifier.proofs.steps.add_cut.Goals as goal

pub returns-clause-same : goal.returns-clause-same
returns-clause-same g c =
    let new = Cut c.args.array c.in_ok-e.e in
    let old = Cut c.args.array c.args.e.now in
    added g.S.Semiring.arithmetic c.push.result c.push.new.self c.args.out.now new old c.push.ensures.ok
    (same_cut g.S.Semiring.arithmetic c.args.array c.in_ok-e.e c.args.e.now c.in_ok-e.ensures.same)

pub returns-clause-simple : goal.returns-clause-simple
returns-clause-simple g c =
    let new = Cut c.args.array c.in_ok-e.e in
    added_simple g.S.Semiring.arithmetic c.push.result c.push.new.self c.args.out.now new c.push.ensures.ok c.in_ok-e.ensures.folded
