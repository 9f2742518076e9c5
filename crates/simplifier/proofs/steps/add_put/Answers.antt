use Rattle.kernel_code.specs.declared.syntax.KStmt.{Put}
use Rattle.simplifier.proofs.CodeLemmas.{same_put, added, added_simple}
use Rattle.simplifier.proofs.steps.add_put.Goals as goal

pub returns-clause-same : goal.returns-clause-same
returns-clause-same g c =
    let first = c.in_ok-index in
    let second = c.in_ok-e in
    let new = Put c.args.array first.index second.e in
    let old = Put c.args.array c.args.index.now c.args.e.now in
    added g.S.Semiring.arithmetic c.push.result c.push.new.self c.args.out.now new old c.push.ensures.ok
    (same_put g.S.Semiring.arithmetic c.args.array first.index second.e c.args.index.now c.args.e.now first.ensures.same
    second.ensures.same)

pub returns-clause-simple : goal.returns-clause-simple
returns-clause-simple g c =
    let first = c.in_ok-index in
    let second = c.in_ok-e in
    let new = Put c.args.array first.index second.e in
    added_simple g.S.Semiring.arithmetic c.push.result c.push.new.self c.args.out.now new c.push.ensures.ok
    (first.ensures.folded, second.ensures.folded)
