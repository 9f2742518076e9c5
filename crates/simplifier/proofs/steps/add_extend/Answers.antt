use Rattle.kernel_code.specs.declared.syntax.KStmt.{Extend}
use Rattle.simplifier.proofs.CodeLemmas.{same_extend, added, added_simple}
use Rattle.simplifier.proofs.steps.add_extend.Goals as goal

pub returns-clause-same : goal.returns-clause-same
returns-clause-same g c =
    let first = c.in_ok-count in
    let second = c.in_ok-e in
    let new = Extend c.args.array first.count second.e in
    let old = Extend c.args.array c.args.count.now c.args.e.now in
    added g.S.Semiring.arithmetic c.push.result c.push.new.self c.args.out.now new old c.push.ensures.ok
    (same_extend g.S.Semiring.arithmetic c.args.array first.count second.e c.args.count.now c.args.e.now first.ensures.same
    second.ensures.same)

pub returns-clause-simple : goal.returns-clause-simple
returns-clause-simple g c =
    let first = c.in_ok-count in
    let second = c.in_ok-e in
    let new = Extend c.args.array first.count second.e in
    added_simple g.S.Semiring.arithmetic c.push.result c.push.new.self c.args.out.now new c.push.ensures.ok
    (first.ensures.folded, second.ensures.folded)
