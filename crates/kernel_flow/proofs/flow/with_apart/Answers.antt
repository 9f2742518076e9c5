use Rattle.kernel_flow.proofs.ApartLemmas.{loop_beside}
use Rattle.kernel_flow.proofs.flow.with_apart.Goals as goal

pub returns : goal.returns
returns c =
    loop_beside c.args.set.now c.args.facts c.args.passed.facts c.in_ok-all.all c.in_ok-others.others c.append.new.self c.args.kind
    c.args.test.now c.args.body.now c.args.passed.code c.requires c.in_ok-all.ensures.gives c.in_ok-all.ensures.apart
    (c.sets_only.ensures c.if-not-sets_only.false) c.in_ok-others.ensures c.in_ok-append.ensures.ok
