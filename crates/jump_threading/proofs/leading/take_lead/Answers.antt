use Rattle.std.proofs.Common.{refl}
use Rattle.jump_threading.proofs.LeadLemmas.{leaves_more}
use Rattle.jump_threading.proofs.leading.take_lead.Goals as goal

pub loop-lead-preserved : goal.loop-lead-preserved
loop-lead-preserved c =
    leaves_more c.args.before.now c.args.test.now c.loop-lead.lead c.index-before-before.result c.loop-lead-test.true
    c.index-before-before.is (c.if-not-leaves_value.ensures refl) c.loop-lead.invariant
