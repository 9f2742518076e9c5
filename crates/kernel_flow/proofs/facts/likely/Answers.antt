use Rattle.kernel_flow.proofs.FactLemmas.{gives_place, gives_pushed_copy, gives_now}
use Rattle.kernel_flow.proofs.facts.likely.Goals as goal
use Rattle.kernel_flow.proofs.facts.likely.Goals.{then-is_likely+in_ok-copy+in_ok-push, else-is_likely}

pub loop-fact-preserved : goal.loop-fact-preserved
loop-fact-preserved c =
    elim c.if-is_likely.branch [
      | then-is_likely+in_ok-copy+in_ok-push w ↦
          let f = c.fact-item.result in
          gives_pushed_copy c.args.facts.now c.loop-fact.some c.if-is_likely.some f w.in_ok-copy.copy c.loop-fact.invariant
          (gives_place c.args.facts.now f c.loop-fact.fact-index c.loop-fact-test.true c.fact-item.is) w.in_ok-copy.ensures
          w.in_ok-push.ensures.ok w.some-is
      | else-is_likely w ↦ gives_now c.args.facts.now c.loop-fact.some c.if-is_likely.some c.loop-fact.invariant w.some-is
    ]
