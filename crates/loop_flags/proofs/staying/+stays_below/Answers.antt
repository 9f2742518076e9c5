use Rattle.std.specs.Prelude.{◌≡◌, nat_eq, false}
use Rattle.std.proofs.Common.{sym, subst, arith}
use Rattle.std.proofs.lemmas.Bool.Decides.{nat_tests}
use Rattle.loop_flags.specs.Liveness.{StandsAloneBelow, StaysBelow}
use Rattle.loop_flags.proofs.LiveLaws.{stays_loop, stays_both, stays_sum, stays_summed}
use Rattle.loop_flags.proofs.staying.+stays_below.Goals as goal

pub returns-in-Loop : goal.returns-in-Loop
returns-in-Loop t c = λ z.
    let k = c.args.access in
    subst (StaysBelow k) (sym c.in-Loop.is) (stays_loop k c.in-Loop.variable c.in-Loop.seeks c.in-Loop.body
    (subst (StaysBelow k) c.get.ensures (c.stays_below.ensures z)))

pub returns-then-stays_below : goal.returns-then-stays_below
returns-then-stays_below t c = λ z.
    let k = c.args.access in
    subst (StaysBelow k) (sym c.in-Both.is)
    (stays_both k c.in-Both.first c.in-Both.second
    (subst (StaysBelow k) c.get-in-Both.ensures (c.stays_below-in-Both.ensures c.if-stays_below.true))
    (subst (StaysBelow k) c.get-then-stays_below.ensures (c.stays_below-then-stays_below.ensures z)))

pub returns-then-stays_below-2 : goal.returns-then-stays_below-2
returns-then-stays_below-2 t c = λ z.
    let k = c.args.access in
    let apart : nat_eq c.in-Sum.sum k ≡ false = grind (arith, nat_tests) in
    subst (StaysBelow k) (sym c.in-Sum.is) (stays_sum k c.in-Sum.sum c.in-Sum.inside c.in-Sum.body apart
    (subst (StaysBelow k) c.get-body.ensures (c.stays_below-then-sum-access.ensures c.if-stays_below-2.true)))

pub returns-then-stands_alone_below-2 : goal.returns-then-stands_alone_below-2
returns-then-stands_alone_below-2 t c = λ z.
    let k = c.args.access in
    subst (StaysBelow k) (sym c.in-Sum.is) (stays_summed k c.in-Sum.sum c.in-Sum.inside c.in-Sum.body
    (subst (StandsAloneBelow k) c.get-in-Sum.ensures (c.stands_alone_below-in-Sum.ensures c.if-stands_alone_below-2.true))
    (subst (StaysBelow c.in-Sum.sum) c.get-body.ensures (c.stays_below-then-stands_alone_below-2.ensures z)))
