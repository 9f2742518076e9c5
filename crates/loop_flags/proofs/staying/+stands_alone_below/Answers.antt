use Rattle.std.specs.Prelude.{◌≡◌, nat_eq, false}
use Rattle.std.proofs.Common.{sym, subst, arith}
use Rattle.std.proofs.lemmas.Bool.Decides.{nat_tests}
use Rattle.loop_flags.specs.Liveness.{StandsAloneBelow}
use Rattle.loop_flags.proofs.LiveLaws.{alone_loop, alone_both_first, alone_both_second, alone_sum}
use Rattle.loop_flags.proofs.staying.+stands_alone_below.Goals as goal

pub returns-in-Loop : goal.returns-in-Loop
returns-in-Loop t c = λ z.
    let k = c.args.access in
    subst (StandsAloneBelow k) (sym c.in-Loop.is) (alone_loop k c.in-Loop.variable c.in-Loop.seeks c.in-Loop.body
    (subst (StandsAloneBelow k) c.get.ensures (c.stands_alone_below.ensures z)))

pub returns-then-stands_alone_below : goal.returns-then-stands_alone_below
returns-then-stands_alone_below t c = λ z.
    let k = c.args.access in
    subst (StandsAloneBelow k) (sym c.in-Both.is) (alone_both_first k c.in-Both.first c.in-Both.second
    (subst (StandsAloneBelow k) c.get-in-Both.ensures (c.stands_alone_below-in-Both.ensures z)))

pub returns-else-stands_alone_below : goal.returns-else-stands_alone_below
returns-else-stands_alone_below t c = λ z.
    let k = c.args.access in
    subst (StandsAloneBelow k) (sym c.in-Both.is) (alone_both_second k c.in-Both.first c.in-Both.second
    (subst (StandsAloneBelow k) c.get-else-stands_alone_below.ensures (c.stands_alone_below-else-stands_alone_below.ensures z)))

pub returns-then-sum-access : goal.returns-then-sum-access
returns-then-sum-access t c = λ z.
    let k = c.args.access in
    let apart : nat_eq c.in-Sum.sum k ≡ false = grind (arith, nat_tests) in
    subst (StandsAloneBelow k) (sym c.in-Sum.is) (alone_sum k c.in-Sum.sum c.in-Sum.inside c.in-Sum.body apart
    (subst (StandsAloneBelow k) c.get-then-sum-access.ensures (c.stands_alone_below-then-sum-access.ensures z)))
