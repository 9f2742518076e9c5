use Rattle.std.specs.Prelude.{◌≡◌, nat_eq, false}
use Rattle.std.proofs.Common.{sym, subst, arith}
use Rattle.std.proofs.lemmas.Bool.Decides.{nat_tests}
use Rattle.loop_code.specs.Opened.{HasNoSum}
use Rattle.loop_flags.proofs.LiveLaws.{none_loop, none_both, none_sum}
use Rattle.loop_flags.proofs.staying.+starts_no_sum.Goals as goal

pub returns-in-Loop : goal.returns-in-Loop
returns-in-Loop t c = λ z.
    let k = c.args.access in
    subst (HasNoSum k) (sym c.in-Loop.is) (none_loop k c.in-Loop.variable c.in-Loop.seeks c.in-Loop.body
    (subst (HasNoSum k) c.get.ensures (c.starts_no_sum.ensures z)))

pub returns-then-starts_no_sum : goal.returns-then-starts_no_sum
returns-then-starts_no_sum t c = λ z.
    let k = c.args.access in
    subst (HasNoSum k) (sym c.in-Both.is) (none_both k c.in-Both.first c.in-Both.second
    (subst (HasNoSum k) c.get-in-Both.ensures (c.starts_no_sum-in-Both.ensures c.if-starts_no_sum.true))
    (subst (HasNoSum k) c.get-then-starts_no_sum.ensures (c.starts_no_sum-then-starts_no_sum.ensures z)))

pub returns-then-starts_no_sum-2 : goal.returns-then-starts_no_sum-2
returns-then-starts_no_sum-2 t c = λ z.
    let k = c.args.access in
    let apart : nat_eq c.in-Sum.sum k ≡ false = grind (arith, nat_tests) in
    subst (HasNoSum k) (sym c.in-Sum.is) (none_sum k c.in-Sum.sum c.in-Sum.inside c.in-Sum.body apart
    (subst (HasNoSum k) c.get-in-Sum.ensures (c.starts_no_sum-in-Sum.ensures c.if-starts_no_sum-2.true))
    (subst (HasNoSum k) c.get-then-starts_no_sum-2.ensures (c.starts_no_sum-then-starts_no_sum-2.ensures z)))
