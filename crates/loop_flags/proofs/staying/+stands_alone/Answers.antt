use Rattle.std.proofs.Common.{◌∙◌, sym, subst}
use Rattle.loop_flags.specs.Liveness.{StandsAlone}
use Rattle.loop_flags.proofs.LiveLaws.{alone_first, alone_second, alone_neg}
use Rattle.loop_flags.proofs.staying.+stands_alone.Goals as goal

pub returns-then-stands_alone : goal.returns-then-stands_alone
returns-then-stands_alone t c = λ z.
    let k = c.args.access in
    subst (StandsAlone k) (sym c.in-Binary.is) (alone_first k c.in-Binary.operator c.in-Binary.first c.in-Binary.second
    (sym c.is_product.ensures ∙ c.if-is_product.false) (subst (StandsAlone k) c.get.ensures (c.stands_alone.ensures z)))

pub returns-else-stands_alone : goal.returns-else-stands_alone
returns-else-stands_alone t c = λ z.
    let k = c.args.access in
    subst (StandsAlone k) (sym c.in-Binary.is) (alone_second k c.in-Binary.operator c.in-Binary.first c.in-Binary.second
    (sym c.is_product.ensures ∙ c.if-is_product.false)
    (subst (StandsAlone k) c.get-else-stands_alone.ensures (c.stands_alone-else-stands_alone.ensures z)))

pub returns-in-Neg : goal.returns-in-Neg
returns-in-Neg t c = λ z.
    let k = c.args.access in
    subst (StandsAlone k) (sym c.in-Neg.is) (alone_neg k c.in-Neg.inner
    (subst (StandsAlone k) c.get-in-Neg.ensures (c.stands_alone-in-Neg.ensures z)))
