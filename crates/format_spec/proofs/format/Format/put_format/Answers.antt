use Rattle.std.specs.Prelude.{◌<◌, All}
use Rattle.std.proofs.Common.{sym, subst, arith}
use Rattle.limits.specs.Limits.{greatest_order}
use Rattle.format_spec.specs.Formats.{modes_of}
use Rattle.format_spec.proofs.format.Format.put_format.Goals as goal

pub text_of_levels-text-requires-clause-digits : goal.text_of_levels-text-requires-clause-digits
unfolding greatest_order
text_of_levels-text-requires-clause-digits g c k d h =
    let levels = c.args.self.now in
    let format = c.levels.ensures.format in
    let digits : All (λ mode. mode < 10) (modes_of levels) = λ i e inside. let below =
    format.order.below i e inside in omega (arith, below, format.short) in
    subst (λ ls. All (λ mode. mode < 10) (modes_of ls)) (sym c.levels.ensures.value) digits k d h
