use Rattle.std.proofs.Common.{◌∙◌, sym, ap, subst}
use Rattle.term_code.specs.SumSinks.{BeginsSum, begin_code}
use Rattle.term_code.proofs.SumLaws.{begins_sum}
use Rattle.term_code.proofs.sum_sink.SumSink.begin.Goals as goal

pub returns : goal.returns
returns g c =
    let a = g.S.Semiring.arithmetic in
    let at = c.args.self.now.at in
    subst (BeginsSum a at) (sym (c.in_ok-code.ensures ∙ ap (begin_code at) c.zero.ensures)) (begins_sum a at)
