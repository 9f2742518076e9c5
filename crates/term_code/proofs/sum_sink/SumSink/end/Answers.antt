use Rattle.std.proofs.Common.{sym, subst}
use Rattle.term_code.specs.SumSinks.{EndsSum}
use Rattle.term_code.proofs.SumLaws.{ends_sum}
use Rattle.term_code.proofs.sum_sink.SumSink.end.Goals as goal

pub returns : goal.returns
returns c =
    let at = c.args.self.now.at in
    subst (EndsSum at) (sym c.in_ok-code.ensures) (ends_sum at)
