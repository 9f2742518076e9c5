use Rattle.std.proofs.Common.{sym, ◌∙◌}
use Rattle.std.proofs.lemmas.Bool.{false≢true}
use Rattle.expr_terms.proofs.NameLaws.{distinct_step, repeats}
use Rattle.expr_terms.proofs.names.first_repeated.Goals as goal

pub returns-then-is_among : goal.returns-then-is_among
returns-then-is_among c =
    repeats c.args.numbers.now c.loop-i.i c.loop-i-test.true c.loop-i.invariant (c.is_among.ensures.0 c.if-is_among.true)

pub loop-i-preserved : goal.loop-i-preserved
loop-i-preserved c = distinct_step c.args.numbers.now c.loop-i.i c.loop-i-test.true c.loop-i.invariant
    (λ k. false≢true (sym c.if-is_among.false ∙ c.is_among.ensures.1 k))
