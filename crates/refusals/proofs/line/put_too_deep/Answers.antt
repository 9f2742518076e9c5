use Rattle.std.specs.Prelude.{ℕ, [], codes, OnOk, IfErr}
use Rattle.std.proofs.Common.{subst}
use Rattle.outside.specs.Sink.{Appends}
use Rattle.text_lines.specs.Puts.{AppendsPart}
use Rattle.refusals.specs.Lines.{limit_at}
use Rattle.refusals.proofs.line.put_too_deep.Goals as goal

pub returns-clause-whole : goal.returns-clause-whole
returns-clause-whole g c =
    subst (λ (n : ℕ). OnOk c.put_limit_at.result (Appends (g.S.Sink.state c.args.sink.now) (g.S.Sink.state c.put_limit_at.new.sink)
    (limit_at (codes "nesting deeper than ") n [] c.args.at)))
    c.greatest_nesting_of_expression.ensures c.put_limit_at.ensures.whole

pub returns-clause-part : goal.returns-clause-part
returns-clause-part g c =
    subst (λ (n : ℕ). IfErr c.put_limit_at.result (AppendsPart (g.S.Sink.state c.args.sink.now) (g.S.Sink.state c.put_limit_at.new.sink)
    (limit_at (codes "nesting deeper than ") n [] c.args.at)))
    c.greatest_nesting_of_expression.ensures c.put_limit_at.ensures.part
