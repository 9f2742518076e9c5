use Rattle.std.proofs.Common.{ap, ◌∙◌}
use Rattle.text_lines.specs.Tokens.{tokens}
use Rattle.mtx_io.specs.Size.{size_of}
use Rattle.mtx_io.proofs.EndedEntries.{known_sized}
use Rattle.mtx_io.proofs.ProgressLaws.{size_good}
use Rattle.mtx_io.proofs.step.after_size.Goals as goal

pub returns-in-Some-clause-follows : goal.returns-in-Some-clause-follows
returns-in-Some-clause-follows g c =
    let size = c.in-Some.ensures.size
    ∙ ap (λ one. size_of one c.args.order c.args.banner (tokens c.args.line.now)) c.one.ensures in
    λ has_minus. size_good g.S.Semiring.arithmetic has_minus g.S.Semiring.is_signed c.args.order c.args.number c.args.line.now
    c.args.banner c.in-Some.lines
    c.requires.short c.requires.kept size

pub returns-in-Some-clause-known : goal.returns-in-Some-clause-known
returns-in-Some-clause-known g c = λ taken some. known_sized taken c.args.line.now some c.requires.kept
