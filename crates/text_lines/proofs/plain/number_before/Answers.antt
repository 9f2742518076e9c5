use Rattle.std.proofs.Common.{List, ℕ, subst, sym}
use Rattle.text_lines.proofs.PlainLaws.{number_begins}
use Rattle.text_lines.specs.Plain.{BeginsWith}
use Rattle.text_lines.proofs.plain.number_before.Goals as goal

pub returns-then-end-gt0 : goal.returns-then-end-gt0
returns-then-end-gt0 c =
    let text : List ℕ = c.args.text.now in
    subst (BeginsWith text c.args.number) (sym c.split_at.ensures.back)
    (number_begins text c.args.end c.args.number c.requires.within c.requires.few c.if-end-gt0.true c.requires.digits c.requires.number)
