use Rattle.std.proofs.Common.{subst}
use Rattle.text_lines.specs.Plain.{BeginsWith}
use Rattle.text_lines.proofs.plain.spaced_number.Goals as goal

pub returns : goal.returns
returns c = subst (BeginsWith c.args.text.now c.in_ok-number.number) c.in_ok-rest.ensures c.in_ok-number.ensures
